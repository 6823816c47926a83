-- dBASE tables: what more bytes keep and may make, and the bytes that each has.
use Rattle.infer_formats.proofs.Common.{◌≡◌, ℕ, ◌+◌, ◌≤◌, List, ◌++◌, length, codes, sym, subst, ◌∙◌, arith, get_or_append_left, le16, MayBecome, BeginsName, IsDbase, after, versions, true, refl, ap, ◌↔◌, IsTrue, and_from, le-leb, lt-ltb, or_left, nat_le, nat_lt, le16-append, lines, dbase, StandsByPlace, accepts, stands, ◌==◌, inl, slice_index}
use Rattle.infer_formats.specs.Dbase.{IsOneOf, MayBeDbase}
use Rattle.infer_formats.proofs.GrowthLemmas.{carried, kept, longer}
use Rattle.infer_formats.proofs.OpenLemmas.{known}
use Rattle.infer_formats.proofs.OutlineLemmas.{pair}
use Rattle.std.specs.List.{list_any}
use Rattle.infer_sig.proofs.KnownLemmas.{Known, at_most, both, is, needs, proved, same, takes, ◌>>=◌}

-- ---- a buffer that grows

module _ (b more : List ℕ) where
  pub dbase-lasts : IsDbase b → IsDbase (b ++ more)
  dbase-lasts (long, (version, month, day, zeros), (name, kind), many, (e, (sum, low, whole, inside, end))) = (
    longer b more 65 long,
    (
      carried b more (IsOneOf versions) 0 (omega arith) version,
      carried b more (λ x. (0x01 ≤ x) × (x ≤ 0x0C)) 2 (omega arith) month,
      carried b more (λ x. (0x01 ≤ x) × (x ≤ 0x1F)) 3 (omega arith) day,
      (kept b more 12 (omega arith) ∙ zeros.0, kept b more 13 (omega arith) ∙ zeros.1),
    ),
    (carried b more BeginsName 32 (omega arith) name, carried b more (IsOneOf (codes "+@BCDFGILMNOPTVXY")) 43 (omega arith) kind),
    subst (λ n. 2 ≤ n) (sym (le16-append b more 10 (omega arith))) many,
    (
      e,
      (
        ap (λ x. e + after x) (kept b more 0 (omega arith)) ∙ sum ∙ sym (le16-append b more 8 (omega arith)),
        low,
        whole,
        longer b more _ inside,
        kept b more e (omega arith) ∙ end,
      ),
    ),
  )

-- ---- what more bytes may make

module _ (b more : List ℕ) where
  known_many : 2 ≤ le16 (b ++ more) 10 → 12 ≤ length b → 2 ≤ le16 b 10
  unfolding le16
  known_many many long = omega (arith, get_or_append_left b more 0 10 (omega arith), get_or_append_left b more 0 11 (omega arith))

pub dbase_known : (b : List ℕ) → MayBecome IsDbase b → MayBeDbase b
dbase_known b (more, bytes, (long, (version, month, day, zeros), (name, kind), many, (e, fields))) = record {
  dated = (
    known b more (IsOneOf versions) 0 version,
    known b more (λ x. (0x01 ≤ x) × (x ≤ 0x0C)) 2 month,
    known b more (λ x. (0x01 ≤ x) × (x ≤ 0x1F)) 3 day,
    known b more (λ x. x ≡ 0) 12 zeros.0,
    known b more (λ x. x ≡ 0) 13 zeros.1,
  );
  field = (known b more BeginsName 32 name, known b more (IsOneOf (codes "+@BCDFGILMNOPTVXY")) 43 kind);
  many = known_many b more many;
}

-- ---- the bytes that each has

module _ (by_place : (place : ℕ) (t buf : List ℕ) → IsTrue (stands place t buf) ↔ StandsByPlace place t buf) (b : List ℕ) where
  pub dbase_lines : IsDbase b → IsTrue (accepts (lines dbase) b)
  dbase_lines (long, dated, field, many, ends) =
      or_left _ _ (and_from (nat_le 14 (length b)) _ (le-leb 14 (length b) (omega arith))
      (and_from _ _ (and_from (nat_lt 0 (length b)) _ (lt-ltb 0 (length b) (omega arith)) dated.0)
      (and_from _ true (pair by_place b 12 0x00 0x00 (omega arith) dated.3.0 dated.3.1) refl)))

-- ---- what a computation says of a table of dBASE

module _ (b : List ℕ) where
  -- one field
  abbrev pub known_table : Known (IsDbase b)
  known_table = do
    long ← needs (at_most 65 (length b)) (λ h. h.0)
    version ← takes (is (list_any (λ y. slice_index b 0 == y) versions))
    month ← needs (both (at_most 0x01 (slice_index b 2)) (at_most (slice_index b 2) 0x0C)) (λ h. h.1.1)
    day ← needs (both (at_most 0x01 (slice_index b 3)) (at_most (slice_index b 3) 0x1F)) (λ h. h.1.2)
    zeros ← takes (both (same (slice_index b 12) 0) (same (slice_index b 13) 0))
    name ← takes (both (at_most 0x41 (slice_index b 32)) (at_most (slice_index b 32) 0x5A))
    kind ← takes (is (list_any (λ y. slice_index b 43 == y) (codes "+@BCDFGILMNOPTVXY")))
    many ← takes (at_most 2 (le16 b 10))
    sum ← takes (same (64 + after (slice_index b 0)) (le16 b 8))
    end ← takes (same (slice_index b 64) 0x0D)
    proved (long, (version, month, day, zeros), (inl name, kind), many, (64, (sum, omega arith, refl, long, end)))
