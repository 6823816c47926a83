-- Shared objects: what more bytes keep, what they may make, and the bytes that each has.
use Rattle.infer_formats.proofs.Common.{[], IsTrue, ◌≡◌, inl, inr, ℕ, ◌+◌, ◌*◌, ◌<◌, ◌≤◌, Bool, true, false, List, ◌++◌, length, get_or, refl, sym, subst, ◌∙◌, arith, cases_lt, le16, are_bytes, MayBecome, grown_agrees, AsksAt, HasOwnTable, IsSharedObject, counted_length, entry_count, entry_size, known_size, table_place, be16, bytes16, number16, ◌∷◌, number32, ◌↔◌, lines, shared_object, StandsByPlace, accepts, at_least, stands, slice_index}
use Rattle.infer_formats.specs.Elf.{MayBeSharedObject, size_at}
use Rattle.infer_sig.specs.Signature.{text}
use Rattle.infer_formats.proofs.GrowthLemmas.{number32-append, number64-append, kept, longer, number16-append}
use Rattle.infer_formats.proofs.OpenLemmas.{grown_byte, number16_stands}
use Rattle.infer_formats.proofs.OutlineLemmas.{other, pair, one}
use Rattle.infer_sig.specs.Signature as fixed
use Rattle.infer_deep.specs.Numbers.{le32}
use Rattle.infer_formats.proofs.TestLemmas.{only_first}
use Rattle.infer_sig.proofs.KnownLemmas.{Known, at_most, negated, proved, same, takes, ◌>>=◌}

header_inside : (b : List ℕ) (wide : Bool) → counted_length wide ≤ length b → (46 ≤ length b) × (size_at wide + 2 ≤ length b)
header_inside b true le = (omega arith, omega arith)
header_inside b false le = (le, omega arith)

entry_inside : (b : List ℕ) (wide : Bool) (at many i : ℕ) → at + many * known_size wide ≤ length b → i < many → at + i * known_size wide + 4 ≤ length b
entry_inside b true at many i le lt = omega arith
entry_inside b false at many i le lt = omega arith

-- ---- a buffer that grows

module _ (b more : List ℕ) where
  pub table_place-append : (wide big : Bool) → counted_length wide ≤ length b → table_place wide big (b ++ more) ≡ table_place wide big b
  table_place-append true big le = number64-append b more big 32 (omega arith)
  table_place-append false big le = number32-append b more big 28 (omega arith)

  pub entry_size-append : (wide big : Bool) → counted_length wide ≤ length b → entry_size wide big (b ++ more) ≡ entry_size wide big b
  entry_size-append true big le = number16-append b more big 54 (omega arith)
  entry_size-append false big le = number16-append b more big 42 (omega arith)

  pub entry_count-append : (wide big : Bool) → counted_length wide ≤ length b → entry_count wide big (b ++ more) ≡ entry_count wide big b
  entry_count-append true big le = number16-append b more big 56 (omega arith)
  entry_count-append false big le = number16-append b more big 44 (omega arith)

  own_table : (wide big : Bool) → HasOwnTable wide big b → HasOwnTable wide big (b ++ more)
  own_table wide big t =
      let place = table_place-append wide big t.long in
      let count = entry_count-append wide big t.long in
      let header = (header_inside b wide t.long).0 in
      record {
        long = longer b more (counted_length wide) t.long;
        kind = number16-append b more big 16 (omega arith) ∙ t.kind;
        size = entry_size-append wide big t.long ∙ t.size;
        some = subst (λ n. 1 ≤ n) (sym count) t.some;
        whole = longer b more _ (subst (λ at. at + entry_count wide big (b ++ more) * known_size wide ≤ length b) (sym place)
            (subst (λ n. table_place wide big b + n * known_size wide ≤ length b) (sym count) t.whole));
        alone = λ i lt asks. t.alone i (subst (λ n. i < n) count lt)
            (sym (number32-append b more big (table_place wide big b + i * known_size wide)
            (entry_inside b wide (table_place wide big b) (entry_count wide big b) i t.whole (subst (λ n. i < n) count lt)))
            ∙ subst (λ at. number32 big (b ++ more) (at + i * known_size wide) ≡ 3) place asks);
      }

  pub shared_object-lasts : IsSharedObject b → IsSharedObject (b ++ more)
  shared_object-lasts (wide, big, class, order, t) =
      let header = (header_inside b wide t.long).0 in
      (wide, big, kept b more 4 (omega arith) ∙ class, kept b more 5 (omega arith) ∙ order, own_table wide big t)

-- ---- what more bytes may make

size_number : (wide big : Bool) (c : List ℕ) → entry_size wide big c ≡ number16 big c (size_at wide)
size_number true big c = refl
size_number false big c = refl

pub object_known : (b : List ℕ) → IsTrue (are_bytes b) → MayBecome IsSharedObject b → MayBeSharedObject b
object_known b b_bytes (more, bytes, (wide, big, class, order, t)) = elim (cases_lt 5 (length b)) [
  | inr short ↦ inl short
  | inl l ↦
      let c = b ++ more in
      let small : (k : ℕ) → get_or c k 0 < 256 = λ k. grown_byte b more k b_bytes bytes in
      let header = header_inside c wide t.long in
      let size : number16 big c (size_at wide) ≡ known_size wide = sym (size_number wide big c) ∙ t.size in
      let kind_stands = number16_stands c big 16 3 small (omega arith) t.kind in
      let size_stands = number16_stands c big (size_at wide) (known_size wide) small header.1 size in
      inr (
        wide,
        big,
        sym (kept b more 4 (omega arith)) ∙ class,
        sym (kept b more 5 (omega arith)) ∙ order,
        record {
          kind = grown_agrees b more (bytes16 big 3) 16 kind_stands;
          size = grown_agrees b more (bytes16 big (known_size wide)) (size_at wide) size_stands;
          alone = λ long. (
            subst (λ n. 1 ≤ n) (entry_count-append b more wide big long) t.some,
            λ i lt fits asks.
                let w = table_place wide big b + i * known_size wide in
                t.alone i (subst (λ n. i < n) (sym (entry_count-append b more wide big long)) lt)
                (subst (λ at. AsksAt big c (at + i * known_size wide)) (sym (table_place-append b more wide big long)) (number32-append b more big w fits ∙ asks)),
          );
        },
      )
]

-- ---- the bytes that each has

module _ (by_place : (place : ℕ) (t buf : List ℕ) → IsTrue (stands place t buf) ↔ StandsByPlace place t buf) (b : List ℕ) where
  abbrev little_object : fixed.Alternative
  little_object = at_least 18 (text 16 (0x03 ∷ 0x00 ∷ []) ∷ [])

  abbrev big_object : fixed.Alternative
  big_object = at_least 18 (text 16 (0x00 ∷ 0x03 ∷ []) ∷ [])

  pub object_lines : (wide big : Bool) → HasOwnTable wide big b → IsTrue (accepts (lines shared_object) b)
  unfolding le16 be16
  object_lines true false t = let n = t.long in let is = t.kind in one by_place b 18 (text 16 (0x03 ∷ 0x00 ∷ [])) (big_object ∷ []) (omega arith) (pair by_place b 16 0x03 0x00 (omega arith) (omega arith) (omega arith))
  object_lines false false t = let n = t.long in let is = t.kind in one by_place b 18 (text 16 (0x03 ∷ 0x00 ∷ [])) (big_object ∷ []) (omega arith) (pair by_place b 16 0x03 0x00 (omega arith) (omega arith) (omega arith))
  object_lines true true t = let n = t.long in let is = t.kind in other by_place b little_object (big_object ∷ []) (one by_place b 18 (text 16 (0x00 ∷ 0x03 ∷ [])) [] (omega arith) (pair by_place b 16 0x00 0x03 (omega arith) (omega arith) (omega arith)))
  object_lines false true t = let n = t.long in let is = t.kind in other by_place b little_object (big_object ∷ []) (one by_place b 18 (text 16 (0x00 ∷ 0x03 ∷ [])) [] (omega arith) (pair by_place b 16 0x00 0x03 (omega arith) (omega arith) (omega arith)))

-- ---- what a computation says of an ELF file

module _ (b : List ℕ) where
  -- a narrow file whose lowest byte comes first, with one entry
  abbrev pub known_object : Known (IsSharedObject b)
  known_object = do
    class ← takes (same (slice_index b 4) 1)
    order ← takes (same (slice_index b 5) 1)
    long ← takes (at_most 46 (length b))
    kind ← takes (same (le16 b 16) 3)
    size ← takes (same (le16 b 42) 32)
    one ← takes (same (le16 b 44) 1)
    whole ← takes (at_most (le32 b 28 + le16 b 44 * 32) (length b))
    alone ← takes (negated (same (le32 b (le32 b 28 + 0 * 32)) 3))
    proved (
      false,
      false,
      class,
      order,
      record {
        long = long;
        kind = kind;
        size = size;
        some = omega arith;
        whole = whole;
        alone = λ i lt. only_first (λ i. ¬ (le32 b (le32 b 28 + i * 32) ≡ 3)) alone i (omega arith);
      },
    )
