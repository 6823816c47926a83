-- What stands after a tag: what more bytes keep and may bring, and what a computation says of it.
use Rattle.infer_formats.proofs.Common.{◌≡◌, ◌⊎◌, inl, inr, ℕ, ◌+◌, ◌<◌, ◌≤◌, List, ◌++◌, IsTrue, length, slice_index, codes, suc, sym, subst, arith, cases_lt, get_or_append_left, OccursAt, OccursAt-append, AgreesAt, MayBecome, grown_agrees, StandsByPlace, accepts, lines, stands, ◌↔◌}
use Rattle.infer_formats.specs.Id3.{IsAfterId3, IsSynchsafe, tag_size}
use Rattle.infer_formats.specs.Relation.{behind_id3}
use Rattle.infer_formats.proofs.OutlineLemmas.{begins}
use Rattle.infer_sig.proofs.KnownLemmas.{Known, at_most, needs, proved, takes, ◌>>=◌}
use Rattle.infer_sig.proofs.OccurrenceLemmas.{ByPlace, occurs}

module _ (b more : List ℕ) (long : 10 ≤ length b) where
  size_kept : tag_size (b ++ more) ≡ tag_size b
  size_kept = omega (arith, get_or_append_left b more 0 6 (omega arith), get_or_append_left b more 0 7 (omega arith), get_or_append_left b more 0 8 (omega arith), get_or_append_left b more 0 9 (omega arith))

  safe_kept : (k : ℕ) → k < 10 → IsSynchsafe (slice_index b k) → IsSynchsafe (slice_index (b ++ more) k)
  safe_kept k lt h = subst IsSynchsafe (sym (get_or_append_left b more 0 k (omega arith))) h

pub after-lasts : (b more t : List ℕ) → IsAfterId3 t b → IsAfterId3 t (b ++ more)
after-lasts b more t (tag, (p, q, r, s), o) =
    let fits = o.fits in
    let long : 10 ≤ length b = omega arith in (
      OccursAt-append b more _ 0 tag,
      (safe_kept b more long 6 (omega arith) p, safe_kept b more long 7 (omega arith) q, safe_kept b more long 8 (omega arith) r, safe_kept b more long 9 (omega arith) s),
      subst (λ n. OccursAt (b ++ more) t (10 + n)) (sym (size_kept b more long)) (OccursAt-append b more t _ o),
    )

pub after_known : (t b : List ℕ) → MayBecome (IsAfterId3 t) b → AgreesAt b (codes "ID3") 0 × ((length b < 10) ⊎ AgreesAt b t (10 + tag_size b))
after_known t b (more, bytes, (tag, safe, o)) = (
  grown_agrees b more _ 0 tag,
  elim (cases_lt (length b) 10) [
    | inl l ↦ inl l
    | inr long ↦ inr (subst (λ n. AgreesAt b t (10 + n)) (size_kept b more long) (grown_agrees b more t _ o))
  ],
)

pub after_lines : (by_place : (place : ℕ) (t buf : List ℕ) → IsTrue (stands place t buf) ↔ StandsByPlace place t buf) (b t : List ℕ) → IsAfterId3 t b
    → IsTrue (accepts (lines (behind_id3 t)) b)
after_lines by_place b t (tag, safe, o) = let le = tag.fits in begins by_place b 3 (codes "ID3") (omega arith) tag

-- ---- what a computation says of it

module _ (by_place : ByPlace) (b : List ℕ) where
  abbrev safe : (k : ℕ) → Known (IsSynchsafe (slice_index b k))
  safe k = at_most (suc (slice_index b k)) 0x80

  abbrev pub known_after : (t : List ℕ) → Known (IsAfterId3 t b)
  known_after t = do
    tag ← takes (occurs by_place (codes "ID3") b 0)
    first ← takes (safe 6)
    second ← takes (safe 7)
    third ← takes (safe 8)
    fourth ← takes (safe 9)
    stands ← needs (occurs by_place t b (10 + tag_size b)) (λ h. h.2)
    proved (tag, (first, second, third, fourth), stands)
