-- Where a text stands nowhere, and bytes that tell it.
use Rattle.std.specs.Prelude.{◌≢◌, ◌+◌, ◌-◌, ◌<◌, ◌≤◌, ℕ, List, length, slice_index}
use Rattle.memchr.specs.Find.{OccursAt}
use Rattle.infer_evidence.specs.declared.search.Hit.{Hit}

-- the text stands in b at no place of those from which it would end by `end`
abbrev pub StandsNowhereBy : List ℕ → ℕ → List ℕ → Type 0
StandsNowhereBy text end b = (p : ℕ) → p + length text ≤ end → ¬ OccursAt b text p

-- the byte of the hit is another than the text has there if it stands at a place from `start` up to the next
pub record IsHit (text b : List ℕ) (start : ℕ) (h : Hit) : Type 0 where
  pub here : h.place < length b
  pub far : start < h.next
  pub near : h.next ≤ h.place + 1
  pub high : h.place < start + length text
  pub other : (p : ℕ) → start ≤ p → p < h.next → slice_index b h.place ≢ slice_index text (h.place - p)
