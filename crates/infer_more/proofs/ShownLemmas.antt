-- What the rows of all numbers show.
use Rattle.infer_more.proofs.Common.{◌≡◌, ◌<◌, ◌≤◌, ◌+◌, ◌-◌, ℕ, inl, inr, length, map, option_map, ap, sym, ◌∙◌, arith, length-map, slice_get-map, slice_get_cases, slice_get_past, BuiltIn, Triple, ROW_COUNT, Further, further, shown, FURTHER_COUNT}
use Rattle.std.proofs.Common.{slice_get}
use Rattle.std.proofs.lemmas.List.{length-append}
use Rattle.infer.specs.Row.{Row}
use Rattle.infer.specs.Table as built_in
use Rattle.infer_more.proofs.JoinedLemmas.{slice_get_front, slice_get_rest}
use Rattle.infer_more.proofs.TableLemmas.{length-further}

pub length-shown : length built_in.table ≡ ROW_COUNT → length shown ≡ ROW_COUNT + FURTHER_COUNT
unfolding shown
length-shown many =
    let first = length-map {A = Row BuiltIn} {B = Triple} built_in.table (λ r. r.shows) in
    let rest = length-map {A = Further} {B = Triple} further (λ r. r.shows) in
    let both = length-append (map (λ (r : Row BuiltIn). r.shows) built_in.table) (map (λ (r : Further). r.shows) further) in
    let last = length-further in
    omega arith

module _ (many : length built_in.table ≡ ROW_COUNT) (i : ℕ) where
  many_shown : length (map (λ (r : Row BuiltIn). r.shows) built_in.table) ≡ ROW_COUNT
  many_shown = length-map {A = Row BuiltIn} {B = Triple} built_in.table (λ r. r.shows) ∙ many

  pub shown_built_in : i < ROW_COUNT → slice_get shown i ≡ option_map (λ r. r.shows) (slice_get built_in.table i)
  unfolding shown
  shown_built_in lt = elim (slice_get_cases built_in.table i).1 [
    | inl (r, within, found, same) ↦
        slice_get_front (map (λ r. r.shows) built_in.table) (map (λ r. r.shows) further) i r.shows
        (slice_get-map (λ (r : Row BuiltIn). r.shows) built_in.table i ∙ ap (option_map (λ (r : Row BuiltIn). r.shows)) found)
        ∙ sym (ap (option_map (λ (r : Row BuiltIn). r.shows)) found)
    | inr (past, none) ↦ absurd (omega arith)
  ]

  pub shown_further : ROW_COUNT ≤ i → slice_get shown i ≡ option_map (λ r. r.shows) (slice_get further (i - ROW_COUNT))
  unfolding shown
  shown_further le =
      let past : length (map (λ (r : Row BuiltIn). r.shows) built_in.table) ≤ i = let e = many_shown in omega arith in
      slice_get_rest (map (λ r. r.shows) built_in.table) (map (λ r. r.shows) further) i (slice_get_past _ _ past)
      ∙ (ap (λ n. slice_get (map (λ (r : Further). r.shows) further) (i - n)) many_shown
      ∙ slice_get-map (λ (r : Further). r.shows) further (i - ROW_COUNT))
