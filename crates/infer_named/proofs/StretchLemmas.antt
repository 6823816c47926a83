-- Stretches of a list of the code and of the definition.
use Rattle.std.proofs.Common.{◌≡◌, ◌∙◌, ℕ, List, ap, drop, map, sym, take}
use Rattle.std.proofs.lemmas.List.{drop-map, take-map}
use Rattle.infer_evidence.specs.Spans.{stretch}

module _ {A B : Type 0} (f : A → B) (xs : List A) (ys : List B) where
  pub stretch_listed : (start count : ℕ) → map f xs ≡ ys → map f (stretch xs start count) ≡ stretch ys start count
  stretch_listed start count same =
      sym (take-map f count (drop start xs)) ∙ (ap (take count) (sym (drop-map f start xs)) ∙ ap (λ l. stretch l start count) same)
