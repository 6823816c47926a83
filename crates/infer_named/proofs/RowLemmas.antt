-- Rows of several ranges.
use Rattle.std.proofs.Common.{◌≡◌, ◌∙◌, ◌||◌, ℕ, Bool, List, [], ◌∷◌, ap, refl, sym}
use Rattle.std.proofs.lemmas.List.Folds.{list_any-append}
use Rattle.std.specs.List.{flat_map, list_any}
use Rattle.std.specs.Str.{bytes_eq}
use Rattle.infer_named.specs.Join.{has_row}
use Rattle.infer_named.specs.Listed.{range_listed, set_listed}
use Rattle.infer_evidence.specs.declared.spans.Span.{Span}

-- an element of some lists passes a test exactly if one of a list does
any_in_each : {X Y : Type 0} (p : Y → Bool) (f : X → List Y) (xs : List X) → list_any p (flat_map f xs) ≡ list_any (λ x. list_any p (f x)) xs
any_in_each p f [] = refl
any_in_each p f (x ∷ xs) = list_any-append p (f x) (flat_map f xs) ∙ ap (λ b. list_any p (f x) || b) (any_in_each p f xs)

-- so a set has a row exactly if a range of the set does
pub set_has : (extension mime_type : List ℕ) (set : Span) (ranges : List Span) → flat_map range_listed ranges ≡ set_listed set
    → list_any (λ range. has_row (range_listed range) extension mime_type) ranges ≡ has_row (set_listed set) extension mime_type
set_has extension mime_type set ranges same =
    sym (any_in_each (λ row. bytes_eq row extension || bytes_eq row mime_type) range_listed ranges) ∙ ap (λ rows. has_row rows extension mime_type) same
