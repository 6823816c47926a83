-- The first row of those that are left.
use Rattle.std.proofs.Common.{◌≡◌, ℕ, ◌+◌, ◌<◌, ◌≤◌, List, ◌∷◌, Option, None, Some, add-one, drop, drop-cons, get_or, length, map, sym, subst}
use Rattle.mime_sniff.specs.Listed.{pattern_listed, rule_listed}
use Rattle.mime_sniff.specs.Row.{Fits}
use Rattle.mime_sniff.specs.Rule.{FitsRule, FindsFirst}
use Rattle.mime_sniff.specs.declared.row.Row as code
use Rattle.std.proofs.lemmas.List.{drop_all}
use Rattle.mime_sniff.proofs.FirstLemmas.{finds_here, finds_later, finds_none}

module _ (text : List ℕ) (rows : List code.Row) (i : ℕ) (d : code.Row) (within : i < length rows) where
  abbrev row : code.Row
  row = get_or rows i d

  abbrev Left : ℕ → Option (List ℕ) → Type 0
  Left n told = FindsFirst (FitsRule text) (map rule_listed (drop n rows)) told

  split : drop i rows ≡ row ∷ drop (i + 1) rows
  split = rw (add-one, drop-cons rows i d)

  pub left_here : Fits (pattern_listed row) text → Left i (Some row.mime_type.now)
  left_here fits =
      let here = finds_here (FitsRule text) (rule_listed row) (map rule_listed (drop (i + 1) rows)) fits in
      subst (λ (left : List code.Row). FindsFirst (FitsRule text) (map rule_listed left) (Some row.mime_type.now)) (sym split) here

  pub left_later : (Fits (pattern_listed row) text → ⊥) → (told : Option (List ℕ)) → Left (i + 1) told → Left i told
  left_later not told h =
      let later = finds_later (FitsRule text) (rule_listed row) (map rule_listed (drop (i + 1) rows)) told not h in
      subst (λ (left : List code.Row). FindsFirst (FitsRule text) (map rule_listed left) told) (sym split) later

-- no row is left
pub left_none : (text : List ℕ) (rows : List code.Row) (i : ℕ) → length rows ≤ i → FindsFirst (FitsRule text) (map rule_listed (drop i rows)) None
left_none text rows i all =
    subst (λ (left : List code.Row). FindsFirst (FitsRule text) (map rule_listed left) None) (sym (drop_all i rows all)) (finds_none (FitsRule text))
