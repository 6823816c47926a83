-- The parameter of a name is the first valid one that is written.
use Rattle.std.proofs.Common.{◌≡◌, ◌∙◌, ◌++◌, ◌&&◌, ◌||◌, ◌∷◌, [], ℕ, ◌<◌, List, Bool, Option, None, Some, true, false, ap, if◌then◌else◌, length, not, option_to_list, refl, sym}
use Rattle.std.proofs.lemmas.Bool.{and_parts, false≢true}
use Rattle.std.proofs.lemmas.List.Folds.{list_any-append}
use Rattle.std.proofs.lemmas.Slice.Eq.{bytes_eq-Decides}
use Rattle.std.specs.List.{list_any}
use Rattle.std.specs.Option.{option_or}
use Rattle.std.specs.Str.{bytes_eq}
use Rattle.mime_types.specs.Mime.{Parameter}
use Rattle.mime_types.specs.Named.{first_value, value_of}
use Rattle.mime_types.specs.Parameters.{is_first, is_named, is_valid, kept}
use Rattle.mime_types.specs.Segment.{segment, segment_of, written}
use Rattle.mime_types.proofs.FirstLemmas.{kept_case}
use Rattle.mime_types.proofs.WrittenLemmas.{first_written, none_left}

module _ (name : List ℕ) where
  append_cases : (x : Parameter) (rest : Option (List ℕ)) (xs ys : List Parameter) (b : Bool) → first_value name (xs ++ ys) ≡ option_or (first_value name xs) (first_value name ys)
      → (if b then Some x.value else first_value name (xs ++ ys)) ≡ option_or (if b then Some x.value else first_value name xs) (first_value name ys)
  append_cases x rest xs ys true more = refl
  append_cases x rest xs ys false more = more

  first_append : (xs ys : List Parameter) → first_value name (xs ++ ys) ≡ option_or (first_value name xs) (first_value name ys)
  first_append [] ys = refl
  first_append (x ∷ xs) ys = append_cases x None xs ys (is_named name x) (first_append xs ys)

  -- the first segment's, or that of those after it
  pub value_first : (s : List ℕ) (o : Option Parameter) (r : List ℕ) → segment_of o r ≡ segment s → 0 < length s
      → first_value name (written s) ≡ option_or (first_value name (option_to_list o)) (first_value name (written r))
  value_first s o r is some = ap (first_value name) (first_written s o r is some) ∙ first_append (option_to_list o) (written r)

  pub value_none : (s : List ℕ) → length s ≡ 0 → first_value name (written s) ≡ None
  value_none s none = ap (first_value name) (none_left s none)

  pub name_is : (p : Parameter) → is_named name p ≡ true → p.name ≡ name
  name_is p named = (bytes_eq-Decides p.name name).0 (and_parts (is_valid p) (bytes_eq p.name name) named).1

  -- it is the first of its name after those of other names
  pub first_named : (e : List Parameter) (p : Parameter) → is_named name p ≡ true → list_any (is_named name) e ≡ false → is_first e p ≡ true
  first_named e p named none =
      ap (λ b. b && not (list_any (is_named p.name) e)) (and_parts (is_valid p) (bytes_eq p.name name) named).0
      ∙ (ap (λ n. not (list_any (is_named n) e)) (name_is p named) ∙ ap not none)

  -- what has no value with the name has no parameter with it
  pub none_named : (o : Option Parameter) → None ≡ first_value name (option_to_list o) → list_any (is_named name) (option_to_list o) ≡ false
  none_named None is = refl
  none_named (Some p) is = cases (is_named name p) is
    where
      cases : (b : Bool) → None ≡ (if b then Some p.value else None) → (b || false) ≡ false
      cases true is = cc
      cases false is = refl

  named_here : (e ps : List Parameter) (p : Parameter) (f : Bool) → is_first e p ≡ f → is_named name p ≡ true → list_any (is_named name) e ≡ false
      → value_of name (kept e (p ∷ ps)) ≡ Some p.value
  named_here e ps p true first named none =
      let same = (and_parts (is_valid p) (bytes_eq p.name name) named).1 in
      ap (value_of name) (kept_case e p ps true first) ∙ ap (λ b. if b then Some p.value else value_of name (kept (e ++ p ∷ []) ps)) same
  named_here e ps p false first named none = absurd (false≢true (sym first ∙ first_named e p named none))

  other_name : (valid same : Bool) → valid ≡ true → (valid && same) ≡ false → same ≡ false
  other_name true same e h = h
  other_name false same e h = absurd (false≢true e)

  other_here : (e ps : List Parameter) (p : Parameter) (f : Bool) → is_first e p ≡ f → is_named name p ≡ false
      → value_of name (kept e (p ∷ ps)) ≡ value_of name (kept (e ++ p ∷ []) ps)
  other_here e ps p true first other =
      let valid = (and_parts (is_valid p) (not (list_any (is_named p.name) e)) first).0 in
      ap (value_of name) (kept_case e p ps true first)
      ∙ ap (λ b. if b then Some p.value else value_of name (kept (e ++ p ∷ []) ps)) (other_name (is_valid p) (bytes_eq p.name name) valid other)
  other_here e ps p false first other = ap (value_of name) (kept_case e p ps false first)

  one_here : (e ps : List Parameter) (p : Parameter) (n : Bool) → is_named name p ≡ n → list_any (is_named name) e ≡ false
      → (n ≡ false → value_of name (kept (e ++ p ∷ []) ps) ≡ first_value name ps)
      → value_of name (kept e (p ∷ ps)) ≡ (if n then Some p.value else first_value name ps)
  one_here e ps p true is none more = named_here e ps p (is_first e p) refl is none
  one_here e ps p false is none more = other_here e ps p (is_first e p) refl is ∙ more refl

  none_more : (e : List Parameter) (p : Parameter) → list_any (is_named name) e ≡ false → is_named name p ≡ false → list_any (is_named name) (e ++ p ∷ []) ≡ false
  none_more e p none other =
      list_any-append (is_named name) e (p ∷ [])
      ∙ (ap (λ b. b || list_any (is_named name) (p ∷ [])) none ∙ ap (λ b. b || false) other)

  nothing_kept : (e : List Parameter) → value_of name (kept e []) ≡ None
  unfolding kept
  nothing_kept e = refl

  -- after parameters of other names
  pub value_kept : (e ps : List Parameter) → list_any (is_named name) e ≡ false → value_of name (kept e ps) ≡ first_value name ps
  value_kept e [] none = nothing_kept e
  value_kept e (p ∷ ps) none =
      one_here e ps p (is_named name p) refl none (λ other. value_kept (e ++ p ∷ []) ps (none_more e p none other))
