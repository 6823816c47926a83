-- The first rule of a list that has a property, and the type that it tells.
use Rattle.std.proofs.Common.{◌≡◌, ◌↔◌, ◌⊎◌, inl, inr, ℕ, Bool, true, false, List, [], ◌∷◌, ◌++◌, Option, None, Some, refl, ap, subst, sym, ◌∙◌, append_assoc, arith}
use Rattle.std.proofs.lemmas.List.Elements.{All-cons, All-nil, All-tail}
use Rattle.std.proofs.lemmas.Bool.{and_parts}
use Rattle.std.proofs.lemmas.List.Folds.{list_all-append}
use Rattle.std.specs.Prelude.{All}
use Rattle.std.specs.List.{AllByRecursion, filter, list_all}
use Rattle.mime_sniff.specs.Rule.{IsFirst, Rule, FindsFirst}

module _ (P : Rule → Type 0) where
  pub finds_none : FindsFirst P [] None
  finds_none = All-nil _

  -- no rule of no rules is the first
  pub no_first : (rule : Rule) → IsFirst P [] rule → ⊥
  no_first rule first = empty first.before first.whole
    where
      empty : (before : List Rule) → [] ≡ before ++ rule ∷ first.after → ⊥
      empty [] e = cc
      empty (x ∷ before) e = cc

  pub finds_here : (rule : Rule) (rules : List Rule) → P rule → FindsFirst P (rule ∷ rules) (Some rule.mime_type)
  finds_here rule rules has = (rule, record { before = []; after = rules; whole = refl; refused = All-nil _; has = has }, refl)

  pub finds_later : (rule : Rule) (rules : List Rule) (told : Option (List ℕ)) → (¬ P rule) → FindsFirst P rules told → FindsFirst P (rule ∷ rules) told
  finds_later rule rules None not all = All-cons (λ r. ¬ P r) rule rules not all
  finds_later rule rules (Some t) not (found, first, is) = (
    found,
    record {
      before = rule ∷ first.before;
      after = first.after;
      whole = ap (λ rest. rule ∷ rest) first.whole;
      refused = All-cons (λ r. ¬ P r) rule first.before not first.refused;
      has = first.has;
    },
    is,
  )

  -- the first of some rules is their head, or comes after it
  pub finds_cases : (rule : Rule) (rules : List Rule) (told : Option (List ℕ)) → FindsFirst P (rule ∷ rules) told
      → (P rule × (told ≡ Some rule.mime_type)) ⊎ ((¬ P rule) × FindsFirst P rules told)
  finds_cases rule rules None all = inr (all 0 rule (omega arith), All-tail (λ r. ¬ P r) rule rules all)
  finds_cases rule rules (Some t) (found, first, is) = split first.before first.whole first.refused
    where
      split : (before : List Rule) → rule ∷ rules ≡ before ++ found ∷ first.after → All (λ r. ¬ P r) before
          → (P rule × (Some t ≡ Some rule.mime_type)) ⊎ ((¬ P rule) × FindsFirst P rules (Some t))
      split [] e not = let same : found ≡ rule = cc in inl (subst P same first.has, cc)
      split (x ∷ before) e not =
          let same : x ≡ rule = cc in
          inr (
            subst (λ r. ¬ P r) same (not 0 x (omega arith)),
            (found, record { before = before; after = first.after; whole = cc; refused = All-tail (λ r. ¬ P r) x before not; has = first.has }, is),
          )

  pub finds_left : (xs ys : List Rule) (t : List ℕ) → FindsFirst P xs (Some t) → FindsFirst P (xs ++ ys) (Some t)
  finds_left xs ys t (found, first, is) = (
    found,
    record {
      before = first.before;
      after = first.after ++ ys;
      whole = ap (λ zs. zs ++ ys) first.whole ∙ append_assoc first.before (found ∷ first.after) ys;
      refused = first.refused;
      has = first.has;
    },
    is,
  )

  pub finds_right : (xs ys : List Rule) (told : Option (List ℕ)) → FindsFirst P xs None → FindsFirst P ys told → FindsFirst P (xs ++ ys) told
  finds_right [] ys told none h = h
  finds_right (x ∷ xs) ys told none h =
      finds_later x (xs ++ ys) told (none 0 x (omega arith)) (finds_right xs ys told (All-tail (λ r. ¬ P r) x xs none) h)

  kept : (test : Rule → Bool) (r : Rule) (rules : List Rule) (told : Option (List ℕ)) → (P r → test r ≡ true)
      → (FindsFirst P (filter test rules) told → FindsFirst P rules told) → (b : Bool) → test r ≡ b
      → FindsFirst P (filter test (r ∷ rules)) told → FindsFirst P (r ∷ rules) told
  kept test r rules told passes more true e h =
      elim (finds_cases r (filter test rules) told (rw e at h)) [
        | inl (p, is) ↦ subst (λ o. FindsFirst P (r ∷ rules) o) (sym is) (finds_here r rules p)
        | inr (not, rest) ↦ finds_later r rules told not (more rest)
      ]
  kept test r rules told passes more false e h = finds_later r rules told (λ p. let t = passes p in cc) (more (rw e at h))

  -- rules that a test leaves out are none that have the property
  pub finds_filtered : (test : Rule → Bool) (rules : List Rule) (told : Option (List ℕ)) → AllByRecursion (λ r. P r → test r ≡ true) rules
      → FindsFirst P (filter test rules) told → FindsFirst P rules told
  finds_filtered test [] told all h = h
  finds_filtered test (r ∷ rules) told all h = kept test r rules told all.0 (finds_filtered test rules told all.1) (test r) refl h

  -- none of the rules has it
  pub finds_nothing : (rules : List Rule) → AllByRecursion (λ r. ¬ P r) rules → FindsFirst P rules None
  finds_nothing [] all = finds_none
  finds_nothing (r ∷ rules) all = finds_later r rules None all.0 (finds_nothing rules all.1)

  -- there is one answer
  both : (r : Rule) (rules : List Rule) (a b : Option (List ℕ)) → (FindsFirst P rules a → FindsFirst P rules b → a ≡ b)
      → (P r × (a ≡ Some r.mime_type)) ⊎ ((¬ P r) × FindsFirst P rules a)
      → (P r × (b ≡ Some r.mime_type)) ⊎ ((¬ P r) × FindsFirst P rules b) → a ≡ b
  both r rules a b more (inl (p, e)) (inl (q, f)) = e ∙ sym f
  both r rules a b more (inl (p, e)) (inr (not, rest)) = absurd (not p)
  both r rules a b more (inr (not, rest)) (inl (q, f)) = absurd (not q)
  both r rules a b more (inr (not, rest)) (inr (other, rest')) = more rest rest'

  pub one_first : (rules : List Rule) (a b : Option (List ℕ)) → FindsFirst P rules a → FindsFirst P rules b → a ≡ b
  one_first [] None None h g = refl
  one_first [] (Some a) b (r, first, is) g = absurd (no_first r first)
  one_first [] None (Some b) h (r, first, is) = absurd (no_first r first)
  one_first (r ∷ rules) a b h g = both r rules a b (one_first rules a b) (finds_cases r rules a h) (finds_cases r rules b g)

-- what all of the rules pass, the first one passes
pub told_passes : (P : Rule → Type 0) (test : Rule → Bool) (rules : List Rule) (t : List ℕ) → list_all test rules ≡ true → FindsFirst P rules (Some t)
    → (rule : Rule) × (test rule ≡ true) × (rule.mime_type ≡ t)
told_passes P test rules t all (rule, first, is) =
    let here = and_parts (list_all test first.before) (list_all test (rule ∷ first.after))
    (sym (list_all-append test first.before (rule ∷ first.after)) ∙ (ap (λ xs. list_all test xs) (sym first.whole) ∙ all)) in
    (rule, (and_parts (test rule) (list_all test first.after) here.1).0, is)

-- properties that the rules have alike
module _ (P Q : Rule → Type 0) where
  pub finds_alike : (rules : List Rule) (told : Option (List ℕ)) → AllByRecursion (λ r. P r ↔ Q r) rules → FindsFirst P rules told → FindsFirst Q rules told
  finds_alike [] None all h = finds_none Q
  finds_alike [] (Some t) all (r, first, is) = absurd (no_first P r first)
  finds_alike (r ∷ rules) told all h =
      elim (finds_cases P r rules told h) [
        | inl (p, is) ↦ subst (λ o. FindsFirst Q (r ∷ rules) o) (sym is) (finds_here Q r rules (all.0.0 p))
        | inr (not, rest) ↦ finds_later Q r rules told (λ q. not (all.0.1 q)) (finds_alike rules told all.1 rest)
      ]
