-- A row of what may run scripts tells a type that does.
use Rattle.std.proofs.Common.{◌≡◌, ◌∙◌, ◌||◌, ◌++◌, ◌∷◌, [], inl, inr, zero, suc, ℕ, Bool, true, false, Any, List, Option, Some, ap, arith, codes, refl, subst, sym}
use Rattle.std.proofs.lemmas.Bool.{and_parts}
use Rattle.std.proofs.lemmas.Slice.Eq.{bytes_eq-Decides}
use Rattle.std.specs.List.{list_all}
use Rattle.std.specs.Option.{option_or}
use Rattle.std.specs.Str.{bytes_eq}
use Rattle.mime_sniff.specs.Computed.{Answers, IsAsked, IsScriptableText, Supply, GivesScriptable, asked_of_unknown, otherwise}
use Rattle.mime_sniff.specs.Laws.{MayEscalate}
use Rattle.mime_sniff.specs.Rule.{Accepts, Rule, FindsFirst}
use Rattle.mime_sniff.specs.Standard.{documents, header, scriptable, unscripted}
use Rattle.mime_sniff.specs.Table.{tag_rules, xml_rules}
use Rattle.mime_sniff.specs.declared.question.Question.{Question}
use Rattle.mime_sniff.specs.declared.question.Question.TheVariants.{Anything}
use Rattle.mime_sniff.proofs.DecidedLemmas.{grows}
use Rattle.mime_sniff.proofs.FirstLemmas.{finds_cases}
use Rattle.mime_sniff.proofs.GrowthLemmas.{any_grown, is_begun_rule}

module _ (P : Rule → Type 0) where
  pub later : (x : Rule) (xs : List Rule) → (¬ P x) → Any P (x ∷ xs) → Any P xs
  later x xs not (zero, y, within, at, p) = absurd (not (subst P (sym at) p))
  later x xs not (suc n, y, within, at, p) = (n, y, omega (arith, within), at, p)

  -- what is told is the type of one of the rules, if one of them accepts
  told_first : (f : Rule → Bool) (xs ys : List Rule) (told : Option (List ℕ)) → list_all f xs ≡ true → Any P xs → FindsFirst P (xs ++ ys) told
      → (rule : Rule) × (f rule ≡ true) × (told ≡ Some rule.mime_type)
  told_first f [] ys told all (n, y, within, at, p) h = absurd (omega (arith, within))
  told_first f (x ∷ xs) ys told all some h =
      let parts = and_parts (f x) (list_all f xs) all in
      elim (finds_cases P x (xs ++ ys) told h) [
        | inl (p, is) ↦ (x, parts.0, is)
        | inr (not, rest) ↦ told_first f xs ys told parts.1 (later x xs not some) rest
      ]

abbrev runs : List ℕ → Bool
runs t = bytes_eq t (codes "text/html") || (bytes_eq t (codes "text/xml") || bytes_eq t (codes "application/pdf"))

runs_scripts : (t : List ℕ) → runs t ≡ true → IsScriptableText t
runs_scripts t is = cases (bytes_eq t (codes "text/html")) (bytes_eq t (codes "text/xml")) (bytes_eq t (codes "application/pdf")) refl refl refl is
  where
    cases : (a b c : Bool) → bytes_eq t (codes "text/html") ≡ a → bytes_eq t (codes "text/xml") ≡ b → bytes_eq t (codes "application/pdf") ≡ c
        → (a || (b || c)) ≡ true → IsScriptableText t
    cases true b c x y z is =
        (record { type_name = codes "text"; subtype = codes "html" }, sym ((bytes_eq-Decides t (codes "text/html")).0 x), inr (inl (refl, refl)))
    cases false true c x y z is =
        (record { type_name = codes "text"; subtype = codes "xml" }, sym ((bytes_eq-Decides t (codes "text/xml")).0 y), inl (inr (inl (refl, refl))))
    cases false false true x y z is =
        (record { type_name = codes "application"; subtype = codes "pdf" }, sym ((bytes_eq-Decides t (codes "application/pdf")).0 z), inr (inr (refl, refl)))
    cases false false false x y z is = cc

all_run : list_all (λ r. runs r.mime_type) scriptable ≡ true
unfolding tag_rules xml_rules documents
all_run = refl

module _ (s : Supply) (b : List ℕ) (told : Option (List ℕ)) (may : MayEscalate s b) where
  of_anything : Answers Anything (header b) told → GivesScriptable s told
  of_anything (first, h, e) =
      let (rule, run, is) = told_first (Accepts (header b)) (λ r. runs r.mime_type) scriptable unscripted first all_run may.2 h in
      subst (λ o. GivesScriptable s o) (sym (e ∙ ap (λ o. option_or o (otherwise Anything)) is)) (runs_scripts rule.mime_type run)

  of_unknown : (no_sniff : Bool) → s.no_sniff ≡ no_sniff → (q : Question) → q ≡ asked_of_unknown no_sniff → Answers q (header b) told → GivesScriptable s told
  of_unknown true forbidden q e h = absurd (may.1 forbidden)
  of_unknown false allowed q e h = of_anything (subst (λ r. Answers r (header b) told) e h)

  pub escalates_so : (q : Question) → IsAsked s q → Answers q (header b) told → GivesScriptable s told
  escalates_so q (inl (unknown, e)) h = of_unknown s.no_sniff refl q e h
  escalates_so q (inr (known, asked)) h = absurd (known may.0)

all_begun : list_all is_begun_rule scriptable ≡ true
unfolding tag_rules xml_rules documents
all_begun = refl

-- what may escalate goes on to
pub may_grown : (s : Supply) (b more : List ℕ) → MayEscalate s b → MayEscalate s (b ++ more)
may_grown s b more (unknown, may, some) =
    let (m, e) = grows b more in
    (unknown, may, subst (λ h. Any (Accepts h) scriptable) (sym e) (any_grown (header b) m scriptable all_begun some))
