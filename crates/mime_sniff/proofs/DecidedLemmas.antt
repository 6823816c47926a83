-- When more bytes leave the computed type as it is.
use Rattle.std.proofs.Common.{◌≡◌, ◌∙◌, ◌↔◌, inl, inr, ℕ, suc, ◌+◌, ◌-◌, ◌<◌, ◌≤◌, Bool, false, true, IsTrue, List, [], ◌∷◌, ◌++◌, Any, None, Option, Some, ap, append_assoc, arith, length, refl, subst, sym, take}
use Rattle.std.proofs.Math.Seq.{take-append-add}
use Rattle.std.proofs.lemmas.Bool.{cases_lt, false≢true}
use Rattle.std.specs.Bool.{OnFalse, OnTrue}
use Rattle.std.proofs.lemmas.List.{append-nil, take-append-le, take_all}
use Rattle.mime_sniff.specs.Computed.{Answers, IsAsked, IsComputed, Supply}
use Rattle.mime_sniff.specs.Growth.{AnswerForGood, IsDecided, MayScript, NeverHolds, NeverScripts}
use Rattle.mime_sniff.specs.Rule.{Accepts, Rule, FindsFirst}
use Rattle.mime_sniff.specs.Standard.{header, scriptable}
use Rattle.mime_sniff.specs.declared.question.Question.{Question}
use Rattle.mime_sniff.proofs.ComputedLemmas.{one_answer, one_question}
use Rattle.mime_sniff.proofs.FirstLemmas.{no_first, finds_cases}

module _ (b more : List ℕ) where
  full_stays : 1445 ≤ length b → header (b ++ more) ≡ header b
  full_stays full = take-append-le 1445 b more full

  -- the header of what goes on is the header that is there, and then some bytes
  pub grows : (m : List ℕ) × (header (b ++ more) ≡ header b ++ m)
  grows = elim (cases_lt (length b) 1445) [
    | inl short ↦
        let n = 1445 - length b in
        let all : header b ≡ b = take_all 1445 b (omega (arith, short)) in
        let whole : length b + n ≡ 1445 = omega (arith, short) in
        (take n more, ap (λ k. take k (b ++ more)) (sym whole) ∙ (take-append-add b more n ∙ ap (λ h. h ++ take n more) (sym all)))
    | inr full ↦ ([], full_stays full ∙ sym (append-nil (header b)))
  ]

pub decided_full : (s : Supply) (b : List ℕ) → 1445 ≤ length b → IsDecided s b
decided_full s b full more told (q, asked, h) = (q, asked, subst (λ x. Answers q x told) (sym (full_stays b more full)) h)

pub decided_settled : (s : Supply) (b : List ℕ) (q : Question) (told : Option (List ℕ)) → IsAsked s q → AnswerForGood q (header b) told → IsDecided s b
decided_settled s b q told asked good more now (r, also, h) =
    let same : r ≡ q = one_question s r q also asked in
    let answer = subst (λ x. Answers x (header b) now) same h in
    let now_is : told ≡ now = one_answer q (header b) told now (subst (λ x. Answers q x told) (append-nil (header b)) (good [])) answer in
    let (m, e) = grows b more in
    (q, asked, subst (λ t. Answers q (header (b ++ more)) t) now_is (subst (λ x. Answers q x told) (sym e) (good m)))

-- no rule accepts, if all refuse
pub no_rule : (P : Rule → Type 0) (rules : List Rule) → FindsFirst P rules None → ¬ Any P rules
no_rule P rules all (k, rule, within, at, accepts) = all k rule within (subst P (sym at) accepts)

-- and one does, if they tell a type
pub some_rule : (P : Rule → Type 0) (rules : List Rule) (t : List ℕ) → FindsFirst P rules (Some t) → Any P rules
some_rule P [] t (rule, first, e) = absurd (no_first P rule first)
some_rule P (x ∷ rules) t h = elim (finds_cases P x rules (Some t) h) [
  | inl (p, is) ↦ (0, x, omega arith, refl, p)
  | inr (not, rest) ↦ let (n, y, within, at, p) = some_rule P rules t rest in (suc n, y, omega (arith, within), at, p)
]

pub never_full : (b : List ℕ) → 1445 ≤ length b → FindsFirst (Accepts (header b)) scriptable None → NeverScripts b
never_full b full none more = subst (λ h. ¬ Any (Accepts h) scriptable) (sym (full_stays b more full)) (no_rule (Accepts (header b)) scriptable none)

-- what no bytes after the header bring, none after the buffer bring
abbrev pub NeverAccepted : List ℕ → Type 0
NeverAccepted b = NeverHolds (λ c. Any (Accepts c) scriptable) b

pub never_accepted : (b : List ℕ) (r : Bool) → OnFalse r (NeverAccepted (header b)) → OnFalse r (NeverScripts b)
never_accepted b true never = tt
never_accepted b false never = λ more. let (m, e) = grows b more in subst (λ h. ¬ Any (Accepts h) scriptable) (sym e) (never m)

-- and the header of fewer bytes is all of them
pub may_below : (b : List ℕ) (r : Bool) → length b < 1445 → OnTrue r (MayScript (header b)) → OnFalse r (NeverAccepted (header b)) → IsTrue r ↔ MayScript b
may_below b true short may never = (λ yes. subst MayScript (take_all 1445 b (omega (arith, short))) may, λ m. refl)
may_below b false short may never = (
  λ yes. absurd (false≢true yes),
  λ m. let (more, bytes, some) = subst MayScript (sym (take_all 1445 b (omega (arith, short)))) m in absurd (never more some),
)

-- what is decided has one type, whatever follows, and so has what begins with it
pub same_computed : (s : Supply) (b : List ℕ) (t u : Option (List ℕ)) → IsComputed s b t → IsComputed s b u → t ≡ u
same_computed s b t u (q, asked, h) (r, also, g) =
    one_answer q (header b) t u h (subst (λ x. Answers x (header b) u) (sym (one_question s q r asked also)) g)

pub decided_stays : (s : Supply) (b more : List ℕ) (told : Option (List ℕ)) → IsDecided s b → IsComputed s b told → IsDecided s (b ++ more)
decided_stays s b more told decided is after now h =
    let same = same_computed s (b ++ more) told now (decided more told is) h in
    subst (λ l. IsComputed s l now) (sym (append_assoc b more after)) (subst (λ t. IsComputed s (b ++ (more ++ after)) t) same (decided (more ++ after) told is))
