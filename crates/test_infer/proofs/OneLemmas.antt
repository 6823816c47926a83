-- What one number has, is told by comparing with it.
use Rattle.std.proofs.Common.{◌≡◌, ◌==◌, ◌↔◌, ◌-◌, ℕ, Bool, List, [], ◌∷◌, ◌++◌, Option, None, Some, MatchOption, false, true, not, is_some, IsTrue, length, get_or, take, option_map, ap, subst, sym, refl, ◌∙◌, arith}
use Rattle.std.proofs.Math.Seq.{take-append_seam}
use Rattle.std.proofs.lemmas.Bool.Decides.{nat_tests}
use Rattle.infer.specs.BuiltIn.{BuiltIn}
use Rattle.infer.specs.Caller.{Contracts}
use Rattle.infer.specs.First.{IsAnswer, IsFirstOf}
use Rattle.infer.specs.Row.{Accepts, Row}
use Rattle.infer.specs.Rows.{AnyAccepts, Signature}
use Rattle.infer.specs.Samples.{HoldsSample, sample_of, zeros}
use Rattle.infer.specs.declared.samples.TheConstants.{SAMPLE_SIZE}
use Rattle.infer.specs.Table.{table}
use Rattle.infer.specs.Triple.{Triple}
use Rattle.infer.proofs.FirstLemmas.{IsFirstOf-same}
use Rattle.infer_more.specs.Added.{IsAnswerWith}
use Rattle.infer_more.specs.Table.{further}
use Rattle.infer_more.specs.Wider.{IsWider, IsWiderAnswer, Widens, shown_at, wider}
use Rattle.infer_uses.specs.Labels.{IsLabel, label_of}

-- of a property that one number has at most, or none
module _ (P : Option ℕ → Type 0) (same : (o p : Option ℕ) → P o → P p → o ≡ p) (n : ℕ) where
  pub is_one : (row : ℕ) → P (Some row) → IsTrue (row == n) ↔ P (Some n)
  is_one row has = (
    λ t. let e : row ≡ n = grind (arith, nat_tests) in subst (λ k. P (Some k)) e has,
    λ h. let e : Some row ≡ Some n = same (Some row) (Some n) has h in let f : row ≡ n = cc in grind (arith, nat_tests),
  )

  pub is_none : P None → IsTrue false ↔ P (Some n)
  is_none has = (λ t. absurd (cc), λ h. let e : None ≡ Some n = same None (Some n) has h in absurd (cc))

-- a buffer has one wider answer
pub IsWider-same : (b : List ℕ) (o p : Option ℕ) → IsWider b o → IsWider b p → o ≡ p
IsWider-same b o p v w =
    let parents : v.parent ≡ w.parent = IsFirstOf-same (Accepts b) table v.parent w.parent v.answers w.answers in
    let widens : IsFirstOf (Widens v.parent b) further w.found = subst (λ q. IsFirstOf (Widens q b) further w.found) (sym parents) w.widens in
    let founds : v.found ≡ w.found = IsFirstOf-same (Widens v.parent b) further v.found w.found v.widens widens in
    v.is ∙ ap (λ q. wider q v.found) parents ∙ ap (wider w.parent) founds ∙ sym w.is

pub IsWiderAnswer-same : (b : List ℕ) (t u : Option Triple) → IsWiderAnswer b t → IsWiderAnswer b u → t ≡ u
IsWiderAnswer-same b t u v w = v.is_shown ∙ ap shown_at (IsWider-same b v.number w.number v.is_wider w.is_wider) ∙ sym w.is_shown

-- a list of rows has one answer for a buffer
pub IsAnswer-same : {S : Type 0} (P : Row S → Type 0) (rows : List (Row S)) (t u : Option Triple) → IsAnswer P rows t → IsAnswer P rows u → t ≡ u
IsAnswer-same P rows None None none nor = refl
IsAnswer-same P rows None (Some u) none (j, then, shows) = absurd (let same = IsFirstOf-same P rows None (Some j) none then in cc)
IsAnswer-same P rows (Some t) None (i, first, shown) none = absurd (let same = IsFirstOf-same P rows (Some i) None first none in cc)
IsAnswer-same P [] (Some t) (Some u) (i, first, shown) (j, then, shows) = absurd (let lt = first.within in omega arith)
IsAnswer-same P (r ∷ rows) (Some t) (Some u) (i, first, shown) (j, then, shows) =
    let both = IsFirstOf-same P (r ∷ rows) (Some i) (Some j) first then in
    let same : i ≡ j = cc in
    ap Some (sym (shown r) ∙ ap (λ k. (get_or (r ∷ rows) k r).shows) same ∙ shows r)

-- and so have added rows and those of the library
module _ {X : Type 0} {g : Contracts X} (own : List (Row (Signature X g))) (b : List ℕ) (t u : Option Triple) where
  of_first : (first : Option Triple) → MatchOption first (IsWiderAnswer b t) (λ x. t ≡ Some x) → MatchOption first (IsWiderAnswer b u) (λ x. u ≡ Some x) → t ≡ u
  of_first None v w = IsWiderAnswer-same b t u v w
  of_first (Some x) v w = v ∙ sym w

  pub IsAnswerWith-same : IsAnswerWith own b t → IsAnswerWith own b u → t ≡ u
  IsAnswerWith-same v w =
      let same = IsAnswer-same (AnyAccepts b) own w.first v.first w.answers v.answers in
      of_first v.first v.is (subst (λ o. MatchOption o (IsWiderAnswer b u) (λ x. u ≡ Some x)) same w.is)

-- whether there is no answer is told by that which there is
pub told_none : {T : Type 0} (P : Option Triple → Type 0) (same : (t u : Option Triple) → P t → P u → t ≡ u) (shows : T → Triple) (o : Option T) (none : Bool)
    → P (option_map shows o) → is_some o ≡ not none → IsTrue none ↔ P None
told_none P same shows None true has told = (λ t. has, λ h. refl)
told_none P same shows None false has told = absurd (cc)
told_none P same shows (Some x) true has told = absurd (cc)
told_none P same shows (Some x) false has told = (λ t. absurd (cc), λ h. absurd (let e = same (Some (shows x)) None has h in cc))

-- the label of an answer is the buffer's
pub told_label : (b text : List ℕ) (t : Triple) → IsAnswer (Accepts b) table (Some t) → (t.mime_type ≡ text) ↔ IsLabel b text
told_label b text t has = (
  λ e. (Some t, has, sym e),
  λ h. let same = IsAnswer-same (Accepts b) table (Some t) h.0 has h.1 in ap label_of same ∙ sym h.2,
)

-- the text that the buffer of a sample begins with is the sample
module _ (n : ℕ) (front out : List ℕ) (r : Row BuiltIn) (holds : HoldsSample n out r) where
  begins : take n out ≡ sample_of r.signature
  begins =
      ap (take n) holds.1 ∙ ap (λ k. take k (sample_of r.signature ++ zeros (SAMPLE_SIZE - n))) holds.0
      ∙ take-append_seam (sample_of r.signature) (zeros (SAMPLE_SIZE - n))

  pub told_sample : (take n out ≡ front) ↔ HoldsSample (length front) (front ++ zeros (SAMPLE_SIZE - length front)) r
  told_sample = (
    λ e. let is : front ≡ sample_of r.signature = sym e ∙ begins in (ap length is, ap (λ u. u ++ zeros (SAMPLE_SIZE - length front)) is),
    λ h. begins ∙ sym (take-append_seam (sample_of r.signature) (zeros (SAMPLE_SIZE - length front)))
        ∙ ap (λ k. take k (sample_of r.signature ++ zeros (SAMPLE_SIZE - length front))) (sym h.0) ∙ ap (take (length front)) (sym h.1)
        ∙ take-append_seam front (zeros (SAMPLE_SIZE - length front)),
  )
