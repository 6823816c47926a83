-- The first accepting row as a buffer goes on.
use Rattle.infer.proofs.Common.{Bool, ◌⊎◌, IsNotLater, ◌<◌, ◌≤◌, ℕ, not, List, ◌++◌, map, length, get_or, take, drop, Option, None, Some, IfSome, sym, subst, ◌∙◌, inl, inr, All, IsTrue, refl, arith, HoldsAt, cases_lt, cases_Bool, get_or_append_left, length-map, take-append-drop, take-append-le, take_all, All-append, All-map, BuiltIn, IsAccepted, Contracts, IsFirstOf, AnswersAreLocal, AnyLasts, IsSteady, answers_far, FrontDecides, OnlyFarRowsFollow, signatures, Lasts, IsNear, OthersAreNear, Row, Accepts, Signature, kept_row, table}
use Rattle.std.proofs.lemmas.List.{get_or-map}
use Rattle.infer.proofs.FirstLemmas.{IsNotLater-grows, IsFirstOf-same}
use Rattle.infer.proofs.LawLemmas.{length_signatures}
use Rattle.infer.proofs.TableLemmas.{length-table}

-- what holds of the signature of that number holds of the row's
row_signature : (P : BuiltIn → Type 0) (i : ℕ) (d : Row BuiltIn) → i < length table → HoldsAt P signatures i → P (get_or table i d).signature
unfolding signatures
row_signature P i d lt h =
    let of_rows : List BuiltIn = map (λ r. r.signature) table in
    let inside : i < length of_rows = rw length-map lt in
    subst P (get_or_append_left of_rows _ d.signature i inside ∙ get_or-map (λ r. r.signature) table i d d.signature lt) (h d.signature)

-- the rows of a caller and the built-in ones keep a yes
pub rows_keep : ((s : BuiltIn) → Lasts (IsAccepted s)) → {X : Type 0} {g : Contracts X} (added : List (Row (Signature X g)))
    → All (λ r. AnyLasts r.signature) added → All (λ r. AnyLasts r.signature) (added ++ map kept_row table)
rows_keep lasts {X} {g} added keep =
    All-append (λ (r : Row (Signature X g)). AnyLasts r.signature) added (map kept_row table) keep
    (All-map (λ (r : Row (Signature X g)). AnyLasts r.signature) kept_row table (λ i d lt short more bytes h. lasts _ short more h))

pub steady : {X : Type 0} {g : Contracts X} (all : List (Row (Signature X g))) → All (λ r. AnyLasts r.signature) all → IsSteady all
steady all keep short more before after bytes = grind (arith, IsNotLater-grows)

-- ---- the first 1024 bytes

-- the row that the answer names accepts the buffer
abbrev Answered : List ℕ → Option ℕ → Type 0
Answered buf o = IfSome o (HoldsAt (Accepts buf) table)

module _ (lasts : (s : BuiltIn) → Lasts (IsAccepted s)) (short more : List ℕ) where
  grows : (i : ℕ) → i < length table → HoldsAt (Accepts short) table i → HoldsAt (Accepts (short ++ more)) table i
  grows i lt here d = lasts _ short more (here d)

  -- an answer of the longer buffer that the shorter one has too is its first
  shortened : (o : Option ℕ) → IsFirstOf (Accepts (short ++ more)) table o → Answered short o → IsFirstOf (Accepts short) table o
  shortened o first here = grind (arith)

module _ (near : OthersAreNear signatures) (buf : List ℕ) (long : 1024 ≤ length buf) where
  front_answered : (o : Option ℕ) → IsTrue (not (answers_far o)) → IsFirstOf (Accepts buf) table o → Answered (take 1024 buf) o
  front_answered None out none = tt
  front_answered (Some i) out first =
      let inside : i < length signatures = omega (arith, first.within, length-table, length_signatures) in
      λ d. (row_signature (λ s. IsNear (IsAccepted s)) i d first.within (near i inside out) buf long).0 (first.here d)

module _ (lasts : (s : BuiltIn) → Lasts (IsAccepted s)) (near : OthersAreNear signatures) where
  pub front_decides : FrontDecides
  front_decides buf o first out = elim (cases_lt (length buf) 1024) [
    | inl lt ↦ subst (λ (b : List ℕ). IsFirstOf (Accepts b) table o) (sym (take_all 1024 buf (omega arith))) first
    | inr long ↦
        let split = subst (λ (b : List ℕ). IsFirstOf (Accepts b) table o) (sym (take-append-drop 1024 buf)) first in
        shortened lasts (take 1024 buf) (drop 1024 buf) o split (front_answered near buf long o out first)
  ]

  -- an answer that is not far is that of the first 1024 bytes, and as more bytes come none gets a later one
  pub only_far_rows_follow : OnlyFarRowsFollow
  only_far_rows_follow short more before after long first then = elim (cases_Bool (answers_far after)) [
    | inl one ↦ inr one
    | inr other ↦
        let front = rw (take-append-le 1024 short more long) at (front_decides (short ++ more) after then (rw other refl)) in
        let grown = subst (λ (b : List ℕ). (o : Option ℕ) → IsFirstOf (Accepts b) table o → IsNotLater o after) (take-append-drop 1024 short)
        (λ o now. IsNotLater-grows (Accepts (take 1024 short)) (Accepts (take 1024 short ++ drop 1024 short)) table (grows lasts _ _) after o front now) in
        let later = IsNotLater-grows (Accepts short) (Accepts (short ++ more)) table (grows lasts short more) before after first then in
        let sooner = grown before first in
        inl (grind (arith))
  ]

far_or_same : {P Q R : Type 0} (x y : Bool) → (IsTrue (not x) → P) → (IsTrue (not y) → Q) → (P → Q → R) → R ⊎ IsTrue x ⊎ IsTrue y
far_or_same x y p q r = grind (arith)

pub answers_local : FrontDecides → AnswersAreLocal
answers_local decides a b o p same first then =
    let front = rw same at (decides a o first) in
    let alike = IsFirstOf-same (Accepts (take 1024 b)) table o p in
    far_or_same (answers_far o) (answers_far p) front (decides b p then) alike
