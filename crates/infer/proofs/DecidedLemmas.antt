-- A buffer is decided just if none of the rows before its answer may still accept it.
use Rattle.infer.proofs.Common.{IfSome, IsAnswerForGood, AllWithin-more, add-one, ◌≡◌, ◌↔◌, ◌<◌, ◌≤◌, le_refl, ◌∙◌, sym, refl, zero, suc, ℕ, Bool, true, List, [], ◌∷◌, ◌++◌, length, get_or, Option, None, Some, All, IsTrue, subst, append_assoc, append-nil, arith, AllPass-from_list_all, All-append, All-nil, AllWithin-none, AllWithin, list_all, MayBecome, MayBecomeIsExact, is_sound, Alternative, stands, BuiltIn, fixed, IsAccepted, IsBuffer, CanBeDecided, DecidedByRows, DecidedLasts, FirstOpenComes, IsChangeable, IsDecided, IsDecidedExactly, MayBecomeRow, ReachNarrows, DecidesMayBecome, rows_before, IsFirst, IsFirstOf, NoneHas, Leads, candidates_of, Lasts, signatures, Row, Accepts, signature_of, table, IsFirstAmong, RowHas, EXE}
use Rattle.std.specs.Bool.{then_some}
use Rattle.std.proofs.lemmas.Option.{slice_get_cases}
use Rattle.infer.proofs.TableLemmas.{signature_has}
use Rattle.infer_deep.proofs.OpenLemmas.{bytes_from_test}
use Rattle.infer.proofs.AskLemmas.{candidates_numbered, may_take}
use Rattle.infer.proofs.CandidateLemmas.{first_listed, read_has}
use Rattle.infer.proofs.FirstLemmas.{IsFirstOf-same}
use Rattle.infer.proofs.ListLemmas.{HoldsAt-read}
use Rattle.infer.proofs.OrderLemmas.{some_row}

-- none of the rows before the first accepts
earlier : (b : List ℕ) (o : Option ℕ) → IsFirstOf (Accepts b) table o → AllWithin (λ r. ¬ Accepts b r) table 0 (rows_before o)
earlier b o first = grind (arith)

module _ (lasts : (s : BuiltIn) → Lasts (IsAccepted s)) where
  may_accept_now : (b : List ℕ) (r : Row BuiltIn) → Accepts b r → MayBecomeRow b r
  may_accept_now b r a = ([], All-nil (λ x. x < 256), lasts r.signature b [] a)

  stays : (b more : List ℕ) (o : Option ℕ) → IsFirstOf (Accepts b) table o → AllWithin (λ r. ¬ Accepts (b ++ more) r) table 0 (rows_before o)
      → IsFirstOf (Accepts (b ++ more)) table o
  stays b more o first none = grind (arith)

  pub decided_by_rows : DecidedByRows
  decided_by_rows b o first = (
    λ decided k d low lt r. earlier (b ++ r.0) o (decided r.0 o r.1 first) k d low lt r.2,
    λ none more p bytes other.
        subst (IsFirstOf (Accepts (b ++ more)) table) (IsFirstOf-same (Accepts b) table o p first other)
        (stays b more o first (λ k d low lt a. none k d low lt (more, bytes, a))),
  )

-- ---- what a look at the buffer tells of a row

-- the signature is no fixed one, or its parts ascend, lie apart and are possible
abbrev is_sound_if_fixed : BuiltIn → Bool
is_sound_if_fixed (fixed alternatives) = is_sound alternatives
is_sound_if_fixed s = true

all_sound : IsTrue (list_all is_sound_if_fixed signatures)
unfolding signatures table
all_sound = refl

rows_sound : IsTrue (list_all (λ r. is_sound_if_fixed r.signature) table)
unfolding table
rows_sound = refl

sound_at : (i : ℕ) → IsTrue (is_sound_if_fixed (signature_of i))
unfolding signature_of
sound_at i = grind (arith, slice_get_cases, AllPass-from_list_all (λ r. is_sound_if_fixed r.signature) table rows_sound)

module _ (opens : (s : List Alternative) → IsTrue (is_sound s) → MayBecomeIsExact s) (b : List ℕ) (r : Bool) where
  told : (s : BuiltIn) → IsTrue (is_sound_if_fixed s) → DecidesMayBecome s b r → IsTrue r ↔ MayBecome (IsAccepted s) b
  told (fixed alternatives) sound same = let open_it = opens alternatives sound b in (λ t. open_it.0 (sym same ∙ t), λ h. same ∙ open_it.1 h)
  told s sound h = h

  pub told_of_row : (i : ℕ) → DecidesMayBecome (signature_of i) b r → IsTrue r ↔ RowHas (MayBecomeRow b) i
  told_of_row i proves =
      let both = told (signature_of i) (sound_at i) proves in
      let same = signature_has (λ s. MayBecome (IsAccepted s) b) (λ (more, bytes, h). absurd (cc)) i in
      (λ t. same.0 (both.0 t), λ h. both.1 (same.1 h))

pub open_signatures : ((s : List Alternative) → IsTrue (is_sound s) → MayBecomeIsExact s) → All IsDecidedExactly signatures
open_signatures opens i d lt b r = told opens b r (get_or signatures i d) (AllPass-from_list_all is_sound_if_fixed signatures all_sound i d lt)

-- ---- the first row that may accept

-- a list of which nothing is the first element with the property lacks it in its first n
none_first : {A : Type 0} (P : A → Type 0) (xs : List A) → ((o : Option ℕ) → ¬ IsFirstOf P xs o) → (n : ℕ) → n ≤ length xs
    → AllWithin (λ x. ¬ P x) xs 0 n
none_first P xs none zero le = AllWithin-none (λ x. ¬ P x) xs 0
none_first P xs none (suc n) le =
    let before = none_first P xs none n (omega arith) in
    rw add-one at (AllWithin-more (λ x. ¬ P x) xs 0 n before
    (λ d p. none (Some n) (record { within = omega arith; here = HoldsAt-read P xs n d (omega arith) p; before = before })))

-- so nothing is without a first element or none
not_unanswered : {A : Type 0} (P : A → Type 0) (xs : List A) → ¬ ((o : Option ℕ) → ¬ IsFirstOf P xs o)
not_unanswered P xs none = none None (none_first P xs none (length xs) (le_refl (length xs)))

-- what bytes that follow can change is not decided
undecided : (b : List ℕ) → IsChangeable b → ¬ IsDecided b
undecided b (more, bytes, changes) decided = not_unanswered (Accepts b) table (λ o first. changes o first (decided more o bytes first))

pub first_open_comes : FirstOpenComes
first_open_comes b i first =
    let (more, bytes, a) = first.here some_row in
    let here = HoldsAt-read (Accepts (b ++ more)) table i some_row first.within a in
    (more, bytes, record { within = first.within; here = here; before = λ k d low lt t. first.before k d low lt (more, bytes, t) })

both_bytes : (more rest : List ℕ) → IsBuffer more → IsBuffer rest → IsBuffer (more ++ rest)
both_bytes = All-append (λ x. x < 256)

joined : (b more rest : List ℕ) (r : Row BuiltIn) → Accepts ((b ++ more) ++ rest) r → Accepts (b ++ (more ++ rest)) r
joined b more rest r a = subst (λ l. Accepts l r) (append_assoc b more rest) a

pub narrows : ReachNarrows
narrows b more r bytes (rest, rest_bytes, a) = (more ++ rest, both_bytes more rest bytes rest_bytes, joined b more rest r a)

module _ (lasts : (s : BuiltIn) → Lasts (IsAccepted s)) (b : List ℕ) where
  pub answer_if_none : IsFirstOf (MayBecomeRow b) table None → IsAnswerForGood b None
  answer_if_none none =
      let now : IsFirstOf (Accepts b) table None = λ k d low lt a. none k d low lt (may_accept_now lasts b (get_or table k d) a) in
      record { now = now; decided = (decided_by_rows lasts b None now).1 none }

  module _ (i : ℕ) (first : IsFirst (MayBecomeRow b) table i) where
    first_accepts : (o : Option ℕ) → o ≡ Some i → IsFirstOf (Accepts b) table o → RowHas (Accepts b) i
    first_accepts o e now = let at : IsFirst (Accepts b) table i = rw e at now in (read_has (Accepts b) table i).1 (at.within, at.here)

    pub changes_by_first : (¬ RowHas (Accepts b) i) → IsChangeable b
    changes_by_first not =
        let (more, bytes, comes) = first_open_comes b i first in
        (more, bytes, λ o now then. not (first_accepts o (IsFirstOf-same (Accepts (b ++ more)) table o (Some i) then comes) now))

    answer_if_accepted : RowHas (Accepts b) i → IsAnswerForGood b (Some i)
    answer_if_accepted here =
        let now : IsFirstOf (Accepts b) table (Some i) = record {
          within = first.within;
          here = ((read_has (Accepts b) table i).0 here).1;
          before = λ k d low lt a. first.before k d low lt (may_accept_now lasts b (get_or table k d) a);
        } in
        record { now = now; decided = (decided_by_rows lasts b (Some i) now).1 first.before }

    pub decided_by_first : (r : Bool) → IsTrue r ↔ RowHas (Accepts b) i → IsTrue r ↔ IsDecided b
    decided_by_first r h =
        let decided = λ (here : RowHas (Accepts b) i). (answer_if_accepted here).decided in
        grind (arith, decided, undecided, changes_by_first)

    pub answer_by_first : (r : Bool) (o : Option (Option ℕ)) → o ≡ then_some r (Some i) → IsTrue r ↔ RowHas (Accepts b) i
        → IfSome o (IsAnswerForGood b) × (o ≡ None → IsChangeable b)
    answer_by_first r o e h = grind (arith, answer_if_accepted, changes_by_first)

    pub decided_with_first : CanBeDecided b
    decided_with_first =
        let (more, bytes, comes) = first_open_comes b i first in
        let none : AllWithin (λ r. ¬ MayBecomeRow (b ++ more) r) table 0 i
        = λ k d low lt may. first.before k d low lt (narrows b more (get_or table k d) bytes may) in
        (more, bytes, (decided_by_rows lasts (b ++ more) (Some i) comes).1 none)

-- the empty buffer, which no row accepts, can become a Windows program
abbrev program : List ℕ
program = 0x4D ∷ 0x5A ∷ []

some_accepts : ¬ NoneHas (Accepts program) table
unfolding table stands
some_accepts none = none EXE some_row (omega arith) (omega arith) refl

pub empty_changes : NoneHas (Accepts []) table → (b : List ℕ) → length b ≡ 0 → IsChangeable b
empty_changes blank (x ∷ b) none = absurd (omega (arith, none))
empty_changes blank [] none =
    let none_first = λ (o : Option ℕ) (first : IsFirstOf (Accepts []) table o). IsFirstOf-same (Accepts []) table o None first blank in
    (program, bytes_from_test program refl, λ o first then. some_accepts (rw (none_first o first) at then))

pub empty_open : NoneHas (Accepts []) table → (b : List ℕ) → length b ≡ 0 → ¬ IsDecided b
empty_open blank b none = undecided b (empty_changes blank b none)

-- the first of the candidates that may accept the buffer is the first row of the table that may
pub first_open_row : ((s : BuiltIn) → Leads s) → (b cs : List ℕ) (o : Option ℕ) → 0 < length b → cs ≡ candidates_of b
    → IsFirstAmong (RowHas (MayBecomeRow b)) cs o → IsFirstOf (MayBecomeRow b) table o
first_open_row leads [] cs o long same h = absurd (omega arith)
first_open_row leads (f ∷ b) cs o long same h =
    let listed = (first_listed (MayBecomeRow (f ∷ b)) (may_take (f ∷ b)) (λ i m. grind (arith)) o).0 in
    listed (rw (same ∙ sym (candidates_numbered (f ∷ b))) at h)

-- ---- what is decided later

module _ (lasts : (s : BuiltIn) → Lasts (IsAccepted s)) where
  pub decided_lasts : DecidedLasts
  decided_lasts b more bytes decided rest o rest_bytes now = stays lasts (b ++ more) rest o now (λ k d low lt a.
      not_unanswered (Accepts b) table (λ p first.
      let same = IsFirstOf-same (Accepts (b ++ more)) table p o (decided more p bytes first) now in
      let later = decided (more ++ rest) o (both_bytes more rest bytes rest_bytes) (subst (IsFirstOf (Accepts b) table) same first) in
      earlier (b ++ (more ++ rest)) o later k d low lt (joined b more rest (get_or table k d) a)))

pub decided_itself : (b : List ℕ) → IsDecided b → CanBeDecided b
decided_itself b decided = ([], All-nil (λ x. x < 256), subst IsDecided (sym (append-nil b)) decided)

pub ruleset told_later = (decided_lasts, narrows, first_open_comes)
