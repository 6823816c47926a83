-- A final verdict stays final.
use Rattle.infer_sniff.proofs.Common.{◌≡◌, ◌↔◌, ℕ, ◌<◌, ◌≤◌, Bool, leb, List, ◌++◌, length, get_or, sym, ap, subst, ◌∙◌, inl, inr, Option, None, Some, arith, IsTrue, length-append, cases_lt, nat_tests, append_assoc, slice_get-get_or, IsAwaited, last_awaited, NewcomersAreAwaited, BuiltIn, IsAccepted, IsAnswer, IsFirstOf, IsNotLater, Lasts, Row, Accepts, row, signature_of, table, Triple, Begins, last_after, AreAlike, StaysFinalFromBeginning, IsTypeOf, IsSettled, IsVerdict, StaysFinal, RowStaysFinal, Verdict, SoFar, Final}
use Rattle.infer.specs.declared.beginnings.Beginning.{Beginning}
use Rattle.infer.specs.declared.beginnings.Beginning.TheVariants.{OpenBox, Compound, Archive, Frame, White, Mark}
use Rattle.infer.specs.DeepLaws.{Beginnings}
use Rattle.infer.specs.declared.table.rows.TheConstants.{ROW_COUNT}
use Rattle.infer.specs.declared.table.file_type.FileType.{FileType}
use Rattle.infer.proofs.FirstLemmas.{IsFirstOf-same, same_answer}
use Rattle.infer.proofs.OrderLemmas.{some_row}

-- a row accepts a buffer whatever is read for a row that is not there
module _ (buf : List ℕ) (i : ℕ) (lt : i < length table) where
  accepts_at : (d : Row BuiltIn) → Accepts buf (get_or table i d) → IsAccepted (signature_of i) buf
  unfolding signature_of
  accepts_at d h = rw (slice_get-get_or table i d lt) h

  accepts_from : (d : Row BuiltIn) → IsAccepted (signature_of i) buf → Accepts buf (get_or table i d)
  unfolding signature_of
  accepts_from d h = rw (slice_get-get_or table i d lt) at h

-- the first row of a buffer is not later than a row that accepts it
first_by : (buf : List ℕ) (o : Option ℕ) (i : ℕ)
    → IsFirstOf (Accepts buf) table o → i < length table → IsAccepted (signature_of i) buf → IsNotLater o (Some i)
first_by buf None i none lt h = none i some_row (omega arith) lt (accepts_from buf i lt some_row h)
first_by buf (Some j) i first lt h = elim (cases_lt i j) [ inl l ↦ absurd (first.before i some_row (omega arith) l (accepts_from buf i lt some_row h)) | inr le ↦ le ]

-- one buffer has one verdict
pub alike : (b : List ℕ) (v w : Verdict) → IsVerdict b v → IsVerdict b w → AreAlike v w
alike b h1 h2 h k = grind (arith, nat_tests, same_answer (Accepts b) table)

later : (o p q : Option ℕ) → IsNotLater o p → IsNotLater p q → IsNotLater o q
later h0 h1 h2 h k = grind (arith, nat_tests)

-- a buffer of at least 1024 bytes is settled by the case that holds and has the least bound
module _ (b : List ℕ) (long : 1024 ≤ length b) (how : Beginning) (holds : Begins how b) (least : (other : Beginning) → Begins other b → last_after how ≤ last_after other) where
  settled_within : (o : Option ℕ) → IsFirstOf (Accepts b) table o → IsNotLater o (Some (last_after how)) → IsSettled b
  settled_within o first h = grind (arith, nat_tests, IsFirstOf-same (Accepts b) table o)

  pub open-from_none : IsFirstOf (Accepts b) table None → ¬ IsSettled b
  open-from_none none settled = settled.within None none how holds

  pub settled-from_first : (i : ℕ) (r : Bool) → r ≡ leb i (last_after how) → IsFirstOf (Accepts b) table (Some i) → IsTrue r ↔ IsSettled b
  settled-from_first i r e first = (
    λ is. settled_within (Some i) first (grind (arith, nat_tests)),
    λ settled. let low = settled.within (Some i) first how holds in grind (arith, nat_tests),
  )

-- the case in which a signature is awaited
in_case : (s : BuiltIn) (b : List ℕ) → IsAwaited s b → (how : Beginning) × Begins how b × (last_after how ≡ last_awaited s)
in_case h0 b h2 = grind (arith, nat_tests)

module _ (every : (s : BuiltIn) → Lasts (IsAccepted s)) (b more : List ℕ) where
  keeps : (i : ℕ) → i < length table → Accepts b (get_or table i some_row) → IsAccepted (signature_of i) (b ++ more)
  keeps i lt h = every (signature_of i) b more (accepts_at b i lt some_row h)

  not_later : (o p : Option ℕ) → IsFirstOf (Accepts b) table o → IsFirstOf (Accepts (b ++ more)) table p → IsNotLater p o
  not_later None p first then = tt
  not_later (Some i) p first then = first_by (b ++ more) p i then first.within (keeps i first.within (first.here some_row))

module _ (many : length table ≡ ROW_COUNT) (every : (s : BuiltIn) → Lasts (IsAccepted s)) (newcomers : NewcomersAreAwaited) (early : Beginnings)
    (b more : List ℕ) (settled : IsSettled b) where
  long : 1024 ≤ length b
  long = settled.long

  -- no row comes before the first
  none_between : (o : Option ℕ) → IsFirstOf (Accepts b) table o → (i n : ℕ) → i < length table → (¬ IsNotLater o (Some i))
      → IsNotLater o (Some n) → ¬ ((k : ℕ) → i < k → k ≤ n → IsAccepted (signature_of k) b → ¬ IsAccepted (signature_of k) (b ++ more))
  none_between None first i n lt earlier within alone = within
  none_between (Some f) first i n lt earlier within alone = grind (arith, nat_tests, some_row, accepts_at b f first.within some_row)

  none_before : (o : Option ℕ) → IsFirstOf (Accepts b) table o → (i : ℕ) → i < length table → (¬ IsNotLater o (Some i)) → ¬ IsAccepted (signature_of i) (b ++ more)
  none_before o first i lt earlier h = grind (arith, nat_tests, first_by b o i first lt, in_case (signature_of i) b, none_between o first i (last_awaited (signature_of i)) lt earlier)

  first_stays : (o : Option ℕ) → IsFirstOf (Accepts b) table o → IsFirstOf (Accepts (b ++ more)) table o
  first_stays None none = λ i d low lt h. none_before None none i lt (λ k. k) (accepts_at (b ++ more) i lt d h)
  first_stays (Some f) first = grind (arith, nat_tests, accepts_from (b ++ more) f first.within, some_row, none_before (Some f) first, accepts_at (b ++ more))

  answer_stays : (t : Option Triple) → IsAnswer (Accepts b) table t → IsAnswer (Accepts (b ++ more)) table t
  answer_stays None none = first_stays None none
  answer_stays (Some t) (i, first, shown) = (i, first_stays (Some i) first, shown)

  -- a case that holds of more bytes held before
  held : (how : Beginning) → Begins how (b ++ more) → Begins how b
  held OpenBox h = early.open_box b more long h
  held Compound h = early.compound b more long h
  held Archive h = early.office b more long h
  held Frame h = early.frame b more long h
  held White h = early.white b more long h
  held Mark h = early.mark b more long h

  settled_by : (o : Option ℕ) → IsFirstOf (Accepts b) table o → IsSettled (b ++ more)
  settled_by o first = record {
    long = let l = long in omega (arith, length-append b more);
    within = λ p then how holds. later p o (Some (last_after how)) (not_later every b more o p first then) (settled.within o first how (held how holds));
  }

  settled_stays : (t : Option Triple) → IsAnswer (Accepts b) table t → IsSettled (b ++ more)
  settled_stays None none = settled_by None none
  settled_stays (Some t) (i, first, shown) = settled_by (Some i) first

pub Final-stays : length table ≡ ROW_COUNT → ((s : BuiltIn) → Lasts (IsAccepted s)) → NewcomersAreAwaited → Beginnings → (b : List ℕ) (answer : Option FileType)
    → IsVerdict b (Final answer) → StaysFinal b (Final answer)
Final-stays many every newcomers early b answer h6 more = grind (arith, nat_tests, answer_stays, settled_stays)

pub first-stays : length table ≡ ROW_COUNT → ((s : BuiltIn) → Lasts (IsAccepted s)) → NewcomersAreAwaited → Beginnings → (b : List ℕ) (row : Option ℕ)
    → IsFirstOf (Accepts b) table row → IsSettled b → RowStaysFinal b row
first-stays many every newcomers early b row first settled more = grind (arith, nat_tests, first_stays, settled_by)

-- what stays final from a beginning on stays final
pub Final-stays-on : (verdict : Verdict) (b : List ℕ) → StaysFinalFromBeginning verdict b → StaysFinal b verdict
Final-stays-on (SoFar answer) b h = tt
Final-stays-on (Final answer) b (short, more, e, lasts) = λ rest.
    let joined : b ++ rest ≡ short ++ (more ++ rest) = ap (λ u. u ++ rest) e ∙ append_assoc short more rest in
    subst (λ u. IsTypeOf u answer × IsVerdict u (Final answer)) (sym joined) (lasts (more ++ rest))
