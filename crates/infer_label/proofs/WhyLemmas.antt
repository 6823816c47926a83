-- Texts in a row, one part after the other, and what holds of reasons as of the ranges that they are of.
use Rattle.std.proofs.Common.{◌≡◌, ◌<◌, ◌≤◌, ◌+◌, ◌||◌, ◌∙◌, ℕ, Bool, true, false, zero, suc, List, [], ◌∷◌, ◌++◌, ap, append-nil, append_assoc, arith, get_or, length, map, refl, subst, sym, take}
use Rattle.std.specs.List.{flat_map, list_any}
use Rattle.std.proofs.lemmas.Grind.{flat_map-append}
use Rattle.std.proofs.lemmas.List.{take_all, take_more}
use Rattle.std.proofs.lemmas.List.Folds.{flat_map-map}
use Rattle.infer_evidence.specs.declared.ranges.Range.{Range}
use Rattle.infer_label.specs.declared.room.Room.{Room}
use Rattle.infer_label.specs.Why.{Reason, reason_of}
use Rattle.infer_label.specs.WhyText.{in_row, mark_if, stands_before}
use Rattle.infer_label.specs.Writes.{Writes}
use Rattle.infer_label.specs.declared.why.Why as code
use Rattle.infer_label.proofs.WritesLemmas.{writes_both, writes_nothing}

pub stands_both : (before : Bool) (xs ys : List (List ℕ)) → stands_before before (xs ++ ys) ≡ stands_before (stands_before before xs) ys
stands_both before [] ys = refl
stands_both before (x ∷ xs) [] = refl
stands_both before (x ∷ xs) (y ∷ ys) = refl

stays : (xs : List (List ℕ)) → stands_before true xs ≡ true
stays [] = refl
stays (x ∷ xs) = refl

pub row_both : (mark : List ℕ) (before : Bool) (xs ys : List (List ℕ)) → in_row mark before (xs ++ ys) ≡ in_row mark before xs ++ in_row mark (stands_before before xs) ys
row_both mark before [] ys = refl
row_both mark before (x ∷ xs) ys =
    let first = mark_if before mark in
    let others : in_row mark true (xs ++ ys) ≡ in_row mark true xs ++ in_row mark true ys = row_both mark true xs ys ∙ ap (λ b. in_row mark true xs ++ in_row mark b ys) (stays xs) in
    ap (λ l. first ++ (x ++ l)) others
    ∙ ap (λ l. first ++ l) (sym (append_assoc x (in_row mark true xs) (in_row mark true ys)))
    ∙ sym (append_assoc first (x ++ in_row mark true xs) (in_row mark true ys))

any_map : {X Y : Type 0} (f : Y → Bool) (g : X → Y) (xs : List X) → list_any f (map g xs) ≡ list_any (λ x. f (g x)) xs
any_map f g [] = refl
any_map f g (x ∷ xs) = ap (λ b. f (g x) || b) (any_map f g xs)

either : (a b : Bool) → b ≡ true → (a || b) ≡ true
either true b is = refl
either false b is = is

any_here : {X : Type 0} (f : X → Bool) (xs : List X) (i : ℕ) (d : X) → i < length xs → f (get_or xs i d) ≡ true → list_any f xs ≡ true
any_here f [] i d lt is = absurd (omega arith)
any_here f (x ∷ xs) zero d lt is = ap (λ b. b || list_any f xs) is
any_here f (x ∷ xs) (suc i) d lt is = either (f x) (list_any f xs) (any_here f xs i d (omega arith) is)

-- the reason that a range is
abbrev pub reason_in : code.Why → Range → Reason
reason_in w r = reason_of w.buf.now w.answer w.built_in r

-- a range has a property of reasons, and none so far
pub some_here : (w : code.Why) (f : Reason → Bool) (items : List Range) (i : ℕ) (d : Range) (reason : Reason) (reasons : List Reason) → i < length items
    → map (reason_in w) items ≡ reasons → reason ≡ reason_in w (get_or items i d) → f reason ≡ true → list_any f reasons ≡ true
some_here w f items i d reason reasons lt are is has =
    ap (list_any f) (sym are) ∙ any_map f (reason_in w) items ∙ any_here (λ r. f (reason_in w r)) items i d lt (ap f (sym is) ∙ has)

pub none_at_all : (w : code.Why) (f : Reason → Bool) (items : List Range) (i : ℕ) (reasons : List Reason) → length items ≤ i
    → map (reason_in w) items ≡ reasons → list_any (λ r. f (reason_in w r)) (take i items) ≡ false → list_any f reasons ≡ false
none_at_all w f items i reasons end are told =
    ap (list_any f) (sym are) ∙ any_map f (reason_in w) items ∙ ap (list_any (λ r. f (reason_in w r))) (sym (take_all i items end)) ∙ told

more : {X A : Type 0} (f : X → List A) (xs : List X) (i : ℕ) (d : X) → i < length xs → flat_map f (take (i + 1) xs) ≡ flat_map f (take i xs) ++ f (get_or xs i d)
more f xs i d lt =
    ap (flat_map f) (take_more xs i d lt) ∙ flat_map-append f (take i xs) (get_or xs i d ∷ []) ∙ ap (λ l. flat_map f (take i xs) ++ l) (append-nil (f (get_or xs i d)))

module _ (mark : List ℕ) (first : Bool) where
  -- these texts were written, and it is known whether something stands before what follows
  abbrev pub Continues : (old new : Room) → Bool → List (List ℕ) → Type 0
  Continues old new before texts = Writes old new (in_row mark first texts) × (before ≡ stands_before first texts)

  pub nothing_yet : (w : Room) → Continues w w first []
  nothing_yet w = (writes_nothing w, refl)

  pub continued : (xs ys : List (List ℕ)) {old between new : Room} {before after : Bool}
      → Continues old between before xs → Writes between new (in_row mark before ys) → after ≡ stands_before before ys → Continues old new after (xs ++ ys)
  continued xs ys {old = old} {between = between} {new = new} (written, is) then so = (
    subst (Writes old new) (sym (row_both mark first xs ys))
        (writes_both written (subst (λ b. Writes between new (in_row mark b ys)) is then)),
    so ∙ ap (λ b. stands_before b ys) is ∙ sym (stands_both first xs ys),
  )

  -- the texts of one more range
  pub one_more : (w : code.Why) (h : Reason → List (List ℕ)) {old between new : Room} {before after : Bool}
      (items : List Range) (i : ℕ) (d : Range) (reason : Reason) → i < length items
      → Continues old between before (flat_map (λ r. h (reason_in w r)) (take i items)) → reason ≡ reason_in w (get_or items i d)
      → Writes between new (in_row mark before (h reason)) → after ≡ stands_before before (h reason)
      → Continues old new after (flat_map (λ r. h (reason_in w r)) (take (i + 1) items))
  one_more w h {old = old} {between = between} {new = new} {before = before} {after = after} items i d reason lt so_far is written so =
      subst (Continues old new after) (sym (more (λ r. h (reason_in w r)) items i d lt))
      (continued (flat_map (λ r. h (reason_in w r)) (take i items)) (h (reason_in w (get_or items i d))) so_far
      (subst (λ r. Writes between new (in_row mark before (h r))) is written) (so ∙ ap (λ r. stands_before before (h r)) is))

  -- and of all
  pub all_told : (w : code.Why) (h : Reason → List (List ℕ)) {old new : Room} {before : Bool}
      (items : List Range) (i : ℕ) (reasons : List Reason) → length items ≤ i → map (reason_in w) items ≡ reasons
      → Continues old new before (flat_map (λ r. h (reason_in w r)) (take i items)) → Continues old new before (flat_map h reasons)
  all_told w h {old = old} {new = new} {before = before} items i reasons end are told =
      subst (Continues old new before)
      (ap (flat_map (λ r. h (reason_in w r))) (take_all i items end) ∙ sym (flat_map-map h (reason_in w) items) ∙ ap (flat_map h) are) told
