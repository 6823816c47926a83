-- The number of a line of a text: of the first one that answers, and of the first mistake.
use Rattle.std.proofs.Common.{◌≡◌, ◌+◌, ◌<◌, ℕ, zero, suc, false, List, [], ◌∷◌, Option, None, Some, IsTrue, get_or, inl, inr, is_some, length, option_map, refl, sym, ap, subst, ◌∙◌, arith}
use Rattle.infer.specs.First.{IsFirstOf}
use Rattle.infer.specs.Triple.{Triple}
use Rattle.infer_more.specs.Line.{Row, line_of}
use Rattle.infer_more.specs.Text.{Answers, IsLineAnswer, LineAnswers, found_shows, lines_of, rows_in, rows_of}
use Rattle.infer_more.specs.declared.types.Found.{Found}
use Rattle.infer_more.proofs.TextLemmas.{parts_of}

module _ {A : Type 0} (P : A → Type 0) (x : A) (xs : List A) where
  pub first_here : P x → IsFirstOf P (x ∷ xs) (Some 0)
  first_here h = record { within = omega arith; here = λ d. h; before = λ k d low high. absurd (omega arith) }

  pub first_later : (¬ P x) → (o : Option ℕ) → IsFirstOf P xs o → IsFirstOf P (x ∷ xs) (option_map suc o)
  first_later not None none = λ k d low high. at k d high
    where
      at : (k : ℕ) (d : A) → k < suc (length xs) → ¬ P (get_or (x ∷ xs) k d)
      at zero d high = not
      at (suc k) d high = none k d (omega arith) (omega arith)
  first_later not (Some i) first = record {
    within = (let lt = first.within in omega arith);
    here = first.here;
    before = λ k d low high. at k d high;
  }
    where
      at : (k : ℕ) (d : A) → k < suc i → ¬ P (get_or (x ∷ xs) k d)
      at zero d high = not
      at (suc k) d high = first.before k d (omega arith) (omega arith)

-- the line describes a row that answers, or none that does
module _ (extension : Option (List ℕ)) (b line : List ℕ) where
  pub answers_here : (o : Option Row) → line_of line ≡ Some o → (t : Triple) → IsLineAnswer (Answers extension b) o (Some t) → LineAnswers extension b line
  answers_here None is t h = absurd cc
  answers_here (Some r) is t (inl h) = (r, is, h.0)
  answers_here (Some r) is t (inr h) = absurd (let none = h.1 in cc)

  pub answers_not : (o : Option Row) → line_of line ≡ Some o → IsLineAnswer (Answers extension b) o None → ¬ LineAnswers extension b line
  answers_not None is h (r, are, a) = (let both : Some None ≡ Some (Some r) = sym is ∙ are in cc)
  answers_not (Some s) is (inl h) (r, are, a) = (let some = h.1 in cc)
  answers_not (Some s) is (inr h) (r, are, a) =
      let both : Some (Some s) ≡ Some (Some r) = sym is ∙ are in
      let same : r ≡ s = cc in h.0 (subst (Answers extension b) same a)

-- a line of a text that describes rows, and the lines after it
pub line_described : (rest line : List ℕ) (lines : List (List ℕ)) → lines_of rest ≡ line ∷ lines → IsTrue (is_some (rows_of rest))
    → (o : Option Row) × (line_of line ≡ Some o) × IsTrue (is_some (rows_in lines))
line_described rest line lines is told = from (rows_of rest) refl told
  where
    from : (o : Option (List Row)) → rows_of rest ≡ o → IsTrue (is_some o) → (r : Option Row) × (line_of line ≡ Some r) × IsTrue (is_some (rows_in lines))
    from None are some = absurd (cc)
    from (Some rows) are some = let both = parts_of rest line lines rows is are in (both.first, both.is_first, ap is_some both.are_others)

-- what a line answers tells whether it does
module _ (extension : Option (List ℕ)) (b line : List ℕ) (o : Option Row) (is : line_of line ≡ Some o) where
  pub told_here : (found : Option Found) → IsTrue (is_some found) → ((r : Option Row) → line_of line ≡ Some r → IsLineAnswer (Answers extension b) r (option_map found_shows found))
      → LineAnswers extension b line
  told_here None some answers = absurd (cc)
  told_here (Some found) some answers = answers_here extension b line o is (found_shows found) (answers o is)

  pub told_not : (found : Option Found) → is_some found ≡ false → ((r : Option Row) → line_of line ≡ Some r → IsLineAnswer (Answers extension b) r (option_map found_shows found))
      → ¬ LineAnswers extension b line
  told_not None none answers = answers_not extension b line o is (answers o is)
  told_not (Some found) none answers = absurd (cc)

-- what is found in the lines to come is found among all
module _ (extension : Option (List ℕ)) (b : List ℕ) where
  abbrev pub FoundFrom : ℕ → List (List ℕ) → Option ℕ → Type 0
  FoundFrom number all o =
      (place : Option ℕ) × IsFirstOf (LineAnswers extension b) all place × (option_map (λ i. i + number) o ≡ option_map (λ i. i + 1) place)

  abbrev pub Later : ℕ → (all rest : List (List ℕ)) → Type 0
  Later number all rest = (o : Option ℕ) → IsFirstOf (LineAnswers extension b) rest o → FoundFrom number all o

  pub from_first : (lines : List (List ℕ)) → Later 1 lines lines
  from_first lines o first = (o, first, refl)

  same_number : (o : Option ℕ) (n : ℕ) → option_map (λ i. i + (n + 1)) o ≡ option_map (λ i. i + n) (option_map suc o)
  same_number None n = refl
  same_number (Some i) n = (let e : i + (n + 1) ≡ suc i + n = omega arith in ap Some e)

  pub past_line : (number : ℕ) (all : List (List ℕ)) (line : List ℕ) (lines : List (List ℕ)) → Later number all (line ∷ lines) → (¬ LineAnswers extension b line)
      → Later (number + 1) all lines
  past_line number all line lines later not o first =
      let (place, is, same) = later (option_map suc o) (first_later (LineAnswers extension b) line lines not o first) in
      (place, is, same_number o number ∙ same)

  pub at_line : (number : ℕ) (all : List (List ℕ)) (line : List ℕ) (lines : List (List ℕ)) → Later number all (line ∷ lines) → LineAnswers extension b line
      → (place : Option ℕ) × IsFirstOf (LineAnswers extension b) all place × (Some number ≡ option_map (λ i. i + 1) place)
  at_line number all line lines later here =
      let (place, is, same) = later (Some 0) (first_here (LineAnswers extension b) line lines here) in
      let number_is : 0 + number ≡ number = omega arith in (place, is, ap Some (sym number_is) ∙ same)

  pub at_end : (number : ℕ) (all : List (List ℕ)) → Later number all [] → (place : Option ℕ) × IsFirstOf (LineAnswers extension b) all place × (None ≡ option_map (λ i. i + 1) place)
  at_end number all later = later None (λ k d low high. absurd (omega arith))
