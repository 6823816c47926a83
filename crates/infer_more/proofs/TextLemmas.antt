-- Rows that lines describe, one after the other.
use Rattle.infer_more.proofs.Common.{◌≡◌, ℕ, List, [], ◌∷◌, Option, None, Some, inl, inr, option_map, refl, sym, ap, subst, ◌∙◌, ◌<◌, ◌≤◌, ◌+◌, MatchOption, arith, length, option_map_or, Bor, Triple, line_of, IsFirstShown, rows_left, lines_of, rows_in, rows_of, with_row}
use Rattle.infer_notation.specs.Words.{◌>>=◌}
use Rattle.infer_more.specs.Line.{Row}
use Rattle.infer_more.specs.Text.{IsLineAnswer, IsNextRow}

-- the row of the first line, and those of the others
pub record Parts (line : List ℕ) (lines : List (List ℕ)) (rows : List Row) : Type 0 where
  pub first : Option Row
  pub others : List Row
  pub is_first : line_of line ≡ Some first
  pub are_others : rows_in lines ≡ Some others
  pub is : rows ≡ with_row first others

parts_from : (line : List ℕ) (lines : List (List ℕ)) (rows : List Row) (o : Option (Option Row)) (rs : Option (List Row)) → line_of line ≡ o → rows_in lines ≡ rs
    → (o >>= λ r. option_map (with_row r) rs) ≡ Some rows → Parts line lines rows
parts_from line lines rows None rs is-o is-rs e = absurd cc
parts_from line lines rows (Some r) None is-o is-rs e = absurd cc
parts_from line lines rows (Some r) (Some others) is-o is-rs e = record { first = r; others = others; is_first = is-o; are_others = is-rs; is = cc }

pub parts_in : (line : List ℕ) (lines : List (List ℕ)) (rows : List Row) → rows_in (line ∷ lines) ≡ Some rows → Parts line lines rows
parts_in line lines rows e = parts_from line lines rows (line_of line) (rows_in lines) refl refl e

pub parts_of : (text line : List ℕ) (lines : List (List ℕ)) (rows : List Row) → lines_of text ≡ line ∷ lines → rows_of text ≡ Some rows → Parts line lines rows
parts_of text line lines rows is e = parts_in line lines rows (sym (ap rows_in is) ∙ e)

module _ (P : Row → Type 0) where
  -- a row that does not answer is passed over
  pub first_past : (r : Option Row) (others : List Row) → IsLineAnswer P r None → (t : Option Triple) → IsFirstShown P others t → IsFirstShown P (with_row r others) t
  first_past None others a t h = h
  first_past (Some r) others (inl (p, e)) t h = absurd cc
  first_past (Some r) others (inr (other, e)) t h = inr (other, h)

  pub first_here : (r : Option Row) (others : List Row) (x : Triple) → IsLineAnswer P r (Some x) → IsFirstShown P (with_row r others) (Some x)
  first_here None others x a = absurd cc
  first_here (Some r) others x (inl h) = inl h
  first_here (Some r) others x (inr (other, e)) = absurd cc

  -- what the first line shows, or the others do
  pub first_in : (line : List ℕ) (lines : List (List ℕ)) (rows : List Row) (x : Triple) → rows_in (line ∷ lines) ≡ Some rows
      → ((r : Option Row) → line_of line ≡ Some r → IsLineAnswer P r (Some x)) → IsFirstShown P rows (Some x)
  first_in line lines rows x e a =
      let parts = parts_in line lines rows e in
      subst (λ rs. IsFirstShown P rs (Some x)) (sym parts.is) (first_here parts.first parts.others x (a parts.first parts.is_first))

  pub later_in : (line : List ℕ) (lines : List (List ℕ)) (rows : List Row) → rows_in (line ∷ lines) ≡ Some rows → ((r : Option Row) → line_of line ≡ Some r → IsLineAnswer P r None)
      → (others : List Row) × (rows_in lines ≡ Some others) × ((t : Option Triple) → IsFirstShown P others t → IsFirstShown P rows t)
  later_in line lines rows e a =
      let parts = parts_in line lines rows e in
      (parts.others, parts.are_others, λ t h. subst (λ rs. IsFirstShown P rs t) (sym parts.is) (first_past parts.first parts.others (a parts.first parts.is_first) t h))

  pub answer_here : (text line : List ℕ) (lines : List (List ℕ)) (rows : List Row) (x : Triple) → lines_of text ≡ line ∷ lines → rows_of text ≡ Some rows
      → ((r : Option Row) → line_of line ≡ Some r → IsLineAnswer P r (Some x)) → IsFirstShown P rows (Some x)
  answer_here text line lines rows x is e a = first_in line lines rows x (sym (ap rows_in is) ∙ e) a

  pub answer_later : (text line : List ℕ) (lines : List (List ℕ)) (rows : List Row) → lines_of text ≡ line ∷ lines → rows_of text ≡ Some rows
      → ((r : Option Row) → line_of line ≡ Some r → IsLineAnswer P r None)
      → (others : List Row) × (rows_in lines ≡ Some others) × ((t : Option Triple) → IsFirstShown P others t → IsFirstShown P rows t)
  answer_later text line lines rows is e a = later_in line lines rows (sym (ap rows_in is) ∙ e) a

  pub answer_none : (rows : List Row) → rows_in [] ≡ Some rows → IsFirstShown P rows None
  answer_none [] e = refl
  answer_none (r ∷ rows) e = absurd cc

-- there is a first line
pub some_lines : (all : List (List ℕ)) (line : List ℕ) (o : Option (Bor (List ℕ))) (n : ℕ)
    → MatchOption o (all ≡ line ∷ []) (λ rest. (all ≡ line ∷ lines_of rest.now) × (length rest.now < n)) → (lines : List (List ℕ)) × (all ≡ line ∷ lines)
some_lines all line None n h = ([], h)
some_lines all line (Some rest) n h = (lines_of rest.now, h.0)

-- what is left is less than the text
pub line_less : (all : List (List ℕ)) (line : List ℕ) (o : Option (Bor (List ℕ))) (n : ℕ) → MatchOption o (all ≡ line ∷ []) (λ rest. (all ≡ line ∷ lines_of rest.now) × (length rest.now < n))
    → option_map_or (λ text. length text.now + 1) o 0 ≤ n
line_less all line None n h = omega arith
line_less all line (Some rest) n h = let less = h.1 in omega arith

-- the first line, and those that are left
pub left_lines : (all : List (List ℕ)) (line : List ℕ) (o : Option (Bor (List ℕ))) (n : ℕ)
    → MatchOption o (all ≡ line ∷ []) (λ rest. (all ≡ line ∷ lines_of rest.now) × (length rest.now < n))
    → (lines : List (List ℕ)) × (all ≡ line ∷ lines) × (rows_in lines ≡ rows_left (option_map (λ text. text.now) o))
left_lines all line None n h = ([], h, refl)
left_lines all line (Some rest) n h = (lines_of rest.now, h.0, refl)

module _ (text line : List ℕ) (lines : List (List ℕ)) (rows : List Row) (left : Option (List Row)) (is : lines_of text ≡ line ∷ lines) (e : rows_of text ≡ Some rows) (is-left : rows_in lines ≡ left) where
  -- a line with a row
  pub row_next : (x : Triple) → ((r : Option Row) → line_of line ≡ Some r → Some x ≡ option_map (λ own. own.shows) r) → IsNextRow rows (Some x) left
  row_next x shown = let parts = parts_of text line lines rows is e in on_first parts.first parts.others (shown parts.first parts.is_first) parts.are_others parts.is
    where
      on_first : (r : Option Row) (others : List Row) → Some x ≡ option_map (λ own. own.shows) r → rows_in lines ≡ Some others → rows ≡ with_row r others → IsNextRow rows (Some x) left
      on_first None others shows are is-rows = absurd cc
      on_first (Some r) others shows are is-rows = (r, others, is-rows, cc, sym is-left ∙ are)

  -- a line without one
  pub row_later : ((r : Option Row) → line_of line ≡ Some r → None ≡ option_map (λ own. own.shows) r) → left ≡ Some rows
  row_later shown = let parts = parts_of text line lines rows is e in on_first parts.first parts.others (shown parts.first parts.is_first) parts.are_others parts.is
    where
      on_first : (r : Option Row) (others : List Row) → None ≡ option_map (λ own. own.shows) r → rows_in lines ≡ Some others → rows ≡ with_row r others → left ≡ Some rows
      on_first None others shows are is-rows = sym is-left ∙ (are ∙ ap (λ (rs : List Row). Some rs) (sym is-rows))
      on_first (Some r) others shows are is-rows = absurd cc
