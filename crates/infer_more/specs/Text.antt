-- A text of types: lines, each of which describes a type or none.
use Rattle.std.specs.Prelude.{◌≡◌, ◌≤◌, ◌==◌, ◌⊎◌, IsTrue, if◌then◌else◌, ℕ, Bool, List, [], ◌∷◌, Option, None, Some, MatchOption, is_some, length, option_map, ◌+◌}
use Rattle.std.specs.Option.{option_map_or}
use Rattle.std.specs.List.{prefix_len, slice_split}
use Rattle.infer.specs.First.{IsAnswer, IsFirstOf}
use Rattle.infer.specs.Row.{Accepts}
use Rattle.infer.specs.Table as built_in
use Rattle.infer.specs.Triple.{Triple, triple}
use Rattle.infer_notation.specs.Alternative.{Accepted}
use Rattle.infer_more.specs.Wider.{IsWiderAnswer}
use Rattle.infer_notation.specs.Grammar.{unread}
use Rattle.infer_notation.specs.Reasons.{is_of_token}
pub use Rattle.infer_notation.specs.Reasons.{reason_text}
use Rattle.infer_notation.specs.Words.{◌>>=◌, after_blanks}
use Rattle.infer_more.specs.Line.{Row, fields_of, line_of}
use Rattle.infer_more.specs.declared.types.Found.{Found}
use Rattle.infer_more.specs.declared.types.Mistake.{Mistake}
use Rattle.infer_more.specs.declared.types.Rows.{Rows}

-- 0A ends a line
abbrev pub is_line_end : ℕ → Bool
is_line_end x = x == 0x0A

abbrev pub lines_of : List ℕ → List (List ℕ)
lines_of text = slice_split is_line_end text

-- a line's row, if it has one, and further rows
abbrev pub with_row : Option Row → List Row → List Row
with_row None rows = rows
with_row (Some r) rows = r ∷ rows

-- the rows that lines describe, if each of them describes one or none
abbrev pub rows_in : List (List ℕ) → Option (List Row)
rows_in [] = Some []
rows_in (line ∷ lines) = line_of line >>= λ r. option_map (with_row r) (rows_in lines)

-- the rows that a text describes
abbrev pub rows_of : List ℕ → Option (List Row)
rows_of text = rows_in (lines_of text)

-- how many lines stand before the first that describes neither a row nor none
abbrev pub lines_before_mistake : List (List ℕ) → ℕ
lines_before_mistake lines = prefix_len (λ line. is_some (line_of line)) lines

-- the first line that describes neither a row nor none
abbrev pub mistaken_line : List (List ℕ) → List ℕ
mistaken_line [] = []
mistaken_line (line ∷ lines) = if is_some (line_of line) then mistaken_line lines else line

-- what is left of a line from the first place of its signature on at which no token stands
abbrev pub unread_of : List ℕ → List ℕ
unread_of line = unread (fields_of (after_blanks line)).signature

-- the mistake of a text is in its first line that describes neither a row nor none, from its first byte up to its end.
-- If no token stands at the mistake, that is the first such place.
pub record IsMistake (text : List ℕ) (mistake : Mistake) : Type 0 where
  pub line : mistake.line ≡ lines_before_mistake (lines_of text) + 1
  pub from : 1 ≤ mistake.column
  pub to : mistake.column ≤ length (mistaken_line (lines_of text)) + 1
  pub first : IsTrue (is_of_token mistake.reason)
      → mistake.column + length (unread_of (mistaken_line (lines_of text))) ≡ length (mistaken_line (lines_of text)) + 1

-- the rows of what is left of a text, if anything is
abbrev pub rows_left : Option (List ℕ) → Option (List Row)
rows_left None = Some []
rows_left (Some text) = rows_of text

-- the triple is that of the next row, after which these are left, and none exactly if there is none
abbrev pub IsNextRow : List Row → Option Triple → Option (List Row) → Type 0
IsNextRow rows None left = rows ≡ []
IsNextRow rows (Some t) left = (r : Row) × (more : List Row) × (rows ≡ r ∷ more) × (t ≡ r.shows) × (left ≡ Some more)

-- what is shown of a type that was found
abbrev pub found_shows : Found → Triple
found_shows f = triple f.matcher_type f.mime_type.now f.extension.now

-- how many bytes are left of a text, with an end of its last line
abbrev pub left_size : Rows → ℕ
left_size rows = option_map_or (λ text. length text.now + 1) rows.rest 0

-- what goes over the rows of a text shows the next one, and is left with those after it
abbrev pub NextShown : Rows → Option Found → Rows → Type 0
NextShown before next after =
    (rows : List Row) → rows_left (option_map (λ text. text.now) before.rest) ≡ Some rows → IsNextRow rows (option_map found_shows next) (rows_left (option_map (λ text. text.now) after.rest))

-- the row is asked below the built-in answer with this extension, or none, and its signature accepts the buffer
abbrev pub Answers : Option (List ℕ) → List ℕ → Row → Type 0
Answers extension b r = (r.parent ≡ extension) × Accepted r.signature b

-- the triple of the first row with the property, and none exactly if no row has it
abbrev pub IsFirstShown : (Row → Type 0) → List Row → Option Triple → Type 0
IsFirstShown P [] t = t ≡ None
IsFirstShown P (r ∷ rows) t = (P r × (t ≡ Some r.shows)) ⊎ ((¬ P r) × IsFirstShown P rows t)

-- what one line adds to an answer: its row's triple, if that has the property
abbrev pub IsLineAnswer : (Row → Type 0) → Option Row → Option Triple → Type 0
IsLineAnswer P None t = t ≡ None
IsLineAnswer P (Some r) t = (P r × (t ≡ Some r.shows)) ⊎ ((¬ P r) × (t ≡ None))

-- the triple is that of the first row that is asked below the built-in answer and accepts the buffer, and none exactly if
-- there is none
pub record IsOwnAnswer (rows : List Row) (b : List ℕ) (own : Option Triple) : Type 0 where
  pub parent : Option Triple
  pub answers : IsAnswer (Accepts b) built_in.table parent
  pub first : IsFirstShown (Answers (option_map (λ p. p.extension) parent) b) rows own

-- the triple is that of the first row that is asked below the built-in answer and accepts the buffer, and that of the
-- wider answer exactly if there is none
pub record IsTypesAnswer (rows : List Row) (b : List ℕ) (t : Option Triple) : Type 0 where
  pub parent : Option Triple
  pub own : Option Triple
  pub answers : IsAnswer (Accepts b) built_in.table parent
  pub first : IsFirstShown (Answers (option_map (λ p. p.extension) parent) b) rows own
  pub is : MatchOption own (IsWiderAnswer b t) (λ x. t ≡ Some x)

-- the line describes a row that is asked below the built-in answer with this extension, or none, and accepts the buffer
abbrev pub LineAnswers : Option (List ℕ) → List ℕ → List ℕ → Type 0
LineAnswers extension b line = (r : Row) × (line_of line ≡ Some (Some r)) × Answers extension b r

-- the number is that of the first such line, the first of all being 1, and none exactly if there is none
pub record IsAnswerLine (text b : List ℕ) (number : Option ℕ) : Type 0 where
  pub parent : Option Triple
  pub answers : IsAnswer (Accepts b) built_in.table parent
  pub place : Option ℕ
  pub first : IsFirstOf (LineAnswers (option_map (λ p. p.extension) parent) b) (lines_of text) place
  pub is : number ≡ option_map (λ i. i + 1) place
