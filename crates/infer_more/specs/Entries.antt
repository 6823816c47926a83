-- What is known of the first rows of a text.
use Rattle.std.specs.Prelude.{◌+◌, ◌*◌, ℕ, Bool, not, List, [], ◌∷◌, Option, None, Some, get_or, if◌then◌else◌}
use Rattle.infer_more.specs.Line.{is_remark}
use Rattle.infer_more.specs.Text.{lines_of}
use Rattle.infer_notation.specs.Words.{after_blanks}

-- the first four bytes of an extension as a number, and 0 for none: equal extensions have the same digest
abbrev pub digest_of : Option (List ℕ) → ℕ
digest_of None = 0
digest_of (Some w) = get_or w 0 0 + 0x100 * get_or w 1 0 + 0x1_0000 * get_or w 2 0 + 0x100_0000 * get_or w 3 0

-- the line is neither blank nor a remark
abbrev pub is_row_line : List ℕ → Bool
is_row_line line = not (is_remark (after_blanks line))

-- the lines that are neither blank nor remarks
abbrev pub row_lines : List (List ℕ) → List (List ℕ)
row_lines [] = []
row_lines (line ∷ lines) = if is_row_line line then line ∷ row_lines lines else row_lines lines

-- the lines of what is left of a text, if anything is
abbrev pub left_lines : Option (List ℕ) → List (List ℕ)
left_lines None = []
left_lines (Some text) = lines_of text
