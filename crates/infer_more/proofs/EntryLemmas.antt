-- Rows of which something is known.
use Rattle.infer_more.proofs.Common.{◌≡◌, ◌+◌, ◌<◌, ℕ, Bool, true, false, not, cond, drop, get_or, List, [], ◌∷◌, ◌++◌, Option, None, Some, inl, inr, length, map, option_map, refl, sym, ap, ◌∙◌, cases_Bool, false≢true, drop_more, left_lines, row_lines, Fields, fields_of, is_remark, line_of, row_of, lines_of, rows_in, rows_left, with_row, after_blanks}
use Rattle.infer_more.specs.Entries.{is_row_line}
use Rattle.infer_more.specs.Line.{Row}
use Rattle.infer_more.specs.declared.types.entries.Entry.{Entry}
use Rattle.infer_notation.specs.Words.{◌>>=◌}

-- ---- lines

-- a remark describes no row
remark_of : (line : List ℕ) → is_row_line line ≡ false → line_of line ≡ Some None
remark_of line e = chosen (is_remark (after_blanks line)) e
  where
    chosen : (b : Bool) → not b ≡ false → cond b (Some None) (option_map (λ r. Some r) (row_of (fields_of (after_blanks line)))) ≡ Some None
    chosen true e = refl
    chosen false e = absurd cc

map_none : (o : Option (List Row)) → option_map (with_row None) o ≡ o
map_none None = refl
map_none (Some rows) = refl

-- so the rows of lines are those of the others
pub rows_kept : (lines : List (List ℕ)) → rows_in (row_lines lines) ≡ rows_in lines
rows_kept [] = refl
rows_kept (line ∷ lines) = elim (cases_Bool (is_row_line line)) [
  | inl row ↦ (let kept : row_lines (line ∷ lines) ≡ line ∷ row_lines lines = rw row refl in ap rows_in kept ∙ ap (λ rs. line_of line >>= λ r. option_map (with_row r) rs) (rows_kept lines))
  | inr none ↦ (let left : row_lines (line ∷ lines) ≡ row_lines lines = rw none refl in
      ap rows_in left ∙ rows_kept lines ∙ sym (ap (λ o. o >>= λ r. option_map (with_row r) (rows_in lines)) (remark_of line none) ∙ map_none (rows_in lines)))
]

pub left_rows : (left : Option (List ℕ)) → rows_in (row_lines (left_lines left)) ≡ rows_left left
left_rows None = refl
left_rows (Some text) = rows_kept (lines_of text)

-- the row of a line that is no remark is that of its words
row_in_from : (own : Row) (o : Option Row) → option_map (λ r. Some r) o ≡ Some (Some own) → o ≡ Some own
row_in_from own None e = absurd cc
row_in_from own (Some r) e = cc

pub row_in : (line text : List ℕ) (own : Row) (f : Fields) → text ≡ after_blanks line → is_remark text ≡ false → f ≡ fields_of text → line_of line ≡ Some (Some own) → row_of f ≡ Some own
row_in line text own f is other same e = ap row_of (same ∙ ap fields_of is) ∙ chosen (is_remark (after_blanks line)) (sym (ap is_remark is) ∙ other) e
  where
    chosen : (b : Bool) → b ≡ false → cond b (Some None) (option_map (λ r. Some r) (row_of (fields_of (after_blanks line)))) ≡ Some (Some own)
        → row_of (fields_of (after_blanks line)) ≡ Some own
    chosen true t e = absurd (false≢true (sym t))
    chosen false t e = row_in_from own (row_of (fields_of (after_blanks line))) e

-- ---- entries

abbrev pub lines_in : List Entry → List (List ℕ)
lines_in entries = map (λ e. e.line.now) entries

-- the lines of the entries from one on
pub entry_at : (es : List Entry) (i : ℕ) (e : Entry) (lines : List (List ℕ)) (rows : List Row) → i < length es → e ≡ get_or es i e → rows_in (lines_in (drop i es) ++ lines) ≡ Some rows
    → rows_in (e.line.now ∷ (lines_in (drop (i + 1) es) ++ lines)) ≡ Some rows
entry_at es i e lines rows inside is all =
    let front : drop i es ≡ e ∷ drop (i + 1) es = drop_more es i e inside ∙ ap (λ x. x ∷ drop (i + 1) es) (sym is) in
    sym (ap (λ r. rows_in (lines_in r ++ lines)) front) ∙ all
