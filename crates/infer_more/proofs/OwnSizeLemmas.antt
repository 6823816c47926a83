-- How long the texts of an answer are, by a text of types or not.
use Rattle.std.proofs.Common.{◌≡◌, ◌<◌, ◌≤◌, ◌&&◌, ℕ, Bool, true, false, List, [], ◌∷◌, Option, None, Some, MatchOption, IfSome, drop, length, nat_le, option_map, take, inl, inr, refl, sym, subst, ◌∙◌, arith}
use Rattle.std.specs.List.{list_all}
use Rattle.std.proofs.lemmas.Bool.{and_parts, leb-true}
use Rattle.std.proofs.lemmas.List.{length-drop, length-take}
use Rattle.infer.specs.Triple.{Triple}
use Rattle.infer_notation.specs.Words.{after_blanks}
use Rattle.infer_more.specs.Laws.{OwnTextsFit, TextsFit}
use Rattle.infer_more.specs.Line.{Fields, Row, fields_of, is_alphanumeric, is_mime_type, is_name, is_name_byte, is_remark, line_of, row_of, slash_place}
use Rattle.infer_more.specs.Text.{Answers, IsFirstShown, lines_of, rows_in, with_row}
use Rattle.infer_more.specs.Wider.{IsWiderAnswer, shown_at}
use Rattle.infer_more.proofs.FieldLemmas.{says}
use Rattle.infer_more.proofs.EntryLemmas.{row_in}
use Rattle.infer_more.proofs.TextLemmas.{parts_in}

name_len : (xs : List ℕ) → is_name xs ≡ true → length xs ≤ 127
name_len [] is = absurd cc
name_len (x ∷ xs) is =
    let front = and_parts (is_alphanumeric x && nat_le (length xs) 126) (list_all is_name_byte xs) is in
    let fits = leb-true (length xs) 126 (and_parts (is_alphanumeric x) (nat_le (length xs) 126) front.0).1 in omega arith

mime_len : (xs : List ℕ) → is_mime_type xs ≡ true → length xs ≤ 255
unfolding is_mime_type
mime_len xs is =
    let n = slash_place xs in
    let both = and_parts (is_name (take n xs)) (is_name (drop 1 (drop n xs))) is in
    let front = name_len (take n xs) both.0 in
    let back = name_len (drop 1 (drop n xs)) both.1 in
    omega (arith, length-take n xs, length-drop n xs, length-drop 1 (drop n xs))

-- a type's texts, each within 255 bytes
abbrev Fits : Triple → Type 0
Fits t = (length t.mime_type < 256) × (length t.extension < 256)

row_fits : (f : Fields) (r : Row) → row_of f ≡ Some r → Fits r.shows
row_fits f r is =
    let told = says f r is in
    let mime = mime_len f.mime_type told.is_mime in
    let name = name_len f.extension told.is_extension in
    subst (λ (r : Row). Fits r.shows) (sym told.is) (omega arith, omega arith)

line_fits : (line : List ℕ) (r : Row) → line_of line ≡ Some (Some r) → Fits r.shows
line_fits line r is = chosen (is_remark (after_blanks line)) refl
  where
    chosen : (b : Bool) → is_remark (after_blanks line) ≡ b → Fits r.shows
    chosen true remark = absurd (let none : Some None ≡ Some (Some r) = sym (rw remark refl) ∙ is in cc)
    chosen false other = row_fits (fields_of (after_blanks line)) r (row_in line (after_blanks line) r _ refl other refl is)

module _ (P : Row → Type 0) (t : Triple) where
  -- what a line shows, if the others show what fits
  in_line : (line : List ℕ) (o : Option Row) (others : List Row) → line_of line ≡ Some o → (IsFirstShown P others (Some t) → Fits t) → IsFirstShown P (with_row o others) (Some t)
      → Fits t
  in_line line None others is later first = later first
  in_line line (Some r) others is later (inl here) = subst Fits (let shown = here.1 in let same : r.shows ≡ t = cc in same) (line_fits line r is)
  in_line line (Some r) others is later (inr after) = later after.1

  own_fits : (lines : List (List ℕ)) (rows : List Row) → rows_in lines ≡ Some rows → IsFirstShown P rows (Some t) → Fits t
  own_fits [] rows are first = absurd (let none : [] ≡ rows = cc in let shown = subst (λ rs. IsFirstShown P rs (Some t)) (sym none) first in cc)
  own_fits (line ∷ lines) rows are first =
      let both = parts_in line lines rows are in
      in_line line both.first both.others both.is_first (own_fits lines both.others both.are_others) (subst (λ rs. IsFirstShown P rs (Some t)) both.is first)

wider_fits : TextsFit 73 → (b : List ℕ) (t : Option Triple) → IsWiderAnswer b t → IfSome t Fits
wider_fits fit b t wider = subst (λ o. IfSome o Fits) (sym wider.is_shown) (shown_fits wider.number)
  where
    within : (o : Option Triple) → IfSome o (λ t. (length t.mime_type ≤ 73) × (length t.extension ≤ 73)) → IfSome o Fits
    within None h = tt
    within (Some t) h = (let m = h.0 in omega arith, let e = h.1 in omega arith)

    shown_fits : (o : Option ℕ) → IfSome (shown_at o) Fits
    shown_fits None = tt
    shown_fits (Some i) = within _ (fit i)

pub own_texts_fit : TextsFit 73 → OwnTextsFit
own_texts_fit fit text rows b t are answer = by_own answer.own answer.first answer.is
  where
    by_own : (own : Option Triple) → IsFirstShown (Answers (option_map (λ p. p.extension) answer.parent) b) rows own → MatchOption own (IsWiderAnswer b t) (λ x. t ≡ Some x)
        → IfSome t Fits
    by_own None first wider = wider_fits fit b t wider
    by_own (Some x) first is = subst (λ o. IfSome o Fits) (sym is) (own_fits _ x (lines_of text) rows are first)
