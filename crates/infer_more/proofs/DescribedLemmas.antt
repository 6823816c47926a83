-- The rows that are read of a text are those that it describes.
use Rattle.infer_more.proofs.Common.{◌≡◌, ◌<◌, ◌&&◌, ◌==◌, ℕ, Bool, true, false, not, List, [], ◌∷◌, ◌++◌, Option, None, Some, codes, drop, length, nat_le, option_map, take, inl, inr, refl, sym, ap, subst, ◌∙◌, arith, take-append_seam, cases_Bool, eqb-true, take-append-drop, slice_split_at, slice_split_none, bytes_eq-Decides, if◌then◌else◌, list_all, MatcherType, signature_of, after_blanks, class_of, fields_of, is_alphanumeric, is_built_in, is_mime_type, is_name, is_name_byte, is_remark, line_of, parent_of, row, row_of, is_line_end, lines_of, rows_in, rows_of, with_row, and_parts}
use Rattle.std.proofs.Math.Seq.{drop-append_seam}
use Rattle.std.proofs.lemmas.Bool.{not-true}
use Rattle.std.proofs.lemmas.List.{append-nil}
use Rattle.std.specs.List.{prefix_len}
use Rattle.infer_notation.proofs.MadeLemmas.{front_length, fronts_pass, next_fails, not_same}
use Rattle.infer_notation.proofs.DescribedLemmas.{IsSplit, cut, is_described, is_signature, is_split, whole}
use Rattle.infer.specs.Table as built_in
use Rattle.infer_notation.specs.Alternative.{Alternative}
use Rattle.infer_notation.specs.Words.{◌>>=◌, after_word, first_passes, is_blank, word, word_len}
use Rattle.infer_more.specs.Described.{AreBlanks, BeginsWithWord, DescribesLine, DescribesRow, DescribesRows, NamesParent, a_row, blank_line, last_line, next_line, remark}
use Rattle.infer_more.specs.Line.{Row, is_none}

abbrev is_dark : ℕ → Bool
is_dark x = not (is_blank x)

-- ---- blanks and words

record Front (text : List ℕ) : Type 0 where
  blanks : List ℕ
  are : AreBlanks blanks
  whole : text ≡ blanks ++ after_blanks text
  ends : first_passes is_blank (after_blanks text) ≡ false

front : (text : List ℕ) → Front text
front [] = record { blanks = []; are = refl; whole = refl; ends = refl }
front (x ∷ xs) = elim (cases_Bool (is_blank x)) [
  | inl is ↦ let more = front xs in record {
    blanks = x ∷ more.blanks;
    are = rw is more.are;
    whole = rw is (ap (λ u. x ∷ u) more.whole);
    ends = rw is more.ends;
  }
  | inr dark ↦ record { blanks = []; are = refl; whole = rw dark refl; ends = rw dark dark }
]

past : (blanks rest : List ℕ) → AreBlanks blanks → first_passes is_blank rest ≡ false → after_blanks (blanks ++ rest) ≡ rest
past [] [] are ends = refl
past [] (x ∷ xs) are ends = rw ends refl
past (x ∷ blanks) rest are ends = let both = and_parts (is_blank x) (list_all is_blank blanks) are in rw both.0 (past blanks rest both.1 ends)

-- a word that is read, if another follows it
pub word_read : (text : List ℕ) → 0 < length (word text) → 0 < length (after_word text) → BeginsWithWord text (word text) (after_word text)
unfolding word after_word
word_read text some more =
    let n = word_len text in
    let left = front (drop n text) in record {
      gap = left.blanks;
      whole = sym (take-append-drop n text) ∙ ap (λ u. take n text ++ u) left.whole;
      some = some;
      dark = fronts_pass is_dark text;
      blanks = left.are;
      parted = gap_some left.blanks (drop n text) (after_blanks (drop n text)) left.whole more left.ends (next_fails is_dark text);
      after = left.ends;
    }
  where
    gap_some : (gap all rest : List ℕ) → all ≡ gap ++ rest → 0 < length rest → first_passes is_blank rest ≡ false → first_passes is_dark all ≡ false → 0 < length gap
    gap_some (x ∷ gap) all rest is some ends fails = omega arith
    gap_some [] all [] is some ends fails = absurd (omega arith)
    gap_some [] all (y ∷ ys) is some ends fails = absurd (let none : true ≡ false = sym (ap not ends) ∙ ap (first_passes is_dark) (sym is) ∙ fails in cc)

-- and what stands there is read
pub read_word : (text w rest : List ℕ) → BeginsWithWord text w rest → (word text ≡ w) × (after_word text ≡ rest)
unfolding word after_word
read_word text w rest begins =
    let after = begins.gap ++ rest in
    let fails = gap_fails begins.gap begins.parted begins.blanks in
    let long = ap (prefix_len is_dark) begins.whole ∙ front_length is_dark w after begins.dark fails in (
      ap (λ n. take n text) long ∙ ap (take (length w)) begins.whole ∙ take-append_seam w after,
      ap after_blanks (ap (λ n. drop n text) long ∙ ap (drop (length w)) begins.whole ∙ drop-append_seam w after) ∙ past begins.gap rest begins.blanks begins.after,
    )
  where
    gap_fails : (gap : List ℕ) → 0 < length gap → AreBlanks gap → first_passes is_dark (gap ++ rest) ≡ false
    gap_fails [] some are = absurd (omega arith)
    gap_fails (x ∷ gap) some are = ap not (and_parts (is_blank x) (list_all is_blank gap) are).0

-- ---- a row

word_inside : (text : List ℕ) → 0 < length (word text) → 0 < length text
unfolding word
word_inside [] some = absurd (omega arith)
word_inside (x ∷ xs) some = omega arith

-- what is read of a word otherwise than of none
word_some : {A : Type 0} (f : List ℕ → A) (w : List ℕ) (x y : A) → f [] ≡ x → f w ≡ y → (x ≡ y → ⊥) → 0 < length w
word_some f [] x y none is other = absurd (other (sym none ∙ is))
word_some f (z ∷ w) x y none is other = omega arith

names_parent : (w : List ℕ) (p : Option (List ℕ)) → parent_of w ≡ Some p → NamesParent w p
names_parent w p e = elim (cases_Bool (is_none w)) [
  | inl is ↦ (let same : Some None ≡ Some p = rw is at e in let none : None ≡ p = cc in subst (NamesParent w) none ((bytes_eq-Decides w (codes "-")).0 is))
  | inr other ↦ elim (cases_Bool (is_built_in w)) [
    | inl is ↦ (let same : Some (Some w) ≡ Some p = rw (other, is) at e in let known : Some w ≡ p = cc in
        subst (NamesParent w) known (refl, is, λ dash. let yes = (bytes_eq-Decides w (codes "-")).1 dash in absurd cc))
    | inr not ↦ absurd (let none : None ≡ Some p = rw (other, not) at e in cc)
  ]
]

parent_named : (w : List ℕ) (p : Option (List ℕ)) → NamesParent w p → parent_of w ≡ Some p
parent_named w None is = rw ((bytes_eq-Decides w (codes "-")).1 is) refl
parent_named w (Some e) (same, is, other) = elim (cases_Bool (is_none w)) [
  | inl dash ↦ absurd (other ((bytes_eq-Decides w (codes "-")).0 dash))
  | inr apart ↦ rw (apart, ap is_built_in same ∙ is) (ap (λ u. Some (Some u)) same)
]

module _ (text : List ℕ) where
  abbrev second : List ℕ
  second = after_word text

  abbrev third : List ℕ
  third = after_word second

  abbrev fourth : List ℕ
  fourth = after_word third

  row_built : (c : MatcherType) (p : Option (List ℕ)) (s : List Alternative) → is_name (word text) ≡ true → is_mime_type (word second) ≡ true → class_of (word third) ≡ Some c
      → parent_of (word fourth) ≡ Some p → signature_of (after_word fourth) ≡ Some s → DescribesRow text (row c (word second) (word text) p s)
  unfolding is_mime_type class_of is_built_in built_in.table signature_of
  row_built c p s is-name is-mime is-class is-parent is-signature =
      let mime = word_some is_mime_type (word second) false true refl is-mime (λ e. cc) in
      let class = word_some class_of (word third) None (Some c) refl is-class (λ e. cc) in
      let parent = word_some parent_of (word fourth) None (Some p) refl is-parent (λ e. cc) in record {
        class = word third;
        parent = word fourth;
        signature = after_word fourth;
        second = second;
        third = third;
        fourth = fourth;
        extension_first = word_read text (word_some is_name (word text) false true refl is-name (λ e. cc)) (word_inside second mime);
        mime_type_next = word_read second mime (word_inside third class);
        class_next = word_read third class (word_inside fourth parent);
        parent_next = word_read fourth parent (word_some signature_of (after_word fourth) None (Some s) refl is-signature (λ e. cc));
        is_extension = is-name;
        is_mime_type = is-mime;
        is_class = is-class;
        is_parent = names_parent (word fourth) p is-parent;
        is_signature = is_described (after_word fourth) s is-signature;
      }

  pub row_told : (r : Row) → row_of (fields_of text) ≡ Some r → DescribesRow text r
  unfolding row_of
  row_told r e = elim (cases_Bool (is_name (word text))) [
    | inl name ↦ elim (cases_Bool (is_mime_type (word second))) [
      | inl mime ↦ by_class name mime (class_of (word third)) refl (rw (name, mime) at e)
      | inr not ↦ absurd (let none : None ≡ Some r = rw (name, not) at e in cc)
    ]
    | inr not ↦ absurd (let none : None ≡ Some r = rw not at e in cc)
  ]
    where
      by_class : is_name (word text) ≡ true → is_mime_type (word second) ≡ true → (co : Option MatcherType) → class_of (word third) ≡ co
          → (co >>= λ c. parent_of (word fourth) >>= λ p. option_map (λ s. row c (word second) (word text) p s) (signature_of (after_word fourth))) ≡ Some r → DescribesRow text r
      by_class name mime None is e = absurd cc
      by_class name mime (Some c) is e = by_parent (parent_of (word fourth)) refl e
        where
          by_signature : (p : Option (List ℕ)) → parent_of (word fourth) ≡ Some p → (so : Option (List Alternative)) → signature_of (after_word fourth) ≡ so
              → option_map (λ s. row c (word second) (word text) p s) so ≡ Some r → DescribesRow text r
          by_signature p is-p None is-s e = absurd cc
          by_signature p is-p (Some s) is-s e = let same : row c (word second) (word text) p s ≡ r = cc in subst (DescribesRow text) same (row_built c p s name mime is is-p is-s)

          by_parent : (po : Option (Option (List ℕ))) → parent_of (word fourth) ≡ po
              → (po >>= λ p. option_map (λ s. row c (word second) (word text) p s) (signature_of (after_word fourth))) ≡ Some r → DescribesRow text r
          by_parent None is-p e = absurd cc
          by_parent (Some p) is-p e = by_signature p is-p (signature_of (after_word fourth)) refl e

  pub row_read : (r : Row) → DescribesRow text r → row_of (fields_of text) ≡ Some r
  unfolding row_of
  row_read r d =
      let one = read_word text r.shows.extension d.second d.extension_first in
      let two = read_word d.second r.shows.mime_type d.third d.mime_type_next in
      let three = read_word d.third d.class d.fourth d.class_next in
      let four = read_word d.fourth d.parent d.signature d.parent_next in
      let third_is = ap after_word one.1 ∙ two.1 in
      let fourth_is = ap after_word third_is ∙ three.1 in
      rw (
        one.0,
        ap word one.1 ∙ two.0,
        ap word third_is ∙ three.0,
        ap word fourth_is ∙ four.0,
        ap after_word fourth_is ∙ four.1,
        d.is_extension,
        d.is_mime_type,
        d.is_class,
        parent_named d.parent r.parent d.is_parent,
        is_signature d.signature r.signature d.is_signature,
      ) refl

-- ---- a line

abbrev row_after : List ℕ → Option (Option Row)
row_after t = if is_remark t then Some None else option_map (λ r. Some r) (row_of (fields_of t))

after_told : (blanks t : List ℕ) (o : Option Row) → AreBlanks blanks → row_after t ≡ Some o → DescribesLine (blanks ++ t) o
after_told blanks [] o are e =
    let none : None ≡ o = cc in
    subst (DescribesLine (blanks ++ [])) none (blank_line (blanks ++ []) (subst AreBlanks (sym (append-nil blanks)) are))
after_told blanks (x ∷ xs) o are e = elim (cases_Bool (x == 0x23)) [
  | inl is ↦
      let same : Some None ≡ Some o = rw is at e in
      let none : None ≡ o = cc in
      subst (λ y. DescribesLine (blanks ++ (y ∷ xs)) o) (sym (eqb-true x 0x23 is)) (subst (DescribesLine (blanks ++ (0x23 ∷ xs))) none (remark blanks xs are))
  | inr apart ↦ a_row_told (row_of (fields_of (x ∷ xs))) refl (rw apart at e)
]
  where
    a_row_told : (ro : Option Row) → row_of (fields_of (x ∷ xs)) ≡ ro → option_map (λ r. Some r) ro ≡ Some o → DescribesLine (blanks ++ (x ∷ xs)) o
    a_row_told None is e = absurd cc
    a_row_told (Some r) is e = let same : Some r ≡ o = cc in subst (DescribesLine (blanks ++ (x ∷ xs))) same (a_row blanks (x ∷ xs) r are (row_told (x ∷ xs) r is))

line_told : (line : List ℕ) (o : Option Row) → line_of line ≡ Some o → DescribesLine line o
line_told line o e = let f = front line in subst (λ l. DescribesLine l o) (sym f.whole) (after_told f.blanks (after_blanks line) o f.are e)

-- what a row's text begins with
row_first : (text : List ℕ) (r : Row) → DescribesRow text r → (first_passes is_blank text ≡ false) × (is_remark text ≡ false)
row_first text r d = first r.shows.extension d.is_extension d.extension_first
  where
    first : (w : List ℕ) → is_name w ≡ true → BeginsWithWord text w d.second → (first_passes is_blank text ≡ false) × (is_remark text ≡ false)
    first [] is begins = absurd cc
    first (x ∷ xs) is begins =
        let front = and_parts (is_alphanumeric x && nat_le (length xs) 126) (list_all is_name_byte xs) is in
        let letter = and_parts (is_alphanumeric x) (nat_le (length xs) 126) front.0 in
        let dark = and_parts (is_dark x) (list_all is_dark xs) begins.dark in
        (ap (first_passes is_blank) begins.whole ∙ not-true (is_blank x) dark.0, ap is_remark begins.whole ∙ not_same is_alphanumeric x 0x23 letter.0 refl)

line_read : (line : List ℕ) (o : Option Row) → DescribesLine line o → line_of line ≡ Some o
line_read line o (blank_line _ are) = ap row_after (ap after_blanks (sym (append-nil line)) ∙ past line [] are refl)
line_read line o (remark blanks rest are) = ap row_after (past blanks (0x23 ∷ rest) are refl)
line_read line o (a_row blanks text r are d) =
    let f = row_first text r d in
    ap row_after (past blanks text are f.0) ∙ rw (f.1, row_read text r d) refl

-- ---- a text

rows_told : (text : List ℕ) (lines : List (List ℕ)) (rows : List Row) → IsSplit is_line_end text lines → rows_in lines ≡ Some rows → DescribesRows text rows
rows_told text lines rows (whole g one) e = one_line (line_of g) refl e
  where
    one_line : (oo : Option (Option Row)) → line_of g ≡ oo → (oo >>= λ r. option_map (with_row r) (Some [])) ≡ Some rows → DescribesRows g rows
    one_line None is e = absurd cc
    one_line (Some o) is e = let same : with_row o [] ≡ rows = cc in subst (DescribesRows g) same (last_line g o one (line_told g o is))
rows_told text lines rows (cut g us y ls one is_y split) e = more_lines (line_of g) refl (rows_in ls) refl e (λ rs. rows_told us ls rs split)
  where
    more_lines : (oo : Option (Option Row)) → line_of g ≡ oo → (ro : Option (List Row)) → rows_in ls ≡ ro → (oo >>= λ r. option_map (with_row r) ro) ≡ Some rows
        → ((rs : List Row) → rows_in ls ≡ Some rs → DescribesRows us rs) → DescribesRows (g ++ (y ∷ us)) rows
    more_lines None is ro are e more = absurd cc
    more_lines (Some o) is None are e more = absurd cc
    more_lines (Some o) is (Some rs) are e more =
        let same : with_row o rs ≡ rows = cc in
        subst (λ z. DescribesRows (g ++ (z ∷ us)) rows) (sym (eqb-true y 0x0A is_y)) (subst (DescribesRows (g ++ (0x0A ∷ us))) same (next_line g us o rs one (line_told g o is) (more rs are)))

pub rows_described : (text : List ℕ) (rows : List Row) → rows_of text ≡ Some rows → DescribesRows text rows
rows_described text rows e = rows_told text (lines_of text) rows (is_split is_line_end text) e

pub described_rows : (text : List ℕ) (rows : List Row) → DescribesRows text rows → rows_of text ≡ Some rows
described_rows text rows (last_line _ o one d) = ap rows_in (slice_split_none is_line_end text one) ∙ rw (line_read text o d) refl
described_rows text rows (next_line line after o others one d more) =
    ap rows_in (slice_split_at is_line_end line 0x0A after one refl) ∙ rw (line_read line o d) (ap (option_map (with_row o)) (described_rows after others more))
