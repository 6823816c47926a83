-- What a text of types describes, as a relation between its bytes and rows.
use Rattle.std.specs.Prelude.{◌≡◌, ◌<◌, ℕ, false, not, All, IsFalse, IsTrue, List, [], ◌∷◌, ◌++◌, Option, None, Some, codes, length}
use Rattle.std.specs.List.{list_all}
use Rattle.infer_notation.specs.Described.{Describes}
use Rattle.infer_notation.specs.Words.{first_passes, is_blank}
use Rattle.infer_more.specs.Line.{Row, class_of, is_built_in, is_mime_type, is_name}
use Rattle.infer_more.specs.Text.{is_line_end, with_row}

-- blanks, perhaps none
abbrev pub AreBlanks : List ℕ → Type 0
AreBlanks xs = IsTrue (list_all is_blank xs)

-- a word at the front of a text, all the blanks after it, of which there is one at least, and the rest
pub record BeginsWithWord (text word rest : List ℕ) : Type 0 where
  pub gap : List ℕ
  pub whole : text ≡ word ++ (gap ++ rest)
  pub some : 0 < length word
  pub dark : IsTrue (list_all (λ x. not (is_blank x)) word)
  pub blanks : AreBlanks gap
  pub parted : 0 < length gap
  pub after : first_passes is_blank rest ≡ false

-- "-" stands for no parent, and the extension of a built-in row for that row
abbrev pub NamesParent : List ℕ → Option (List ℕ) → Type 0
NamesParent word None = word ≡ codes "-"
NamesParent word (Some extension) = (word ≡ extension) × IsTrue (is_built_in extension) × ((word ≡ codes "-") → ⊥)

-- five fields describe the row: its extension, its MIME type, its class, its parent and its signature
pub record DescribesRow (text : List ℕ) (r : Row) : Type 0 where
  pub class : List ℕ
  pub parent : List ℕ
  pub signature : List ℕ
  pub second : List ℕ
  pub third : List ℕ
  pub fourth : List ℕ
  pub extension_first : BeginsWithWord text r.shows.extension second
  pub mime_type_next : BeginsWithWord second r.shows.mime_type third
  pub class_next : BeginsWithWord third class fourth
  pub parent_next : BeginsWithWord fourth parent signature
  pub is_extension : IsTrue (is_name r.shows.extension)
  pub is_mime_type : IsTrue (is_mime_type r.shows.mime_type)
  pub is_class : class_of class ≡ Some r.shows.class
  pub is_parent : NamesParent parent r.parent
  pub is_signature : Describes signature r.signature

-- blanks, and then nothing, a remark or a row
pub data DescribesLine : List ℕ → Option Row → Type 0 where
  blank_line : (line : List ℕ) → AreBlanks line → DescribesLine line None
  remark : (blanks rest : List ℕ) → AreBlanks blanks → DescribesLine (blanks ++ 0x23 ∷ rest) None
  a_row : (blanks text : List ℕ) (r : Row) → AreBlanks blanks → DescribesRow text r → DescribesLine (blanks ++ text) (Some r)

-- a line, which has no end in it
abbrev pub IsLine : List ℕ → Type 0
IsLine line = All (λ x. IsFalse (is_line_end x)) line

-- lines with 0A between them, and the rows that they describe, in order
pub data DescribesRows : List ℕ → List Row → Type 0 where
  last_line : (line : List ℕ) (o : Option Row) → IsLine line → DescribesLine line o → DescribesRows line (with_row o [])
  next_line : (line text : List ℕ) (o : Option Row) (rows : List Row) → IsLine line → DescribesLine line o → DescribesRows text rows
      → DescribesRows (line ++ 0x0A ∷ text) (with_row o rows)
