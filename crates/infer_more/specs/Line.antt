-- A line of a text of types: a type of files in five fields.
use Rattle.std.specs.Prelude.{◌≡◌, ◌≤◌, ◌==◌, ◌&&◌, IsTrue, ◌||◌, ℕ, Bool, true, false, not, List, [], ◌∷◌, Option, None, Some, codes, drop, length, nat_le, option_map, take, if◌then◌else◌}
use Rattle.std.specs.Int.{is_in_range}
use Rattle.std.specs.List.{list_all, list_any, prefix_len}
use Rattle.std.specs.Str.{bytes_eq}
use Rattle.infer.specs.Table as built_in
use Rattle.infer.specs.Triple.{Triple, triple}
use Rattle.infer.specs.declared.table.file_type.MatcherType.{MatcherType}
use Rattle.infer.specs.declared.table.file_type.MatcherType.TheVariants.{App, Archive, Audio, Book, Doc, Font, Image, Text, Video}
use Rattle.infer_notation.specs.Alternative.{Alternative}
use Rattle.infer_notation.specs.Grammar.{unread}
use Rattle.infer_notation.specs.Reasons.{is_of_token}
use Rattle.infer_notation.specs.Signature.{signature_of}
use Rattle.infer_notation.specs.Words.{◌>>=◌, after_blanks, after_word, is_digit, word}
use Rattle.infer_notation.specs.declared.reason.Flaw.{Flaw}
use Rattle.infer_more.specs.declared.types.line.Fields as declared

-- what a line tells of a type: what it shows, the extension of the built-in answer below which it is asked, if any, and
-- its signature
pub record Row : Type 0 where
  pub shows : Triple
  pub parent : Option (List ℕ)
  pub signature : List Alternative

-- letters and digits
abbrev pub is_alphanumeric : ℕ → Bool
is_alphanumeric x = is_digit x || is_in_range 0x41 0x5A x || is_in_range 0x61 0x7A x

-- these and ! # $ & - ^ _ . +
abbrev pub is_name_byte : ℕ → Bool
is_name_byte x = is_alphanumeric x || list_any (λ y. x == y) (codes "!#$&-^_.+")

-- 1 to 127 such bytes, of which the first is a letter or a digit
abbrev pub is_name : List ℕ → Bool
is_name [] = false
is_name (x ∷ xs) = is_alphanumeric x && nat_le (length xs) 126 && list_all is_name_byte xs

-- how many bytes stand before the first "/"
abbrev pub slash_place : List ℕ → ℕ
slash_place xs = prefix_len (λ x. not (x == 0x2F)) xs

-- two names with a "/" between them
unfoldable pub is_mime_type : List ℕ → Bool
is_mime_type xs = is_name (take (slash_place xs) xs) && is_name (drop 1 (drop (slash_place xs) xs))

-- the class of that name
unfoldable pub class_of : List ℕ → Option MatcherType
class_of name =
    if bytes_eq name (codes "app") then Some App
    else (if bytes_eq name (codes "archive") then Some Archive
    else (if bytes_eq name (codes "audio") then Some Audio
    else (if bytes_eq name (codes "book") then Some Book
    else (if bytes_eq name (codes "doc") then Some Doc
    else (if bytes_eq name (codes "font") then Some Font
    else (if bytes_eq name (codes "image") then Some Image
    else (if bytes_eq name (codes "text") then Some Text
    else (if bytes_eq name (codes "video") then Some Video else None))))))))

-- some built-in row has this extension
unfoldable pub is_built_in : List ℕ → Bool
is_built_in extension = list_any (λ r. bytes_eq r.shows.extension extension) built_in.table

-- "-" stands for no parent
abbrev pub is_none : List ℕ → Bool
is_none w = bytes_eq w (codes "-")

abbrev pub parent_of : List ℕ → Option (Option (List ℕ))
parent_of w = if is_none w then Some None else (if is_built_in w then Some (Some w) else None)

-- four words, and what follows them
pub record Fields : Type 0 where
  pub extension : List ℕ
  pub mime_type : List ℕ
  pub class : List ℕ
  pub parent : List ℕ
  pub signature : List ℕ

abbrev pub fields_listed : declared.Fields → Fields
fields_listed f = record {
  extension = f.extension.now;
  mime_type = f.mime_type.now;
  class = f.class.now;
  parent = f.parent.now;
  signature = f.signature.now;
}

abbrev pub fields_of : List ℕ → Fields
fields_of t =
    let second = after_word t in
    let third = after_word second in
    let fourth = after_word third in
    record { extension = word t; mime_type = word second; class = word third; parent = word fourth; signature = after_word fourth }

-- what is wrong with a line without blanks at its front: it is at a place of the line or at its end, and if no token stands
-- there, at the first place of its signature at which none does
pub record IsFlawIn (text : List ℕ) (flaw : Flaw) : Type 0 where
  pub inside : flaw.left ≤ length text
  pub first : IsTrue (is_of_token flaw.reason) → flaw.left ≡ length (unread (fields_of text).signature)

abbrev pub row : MatcherType → List ℕ → List ℕ → Option (List ℕ) → List Alternative → Row
row class mime_type extension parent signature = record { shows = triple class mime_type extension; parent = parent; signature = signature }

-- the row that the fields describe
unfoldable pub row_of : Fields → Option Row
row_of f =
    if is_name f.extension
    then (if is_mime_type f.mime_type
    then (class_of f.class >>= λ c. parent_of f.parent >>= λ p. option_map (λ s. row c f.mime_type f.extension p s) (signature_of f.signature))
    else None)
    else None

-- nothing, or a remark
abbrev pub is_remark : List ℕ → Bool
is_remark [] = true
is_remark (x ∷ xs) = x == 0x23

-- what a line describes: a row, or none if it is a remark or blank. There is no answer if it describes neither
abbrev pub line_of : List ℕ → Option (Option Row)
line_of line = let t = after_blanks line in if is_remark t then Some None else option_map (λ r. Some r) (row_of (fields_of t))
