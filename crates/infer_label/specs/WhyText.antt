-- Why bytes have their answer, in words.
use Rattle.std.specs.Prelude.{◌+◌, ◌-◌, ◌*◌, ◌/◌, ◌%◌, ◌==◌, ◌&&◌, ◌||◌, ℕ, Bool, true, false, List, [], ◌∷◌, ◌++◌, Option, None, Some, codes, if◌then◌else◌, is_some, nat_le, nat_lt, not}
use Rattle.std.specs.Fmt.{decimal}
use Rattle.std.specs.List.{flat_map, list_any}
use Rattle.infer.specs.Triple.{Triple}
use Rattle.infer.specs.declared.table.file_type.MatcherType.{MatcherType}
use Rattle.infer.specs.declared.table.file_type.MatcherType.TheVariants.{App, Archive, Audio, Book, Custom, Doc, Font, Image, Text, Video}
use Rattle.infer_more.specs.Wider.{shown_at}
use Rattle.infer_label.specs.Why.{Reason, Why}
use Rattle.infer_label.specs.declared.why_text.TheConstants.{MOST_SHOWN}

-- texts in a row: a mark before each but the first, and before that too if something stands before them
abbrev pub mark_if : Bool → List ℕ → List ℕ
mark_if true mark = mark
mark_if false mark = []

abbrev pub in_row : List ℕ → Bool → List (List ℕ) → List ℕ
in_row mark before [] = []
in_row mark before (text ∷ texts) = mark_if before mark ++ (text ++ in_row mark true texts)

-- whether something stands before what follows these
abbrev pub stands_before : Bool → List (List ℕ) → Bool
stands_before before [] = before
stands_before before (text ∷ texts) = true

-- a row: its extension, and what its class is called
abbrev pub class_word : MatcherType → List ℕ
class_word App = codes "file"
class_word Archive = codes "archive"
class_word Audio = codes "audio file"
class_word Book = codes "book"
class_word Doc = codes "document"
class_word Font = codes "font"
class_word Image = codes "image"
class_word Text = codes "text"
class_word Video = codes "video"
class_word Custom = codes "file"

abbrev pub row_words : Option Triple → List ℕ
row_words (Some t) = t.extension ++ (codes " " ++ class_word t.class)
row_words None = codes "other type"

-- bytes: one by one if they are few and stand side by side, and else how many they are
abbrev pub large_digit : ℕ → ℕ
large_digit n = if nat_lt n 10 then 0x30 + n else 0x37 + n

abbrev pub byte_shown : ℕ → List ℕ
byte_shown x = large_digit (x / 16 % 16) ∷ large_digit (x % 16) ∷ 0x20 ∷ []

abbrev pub counted : ℕ → List ℕ
counted n = decimal n ++ (if n == 1 then codes " byte" else codes " bytes")

abbrev pub are_shown : Reason → Bool
are_shown r = r.step == 1 && nat_le r.len MOST_SHOWN

abbrev pub bytes_text : Reason → List ℕ
bytes_text r = if are_shown r then flat_map byte_shown r.bytes else counted r.len ++ codes " "

-- where the first of them stands, and if they stand apart, one in how many they are
abbrev pub step_text : ℕ → List ℕ
step_text step = if step == 1 then [] else codes ", one in " ++ decimal step

abbrev pub place_text : Reason → List ℕ
place_text r = codes "at " ++ (decimal r.place ++ step_text r.step)

-- what is ruled out. Bytes by which a row accepts stand alone
abbrev pub ruled_out : Bool → Option ℕ → List ℕ
ruled_out true row = []
ruled_out false None = codes "nothing that begins otherwise: "
ruled_out false (Some i) = codes "no " ++ (row_words (shown_at (Some i)) ++ codes ": ")

abbrev pub reason_text : Reason → List ℕ
reason_text r = ruled_out r.accepts r.row ++ (bytes_text r ++ place_text r)

abbrev pub text_if : Bool → Reason → List (List ℕ)
text_if is_told r = if is_told then reason_text r ∷ [] else []

-- those by which a row accepts come first
abbrev pub own_texts : List Reason → List (List ℕ)
own_texts reasons = flat_map (λ r. text_if r.accepts r) reasons

-- then what they rule out. The first byte, which tells of no single row, is left out where a row's bytes begin with it
abbrev pub has_first : Reason → Bool
has_first r = is_some r.row && (r.place == 0 && nat_lt 0 r.len)

abbrev pub is_other : Bool → Reason → Bool
is_other first_is_told r = not r.accepts && (is_some r.row || not first_is_told)

abbrev pub other_texts : List Reason → List (List ℕ)
other_texts reasons = flat_map (λ r. text_if (is_other (list_any has_first reasons) r) r) reasons

-- then what is needed of the length, unless some bytes end there or after; and that these are not all reasons
abbrev pub end_of : Reason → ℕ
end_of r = if r.len == 0 then r.place else r.place + (r.len - 1) * r.step + 1

abbrev pub reaches : ℕ → Reason → Bool
reaches n r = nat_le n (end_of r)

abbrev pub least_texts : Bool → ℕ → List (List ℕ)
least_texts true n = []
least_texts false n = (codes "at least " ++ counted n) ∷ []

abbrev pub length_texts : Why → List (List ℕ)
length_texts why = if why.is_exact then (codes "just " ++ counted why.least) ∷ [] else least_texts (list_any (reaches why.least) why.reasons) why.least

abbrev pub room_texts : Bool → List (List ℕ)
room_texts true = []
room_texts false = codes "and more than there is room for" ∷ []

abbrev pub reasons_text : Why → List ℕ
reasons_text why =
    in_row (codes "; ") false (own_texts why.reasons ++ other_texts why.reasons ++ length_texts why ++ room_texts why.is_whole)

abbrev pub why_text : Option Why → List ℕ
why_text None = []
why_text (Some why) = codes ": " ++ reasons_text why
