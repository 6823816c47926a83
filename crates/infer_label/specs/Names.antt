-- A name, or another text that was given, as it is printed.
use Rattle.std.specs.Prelude.{◌≢◌, ◌≤◌, ◌+◌, ◌/◌, ◌%◌, ◌==◌, ◌&&◌, ◌||◌, ℕ, Bool, List, [], ◌∷◌, ◌++◌, encode_utf8, if◌then◌else◌, nat_le, nat_lt, not}
use Rattle.std.specs.Int.{is_in_range}
use Rattle.std.specs.List.{flat_map}
use Rattle.std.specs.Str.{chars, is_utf8}
use Rattle.infer_label.specs.declared.options.Form.{Form}
use Rattle.infer_label.specs.declared.options.Form.TheVariants.{Csv, Json, Mime, Text}

-- the character is obeyed by a terminal or a reader of lines: a control, an end of a line or a mark of direction
abbrev pub is_obeyed : ℕ → Bool
is_obeyed c =
    nat_lt c 0x20
    || (is_in_range 0x7F 0x9F c
    || (c == 0x061C
    || (is_in_range 0x200E 0x200F c
    || (is_in_range 0x2028 0x202E c
    || is_in_range 0x2066 0x2069 c))))

-- the character is a tag, of which nothing is seen
abbrev pub is_tag : ℕ → Bool
is_tag c = is_in_range 0xE0000 0xE007F c

-- nothing is seen of the character, or a blank that is none
abbrev pub is_unseen : ℕ → Bool
is_unseen c =
    c == 0x00AD
    || (c == 0x034F
    || (c == 0x180E
    || (c == 0x200B
    || (c == 0x2060
    || (c == 0x2800
    || (c == 0x3164
    || (c == 0xFEFF
    || (is_in_range 0xFFF9 0xFFFB c
    || is_tag c))))))))

-- the character ends a text of the form, or begins an escape there; and what stands before it then
abbrev pub is_mark : Form → ℕ → Bool
is_mark Text c = c == 0x5C
is_mark Mime c = c == 0x5C
is_mark Json c = c == 0x5C || c == 0x22
is_mark Csv c = c == 0x5C || c == 0x22

abbrev pub before_mark : Form → ℕ → ℕ
before_mark Text c = 0x5C
before_mark Mime c = 0x5C
before_mark Json c = 0x5C
before_mark Csv c = c

abbrev pub hex_digit : ℕ → ℕ
hex_digit n = if nat_lt n 10 then 0x30 + n else 0x57 + n

-- the two digits of a byte
abbrev pub byte_hex : ℕ → List ℕ
byte_hex x = hex_digit (x / 16 % 16) ∷ hex_digit (x % 16) ∷ []

-- \u and four digits
abbrev pub code_shown : ℕ → List ℕ
code_shown c = 0x5C ∷ 0x75 ∷ hex_digit (c / 4096 % 16) ∷ hex_digit (c / 256 % 16) ∷ hex_digit (c / 16 % 16) ∷ hex_digit (c % 16) ∷ []

-- of a tag, whose number has five digits, the two halves that stand for it in UTF-16, as JSON has them
abbrev pub unseen_shown : ℕ → List ℕ
unseen_shown c = if is_tag c then code_shown 0xDB40 ++ code_shown (0xDC00 + c % 1024) else code_shown c

-- a byte that is not of ASCII: \x and its two digits, and in JSON, which has no such escape, the character with its number
abbrev pub high_shown : Form → ℕ → List ℕ
high_shown Text x = 0x5C ∷ 0x78 ∷ byte_hex x
high_shown Mime x = 0x5C ∷ 0x78 ∷ byte_hex x
high_shown Csv x = 0x5C ∷ 0x78 ∷ byte_hex x
high_shown Json x = code_shown x

-- a character as it is printed
abbrev pub is_escaped : ℕ → Bool
is_escaped c = is_obeyed c || is_unseen c

abbrev pub char_shown : Form → ℕ → List ℕ
char_shown form c = if is_escaped c then unseen_shown c else (if is_mark form c then before_mark form c ∷ encode_utf8 c else encode_utf8 c)

-- a byte that is no control: none of 00 to 1F, and not 7F
abbrev pub IsSeen : ℕ → Type 0
IsSeen x = (0x20 ≤ x) × (x ≢ 0x7F)

-- the byte is of ASCII and stands for itself in each form: no control, no quotation mark and no backslash
abbrev pub is_plain : ℕ → Bool
is_plain x = (nat_le 0x20 x && nat_lt x 0x7F) && (not (x == 0x22) && not (x == 0x5C))

-- a byte of a name that is not UTF-8
abbrev pub byte_shown : Form → ℕ → List ℕ
byte_shown form x = if nat_le 0x80 x then high_shown form x else char_shown form x

-- a name: character by character if it is UTF-8, and else byte by byte
abbrev pub name_shown : Form → List ℕ → List ℕ
name_shown form name = if is_utf8 name then flat_map (char_shown form) (chars name) else flat_map (byte_shown form) name
