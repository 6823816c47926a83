-- JSON, by the grammar of RFC 8259 (white space is written before each token), and of RFC 3629 for its characters.
use Rattle.std.specs.Prelude.{◌≡◌, ℕ, zero, suc, ◌≤◌, ◌⊎◌, List, [], ◌∷◌, ◌++◌, Option, None, Some, map, codes}
use Rattle.infer_formats.specs.declared.json.Json.{Json}
use Rattle.infer_formats.specs.declared.json.Json.TheVariants.{Lines, Text}

-- white space
abbrev pub IsBlank : ℕ → Type 0
IsBlank x = (x ≡ 0x20) ⊎ (x ≡ 0x09) ⊎ (x ≡ 0x0A) ⊎ (x ≡ 0x0D)

-- What texts are made of: a byte from low to high, and parts that the rules spell out. In what n belongs to, brackets are
-- nested at most n deep.
pub data Symbol : Type 0 where
  range : ℕ → ℕ → Symbol
  blanks : Symbol
  value : ℕ → Symbol
  items : ℕ → Symbol
  more_items : ℕ → Symbol
  members : ℕ → Symbol
  member : ℕ → Symbol
  more_members : ℕ → Symbol
  chars : Symbol
  char : Symbol
  escape : Symbol
  hex : Symbol
  number : Symbol
  integer : Symbol
  fraction : Symbol
  exponent : Symbol
  power : Symbol
  digits : Symbol
  text : Symbol
  same_line : Symbol
  next_line : Symbol

-- just this byte; these bytes; any digit; a later byte of a character
abbrev pub byte : ℕ → Symbol
byte x = range x x

abbrev pub exact : List ℕ → List Symbol
exact t = map byte t

abbrev pub digit : Symbol
digit = range 0x30 0x39

abbrev pub later : Symbol
later = range 0x80 0xBF

-- the arrays and objects: one more bracket, and what stands after it
abbrev pub nested : ℕ → List (List Symbol)
nested zero = []
nested (suc n) = (byte 0x5B ∷ blanks ∷ items n ∷ []) ∷ (byte 0x7B ∷ blanks ∷ members n ∷ []) ∷ []

-- the ways to write each symbol
abbrev pub rules : Symbol → List (List Symbol)
rules (range low high) = []
rules blanks =
    [] ∷ (byte 0x20 ∷ blanks ∷ []) ∷ (byte 0x09 ∷ blanks ∷ []) ∷ (byte 0x0A ∷ blanks ∷ []) ∷ (byte
    0x0D ∷ blanks ∷ []) ∷ []
rules (value n) =
    exact (codes "true") ∷ exact (codes "false") ∷ exact
    (codes "null") ∷ (byte 0x22 ∷ chars ∷ []) ∷ (number ∷ []) ∷ nested n
rules (items n) = (byte 0x5D ∷ []) ∷ (value n ∷ blanks ∷ more_items n ∷ []) ∷ []
rules (more_items n) = (byte 0x5D ∷ []) ∷ (byte 0x2C ∷ blanks ∷ value n ∷ blanks ∷ more_items n ∷ []) ∷ []
rules (members n) = (byte 0x7D ∷ []) ∷ (member n ∷ blanks ∷ more_members n ∷ []) ∷ []
rules (member n) = (byte 0x22 ∷ chars ∷ blanks ∷ byte 0x3A ∷ blanks ∷ value n ∷ []) ∷ []
rules (more_members n) = (byte 0x7D ∷ []) ∷ (byte 0x2C ∷ blanks ∷ member n ∷ blanks ∷ more_members n ∷ []) ∷ []
rules chars = (byte 0x22 ∷ []) ∷ (char ∷ chars ∷ []) ∷ []
rules char =
    (range 0x20 0x21 ∷ []) ∷ (range 0x23 0x5B ∷ []) ∷ (range 0x5D 0x7F ∷ []) ∷ (byte 0x5C ∷ escape ∷ [])
    ∷ (range 0xC2 0xDF ∷ later ∷ []) ∷ (byte 0xE0 ∷ range 0xA0 0xBF ∷ later ∷ []) ∷ (range 0xE1
    0xEC ∷ later ∷ later ∷ [])
    ∷ (byte 0xED ∷ range 0x80 0x9F ∷ later ∷ []) ∷ (range 0xEE 0xEF ∷ later ∷ later ∷ [])
    ∷ (byte 0xF0 ∷ range 0x90 0xBF ∷ later ∷ later ∷ []) ∷ (range 0xF1 0xF3 ∷ later ∷ later ∷ later ∷ [])
    ∷ (byte 0xF4 ∷ range 0x80 0x8F ∷ later ∷ later ∷ []) ∷ []
rules escape =
    (byte 0x22 ∷ []) ∷ (byte 0x5C ∷ []) ∷ (byte 0x2F ∷ []) ∷ (byte 0x62 ∷ []) ∷ (byte 0x66 ∷ []) ∷ (byte 0x6E ∷ [])
    ∷ (byte 0x72 ∷ []) ∷ (byte 0x74 ∷ []) ∷ (byte 0x75 ∷ hex ∷ hex ∷ hex ∷ hex ∷ []) ∷ []
rules hex = (digit ∷ []) ∷ (range 0x41 0x46 ∷ []) ∷ (range 0x61 0x66 ∷ []) ∷ []
rules number = (integer ∷ fraction ∷ exponent ∷ []) ∷ (byte 0x2D ∷ integer ∷ fraction ∷ exponent ∷ []) ∷ []
rules integer = (byte 0x30 ∷ []) ∷ (range 0x31 0x39 ∷ digits ∷ []) ∷ []
rules fraction = [] ∷ (byte 0x2E ∷ digit ∷ digits ∷ []) ∷ []
rules exponent = [] ∷ (byte 0x65 ∷ power ∷ []) ∷ (byte 0x45 ∷ power ∷ []) ∷ []
rules power = (digit ∷ digits ∷ []) ∷ (byte 0x2B ∷ digit ∷ digits ∷ []) ∷ (byte 0x2D ∷ digit ∷ digits ∷ []) ∷ []
rules digits = [] ∷ (digit ∷ digits ∷ []) ∷ []
-- a text is an array or an object; what follows one stands on its line, and after a line end the next text may come
rules text = nested 128
rules same_line =
    [] ∷ (byte 0x20 ∷ same_line ∷ []) ∷ (byte 0x09 ∷ same_line ∷ []) ∷ (byte 0x0D ∷ same_line ∷ [])
    ∷ (byte 0x0A ∷ next_line ∷ []) ∷ []
rules next_line =
    [] ∷ (byte 0x20 ∷ next_line ∷ []) ∷ (byte 0x09 ∷ next_line ∷ []) ∷ (byte 0x0A ∷ next_line ∷ [])
    ∷ (byte 0x0D ∷ next_line ∷ []) ∷ (text ∷ same_line ∷ []) ∷ []

-- r is one of the lists
abbrev pub IsAmong : List Symbol → List (List Symbol) → Type 0
IsAmong r [] = ⊥
IsAmong r (s ∷ ss) = (r ≡ s) ⊎ IsAmong r ss

-- the symbols, one after the other, stand for the bytes
pub data Stands : List Symbol → List ℕ → Type 0 where
  nothing : Stands [] []
  one : {low high x : ℕ} {ss : List Symbol} {xs : List ℕ} → low ≤ x → x ≤ high → Stands ss xs
      → Stands (range low high ∷ ss) (x ∷ xs)
  by_rule : {a : Symbol} {ss : List Symbol} {xs : List ℕ} (r : List Symbol) → IsAmong r (rules a)
      → Stands (r ++ ss) xs → Stands (a ∷ ss) xs

-- some bytes can follow s so that the symbols stand for the whole
abbrev pub CanBe : List Symbol → List ℕ → Type 0
CanBe ss s = (v : List ℕ) × Stands ss (s ++ v)

-- the symbols stand for nothing that goes on from t to the next byte, or, if none is left, to any byte
abbrev pub NoneGoesOn : List Symbol → List ℕ → List ℕ → Type 0
NoneGoesOn ss t [] = (x : ℕ) (v : List ℕ) → ¬ Stands ss (t ++ x ∷ v)
NoneGoesOn ss t (x ∷ more) = (v : List ℕ) → ¬ Stands ss (t ++ x ∷ v)

-- s begins with what the symbols stand for, and tells where it ends
abbrev pub BeginsWhole : List Symbol → List ℕ → Type 0
BeginsWhole ss s = (t more : List ℕ) × (s ≡ t ++ more) × Stands ss t × NoneGoesOn ss t more

-- one of [ ] { } : ,
abbrev pub IsStructural : ℕ → Type 0
IsStructural x = (x ≡ 0x5B) ⊎ (x ≡ 0x5D) ⊎ (x ≡ 0x7B) ⊎ (x ≡ 0x7D) ⊎ (x ≡ 0x3A) ⊎ (x ≡ 0x2C)

-- s begins with a mark, or with a whole string, name or number (the values without brackets)
abbrev pub BeginsToken : List ℕ → Type 0
BeginsToken [] = ⊥
BeginsToken (x ∷ s) = IsStructural x ⊎ BeginsWhole (value 0 ∷ []) (x ∷ s)

-- P holds after some white space at the front
abbrev pub AfterBlanks : (List ℕ → Type 0) → List ℕ → Type 0
AfterBlanks P [] = P []
AfterBlanks P (x ∷ s) = P (x ∷ s) ⊎ (IsBlank x × AfterBlanks P s)

-- the first byte begins an array or an object, and a whole token comes after it
abbrev pub BeginsWithToken : List ℕ → Type 0
BeginsWithToken [] = ⊥
BeginsWithToken (x ∷ s) = ((x ≡ 0x5B) ⊎ (x ≡ 0x7B)) × AfterBlanks BeginsToken s

-- w has a whole token after its first bracket, and some bytes can follow so that the whole is one text
abbrev pub BeginsText : List ℕ → Type 0
BeginsText w = AfterBlanks BeginsWithToken w × CanBe (blanks ∷ text ∷ blanks ∷ []) w

-- some bytes can follow w so that the whole is texts, each after the first on a new line, and none so that it is one text:
-- the second has begun
abbrev pub BeginsLines : List ℕ → Type 0
BeginsLines w = CanBe (blanks ∷ text ∷ same_line ∷ []) w × (¬ CanBe (blanks ∷ text ∷ blanks ∷ []) w)

-- P holds after a byte order mark, or of a buffer without one
abbrev pub UpToMark : (List ℕ → Type 0) → List ℕ → Type 0
UpToMark P b = P b ⊎ ((w : List ℕ) × (b ≡ 0xEF ∷ 0xBB ∷ 0xBF ∷ w) × P w)

-- one text
abbrev pub IsJson : List ℕ → Type 0
IsJson = UpToMark BeginsText

-- texts, each on a line of its own
abbrev pub IsJsonLines : List ℕ → Type 0
IsJsonLines = UpToMark BeginsLines

-- k is which of the two b is, and none if neither; it is never both
abbrev pub SaysJson : List ℕ → Option Json → Type 0
SaysJson b None = (¬ IsJson b) × (¬ IsJsonLines b)
SaysJson b (Some Text) = IsJson b × (¬ IsJsonLines b)
SaysJson b (Some Lines) = IsJsonLines b × (¬ IsJson b)
