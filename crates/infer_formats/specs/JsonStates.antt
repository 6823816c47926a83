-- What is left of a text where its reader stands. Only private contracts cite it.
use Rattle.std.specs.Prelude.{◌≡◌, ◌↔◌, ℕ, zero, suc, ◌-◌, ◌/◌, ◌%◌, ◌<◌, ◌≤◌, ◌^◌, ◌⊎◌, Bool, true, false, List, [], Option, None, Some, length, drop, ◌∷◌, ◌++◌, codes}
use Rattle.infer_formats.specs.Json.{Symbol, range, blanks, value, items, more_items, members, member, more_members, chars, escape, hex, integer, fraction, exponent, power, digits, text, same_line, next_line, byte, exact, digit, later, BeginsLines, BeginsText, BeginsToken, AfterBlanks, CanBe, IsBlank, Stands}
use Rattle.infer_formats.specs.declared.json.Json.{Json}
use Rattle.infer_formats.specs.declared.json.Json.TheVariants.{Lines, Text}
use Rattle.infer_formats.specs.declared.json.token.Token.{Token}
use Rattle.infer_formats.specs.declared.json.token.Token.TheVariants.{Chars, Escape, Hex4, Hex3, Hex2, Hex1, Char1, Char2, Char3, CharE0, CharEd, CharF0, CharF4, T, Tr, Tru, F, Fa, Fal, Fals, N, Nu, Nul, Minus, Zero, Integer, Point, Fraction, Exponent, Sign, Power}
use Rattle.infer_formats.specs.declared.json.token.Step.{Step}
use Rattle.infer_formats.specs.declared.json.token.Step.TheVariants.{Inside, Ended, EndedBefore, Wrong}
use Rattle.infer_formats.specs.declared.json.reader.Due.{Due}
use Rattle.infer_formats.specs.declared.json.reader.Due.TheVariants.{First, Value, Key, Colon, After}
use Rattle.infer_formats.specs.declared.json.reader.Next.{Next}
use Rattle.infer_formats.specs.declared.json.reader.Next.TheVariants.{Closed, Between, InKey, InValue}
use Rattle.infer_formats.specs.declared.json.reader.Place as place
use Rattle.infer_formats.specs.declared.json.reader.Place.TheVariants as Place
use Rattle.infer_formats.specs.declared.json.reader.Reader.{Reader}
use Rattle.infer_formats.specs.declared.json.lines.Line as line
use Rattle.infer_formats.specs.declared.json.lines.Line.TheVariants as Line
use Rattle.infer_formats.specs.declared.json.reader.Reading as read
use Rattle.infer_formats.specs.declared.json.reader.Reading.TheVariants as Reading

-- what is left of a token
abbrev pub left : Token → List Symbol
left Chars = chars ∷ []
left Escape = escape ∷ chars ∷ []
left Hex4 = hex ∷ hex ∷ hex ∷ hex ∷ chars ∷ []
left Hex3 = hex ∷ hex ∷ hex ∷ chars ∷ []
left Hex2 = hex ∷ hex ∷ chars ∷ []
left Hex1 = hex ∷ chars ∷ []
left Char1 = later ∷ chars ∷ []
left Char2 = later ∷ later ∷ chars ∷ []
left Char3 = later ∷ later ∷ later ∷ chars ∷ []
left CharE0 = range 0xA0 0xBF ∷ later ∷ chars ∷ []
left CharEd = range 0x80 0x9F ∷ later ∷ chars ∷ []
left CharF0 = range 0x90 0xBF ∷ later ∷ later ∷ chars ∷ []
left CharF4 = range 0x80 0x8F ∷ later ∷ later ∷ chars ∷ []
left T = exact (codes "rue")
left Tr = exact (codes "ue")
left Tru = exact (codes "e")
left F = exact (codes "alse")
left Fa = exact (codes "lse")
left Fal = exact (codes "se")
left Fals = exact (codes "e")
left N = exact (codes "ull")
left Nu = exact (codes "ll")
left Nul = exact (codes "l")
left Minus = integer ∷ fraction ∷ exponent ∷ []
left Zero = fraction ∷ exponent ∷ []
left Integer = digits ∷ fraction ∷ exponent ∷ []
left Point = digit ∷ digits ∷ exponent ∷ []
left Fraction = digits ∷ exponent ∷ []
left Exponent = power ∷ []
left Sign = digit ∷ digits ∷ []
left Power = digits ∷ []

-- a byte that may go on with a number
abbrev pub MayGoOn : ℕ → Type 0
MayGoOn x = ((0x30 ≤ x) × (x ≤ 0x39)) ⊎ (x ≡ 0x2E) ⊎ (x ≡ 0x45) ⊎ (x ≡ 0x65)

-- ss can come after a number: they stand for nothing that begins so
abbrev pub EndsNumber : List Symbol → Type 0
EndsNumber ss = (x : ℕ) (v : List ℕ) → MayGoOn x → ¬ Stands ss (x ∷ v)

-- the step tells what ss and then others stand for, after the byte x
abbrev pub Follows : List Symbol → ℕ → Step → Type 0
Follows ss x (Inside t) =
    (others : List Symbol) → EndsNumber others → (v : List ℕ) → Stands (ss ++ others) (x ∷ v)
    ↔ Stands (left t ++ others) v
Follows ss x Ended = (others : List Symbol) (v : List ℕ) → Stands (ss ++ others) (x ∷ v) ↔ Stands others v
Follows ss x EndedBefore = (others : List Symbol) (v : List ℕ) → Stands (ss ++ others) (x ∷ v) ↔ Stands others (x ∷ v)
Follows ss x Wrong = (others : List Symbol) (v : List ℕ) → ¬ Stands (ss ++ others) (x ∷ v)

-- what is first in a bracket of this kind, and what comes after a value there: 0 for an array, 1 for an object
abbrev pub first_in : ℕ → ℕ → Symbol
first_in zero n = items n
first_in (suc k) n = members n

abbrev pub more_in : ℕ → ℕ → Symbol
more_in zero n = more_items n
more_in (suc k) n = more_members n

-- what is left of `depth` open brackets after a value in the innermost, and then ss
unfoldable pub frames : ℕ → ℕ → List Symbol → List Symbol
frames zero kinds ss = ss
frames (suc d) kinds ss = blanks ∷ more_in (kinds % 2) (128 - suc d) ∷ frames d (kinds / 2) ss

-- what is left where this is due, after white space
abbrev pub due_left : Due → ℕ → ℕ → List Symbol → List Symbol
due_left First depth kinds ss = first_in (kinds % 2) (128 - depth) ∷ frames (depth - 1) (kinds / 2) ss
due_left Value depth kinds ss = value (128 - depth) ∷ frames depth kinds ss
due_left Key depth kinds ss = member (128 - depth) ∷ frames depth kinds ss
due_left Colon depth kinds ss = byte 0x3A ∷ blanks ∷ value (128 - depth) ∷ frames depth kinds ss
due_left After depth kinds ss = more_in (kinds % 2) (128 - depth) ∷ frames (depth - 1) (kinds / 2) ss

abbrev pub next_left : Next → ℕ → ℕ → List Symbol → List Symbol
next_left Closed depth kinds ss = frames depth kinds ss
next_left (Between First) depth kinds ss = blanks ∷ due_left First depth kinds ss
next_left (Between Value) depth kinds ss = blanks ∷ due_left Value depth kinds ss
next_left (Between Key) depth kinds ss = blanks ∷ due_left Key depth kinds ss
next_left (Between Colon) depth kinds ss = blanks ∷ due_left Colon depth kinds ss
next_left (Between After) depth kinds ss = frames depth kinds ss
next_left (InKey t) depth kinds ss = left t ++ blanks ∷ due_left Colon depth kinds ss
next_left (InValue t) depth kinds ss = left t ++ frames depth kinds ss

-- what is left of a text where the reader stands, and then ss
abbrev pub stack : Reader → List Symbol → List Symbol
stack r ss = next_left r.next r.depth r.kinds ss

-- brackets are open, 128 at most, and each has its bit
abbrev pub IsSound : Reader → Type 0
IsSound r = (r.depth ≤ 128) × (r.kinds < 2 ^ r.depth)

abbrev pub IsNested : Reader → Type 0
IsNested r = (1 ≤ r.depth) × IsSound r

-- where `before` was left, the reader r tells what is left after the byte x, if it can be
abbrev pub Reads : (List Symbol → List Symbol) → ℕ → Reader → Bool → Type 0
Reads before x r true =
    IsSound r × (r.depth ≡ 0 → r.next ≡ Closed)
    × ((ss : List Symbol) (v : List ℕ) → Stands (before ss) (x ∷ v) ↔ Stands (stack r ss) v)
Reads before x r false = (ss : List Symbol) (v : List ℕ) → ¬ Stands (before ss) (x ∷ v)

-- the first bracket of a text was read
abbrev pub Begun : ℕ → Reader → Type 0
Begun x r = (r.next ≡ Between First) × (1 ≤ r.depth) × Reads (λ ss. text ∷ ss) x r true

-- the innermost bracket is closed
abbrev pub IsClosedTo : Reader → Reader → Type 0
IsClosedTo old new =
    (new.next ≡ Closed) × (new.depth ≡ old.depth - 1) × (new.kinds ≡ old.kinds / 2) × (new.kinds < 2 ^ new.depth)

-- the bracket that begins one of this kind, and that closes it
abbrev pub beginning : ℕ → ℕ
beginning zero = 0x5B
beginning (suc k) = 0x7B

abbrev pub closing : ℕ → ℕ
closing zero = 0x5D
closing (suc k) = 0x7D

-- a value that begins with x is this token; or it's no token
abbrev pub Starts : ℕ → Token → Type 0
Starts x t = (n : ℕ) (ss : List Symbol) (v : List ℕ) → Stands (value n ∷ ss) (x ∷ v) ↔ Stands (left t ++ ss) v

abbrev pub NoToken : ℕ → Type 0
NoToken x = (n : ℕ) (ss : List Symbol) (v : List ℕ) → ¬ (x ≡ 0x5B) → ¬ (x ≡ 0x7B) → ¬ Stands (value n ∷ ss) (x ∷ v)

-- a bracket that begins
abbrev pub IsBracket : ℕ → Type 0
IsBracket x = (x ≡ 0x5B) ⊎ (x ≡ 0x7B)

-- where ss were left before s, us are left before t
abbrev pub Onward : List Symbol → List ℕ → List Symbol → List ℕ → Type 0
Onward ss s us t =
    (others : List Symbol) → EndsNumber others → (v : List ℕ) → Stands (ss ++ others) (s ++ v)
    ↔ Stands (us ++ others) (t ++ v)

-- where a token ends, of which t is left at this place and after which this is due
abbrev pub EndSays : Token → List ℕ → ℕ → Due → place.Place → Type 0
EndSays t b at due (Place.At p next) =
    (next ≡ due) × (at ≤ p) × (p ≤ length b) × Onward (left t) (drop at b) [] (drop p b)
EndSays t b at due Place.Cut = (u : Token) × Onward (left t) (drop at b) (left u) []
EndSays t b at due Place.Wrong =
    (others : List Symbol) → EndsNumber others → (v : List ℕ) → ¬ Stands (left t ++ others) (drop at b ++ v)

-- what is due after the token that n may stand in, in d brackets of the kinds k
abbrev pub PlaceSays : Next → ℕ → ℕ → List ℕ → ℕ → place.Place → Type 0
PlaceSays n d k b at (Place.At p due) =
    (at ≤ p) × (p ≤ length b)
    × ((ss : List Symbol) (v : List ℕ) → Stands (next_left n d k ss) (drop at b ++ v)
    ↔ Stands (blanks ∷ due_left due d k ss) (drop p b ++ v))
PlaceSays n d k b at Place.Cut =
    (m : Next) × ((ss : List Symbol) (v : List ℕ) → Stands (next_left n d k ss) (drop at b ++ v)
    ↔ Stands (next_left m d k ss) v)
PlaceSays n d k b at Place.Wrong = (ss : List Symbol) (v : List ℕ) → ¬ Stands (next_left n d k ss) (drop at b ++ v)

-- the place q tells what is due wherever p does
abbrev pub SaysAsMuch : List ℕ → place.Place → place.Place → Type 0
SaysAsMuch b p q = (n : Next) (d k at : ℕ) → PlaceSays n d k b at p → PlaceSays n d k b at q

-- x and the bytes after it leave just `left_of ss` of a text and then ss, before t
abbrev pub Leaves : ℕ → List ℕ → (List Symbol → List Symbol) → List ℕ → Type 0
Leaves x rest left_of t =
    (ss : List Symbol) (v : List ℕ) → Stands (text ∷ ss) (x ∷ rest ++ v) ↔ Stands (left_of ss) (t ++ v)

-- what x and the bytes after it have of a text
abbrev pub Says : ℕ → List ℕ → read.Reading → Type 0
Says x rest (Reading.Whole n) = (n ≤ length rest) × Leaves x rest (λ ss. ss) (drop n rest)
Says x rest Reading.Cut = (n : Next) × (d k : ℕ) × Leaves x rest (next_left n d k) []
Says x rest Reading.Wrong = (ss : List Symbol) (v : List ℕ) → ¬ Stands (text ∷ ss) (x ∷ rest ++ v)

-- w is b without a byte order mark at its front
abbrev pub IsPastMark : List ℕ → List ℕ → Type 0
IsPastMark b w = (b ≡ 0xEF ∷ 0xBB ∷ 0xBF ∷ w) ⊎ ((b ≡ w) × ((u : List ℕ) → ¬ (b ≡ 0xEF ∷ 0xBB ∷ 0xBF ∷ u)))

-- t is s without the white space at its front
abbrev pub IsPast : List ℕ → List ℕ → Type 0
IsPast [] t = t ≡ []
IsPast (x ∷ s) t = (IsBlank x × IsPast s t) ⊎ ((¬ IsBlank x) × (t ≡ x ∷ s))

-- no white space stands first in s
abbrev pub StartsLine : List ℕ → Type 0
StartsLine [] = Unit {0}
StartsLine (x ∷ s) = ¬ IsBlank x

-- s has white space with a line end in it and then t, or is white space, and t nothing
abbrev pub IsNextLine : List ℕ → List ℕ → Type 0
IsNextLine s t =
    (CanBe (same_line ∷ []) s ↔ CanBe (next_line ∷ []) t) × (CanBe (blanks ∷ []) s ↔ (t ≡ [])) × StartsLine t
    × (length t ≤ length s)

-- what s has of a text that only the line's end can follow
abbrev pub LineSays : List ℕ → line.Line → Type 0
LineSays s (Line.Whole t) =
    (CanBe (text ∷ same_line ∷ []) s ↔ CanBe (next_line ∷ []) t.now) × (CanBe (text ∷ blanks ∷ []) s ↔ (t.now ≡ []))
    × StartsLine t.now × (length t.now < length s)
LineSays s Line.Cut = CanBe (text ∷ same_line ∷ []) s × CanBe (text ∷ blanks ∷ []) s
LineSays s Line.Wrong = (¬ CanBe (text ∷ same_line ∷ []) s) × (¬ CanBe (text ∷ blanks ∷ []) s)

-- k is which kind of JSON w is, which has no byte order mark
abbrev pub SaysJsonPastMark : List ℕ → Option Json → Type 0
SaysJsonPastMark w None = (¬ BeginsText w) × (¬ BeginsLines w)
SaysJsonPastMark w (Some Text) = BeginsText w × (¬ BeginsLines w)
SaysJsonPastMark w (Some Lines) = BeginsLines w × (¬ BeginsText w)

-- k is which kind a whole text begins, with `rest` after its bracket and t on the next lines
abbrev pub SaysJsonBefore : List ℕ → List ℕ → Option Json → Type 0
SaysJsonBefore rest t None = ((t ≡ []) × (¬ AfterBlanks BeginsToken rest)) ⊎ ((¬ (t ≡ [])) × (¬ CanBe (next_line ∷ []) t))
SaysJsonBefore rest t (Some Text) = (t ≡ []) × AfterBlanks BeginsToken rest
SaysJsonBefore rest t (Some Lines) = (¬ (t ≡ [])) × CanBe (next_line ∷ []) t
