-- Blanks, digits and bytes, as a line of types writes them.
use Rattle.std.specs.Prelude.{◌+◌, ◌*◌, ◌-◌, ◌==◌, ◌||◌, ◌&&◌, ℕ, Bool, false, List, drop, length, nat_eq, not, take, [], ◌∷◌, Option, None, Some, Result, Ok, Err, option_and_then, option_map, nat_lt, if◌then◌else◌}
use Rattle.std.specs.Int.{is_in_range}
use Rattle.std.specs.List.{prefix_len, starts_with}
use Rattle.infer_sig.specs.Signature.{allows, any_of}
use Rattle.infer_notation.specs.declared.words.Hex.{Hex}

-- what a function found, whatever else it says of why it found nothing
abbrev pub found_by : {A E : Type 0} → Result A E → Option A
found_by (Ok x) = Some x
found_by (Err e) = None

infixl 10 ◌>>=◌
abbrev pub ◌>>=◌ : {A B : Type 0} → Option A → (A → Option B) → Option B
o >>= f = option_and_then f o

-- spaces, tabs and 0D are blanks
abbrev pub is_blank : ℕ → Bool
is_blank x = x == 0x20 || x == 0x09 || x == 0x0D

-- what follows the blanks at the front
abbrev pub after_blanks : List ℕ → List ℕ
after_blanks [] = []
after_blanks (x ∷ xs) = if is_blank x then after_blanks xs else x ∷ xs

-- the bytes up to the first blank, and what follows the blanks after them
abbrev pub word_len : List ℕ → ℕ
word_len xs = prefix_len (λ x. not (is_blank x)) xs

unfoldable pub word : List ℕ → List ℕ
word xs = take (word_len xs) xs

unfoldable pub after_word : List ℕ → List ℕ
after_word xs = after_blanks (drop (word_len xs) xs)

abbrev pub is_digit : ℕ → Bool
is_digit x = is_in_range 0x30 0x39 x

-- the number with these decimal digits after those of n. It is below 1,000,000,000
abbrev pub number_after : ℕ → List ℕ → Option ℕ
number_after n [] = Some n
number_after n (x ∷ xs) =
    if is_digit x then (if nat_lt n 100_000_000 then number_after (10 * n + (x - 0x30)) xs else None) else None

-- the number with these decimal digits, of which there is one at least
abbrev pub number_of : List ℕ → Option ℕ
number_of [] = None
number_of (x ∷ xs) = number_after 0 (x ∷ xs)

-- the value of a hexadecimal digit of either case
abbrev pub hex_value : ℕ → Option ℕ
hex_value x =
    if is_digit x then Some (x - 0x30)
    else (if is_in_range 0x41 0x46 x then Some (x - 0x37)
    else (if is_in_range 0x61 0x66 x then Some (x - 0x57) else None))

-- the byte with these two digits
abbrev pub byte_with : ℕ → ℕ → Option ℕ
byte_with x y = hex_value x >>= λ high. option_map (λ low. 16 * high + low) (hex_value y)

-- the byte that the text writes
abbrev pub byte_of : List ℕ → Option ℕ
byte_of (x ∷ y ∷ []) = byte_with x y
byte_of other = None

-- the bytes that the text writes after a first digit, if one was read
abbrev pub bytes_after : Option ℕ → List ℕ → Option (List ℕ)
bytes_after None [] = Some []
bytes_after (Some x) [] = None
bytes_after None (x ∷ xs) = if is_blank x then bytes_after None xs else bytes_after (Some x) xs
bytes_after (Some x) (y ∷ xs) = byte_with x y >>= λ b. option_map (λ bytes. b ∷ bytes) (bytes_after None xs)

-- the bytes that the text writes: two hexadecimal digits each, with or without blanks between them
abbrev pub bytes_of : List ℕ → Option (List ℕ)
bytes_of text = bytes_after None text

-- the first byte passes the test
abbrev pub first_passes : (ℕ → Bool) → List ℕ → Bool
first_passes test [] = false
first_passes test (x ∷ xs) = test x

-- what a buffer makes of bytes: how many they are, whether it begins with them, and whether its first byte is among them
abbrev pub hex_seen : List ℕ → List ℕ → Hex
hex_seen buf xs = record { count = length xs; stands = starts_with nat_eq buf xs; has = first_passes (allows (any_of xs)) buf }

-- what a buffer makes of bytes after those that were read, after which `left` follows in the buffer
abbrev pub hex_joined : Hex → List ℕ → List ℕ → List ℕ → Hex
hex_joined read left buf xs = record {
  count = read.count + length xs;
  stands = read.stands && starts_with nat_eq left xs;
  has = read.has || first_passes (allows (any_of xs)) buf;
}
