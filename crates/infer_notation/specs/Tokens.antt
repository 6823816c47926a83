-- The tokens of a signature's text.
use Rattle.std.specs.Prelude.{◌+◌, ◌-◌, ◌==◌, ◌&&◌, ◌||◌, ℕ, Bool, false, not, List, [], ◌∷◌, Option, None, Some, nat_lt, slice_index, take, if◌then◌else◌}
use Rattle.std.specs.Int.{is_in_range}
use Rattle.std.specs.List.{prefix_len}
use Rattle.std.specs.Str.{bytes_eq}
pub use Rattle.infer_formats.specs.Token.{Token, bare, quoted, separator, set, token_listed}
use Rattle.infer_formats.specs.declared.token.Token as tokens
use Rattle.infer_notation.specs.declared.tokens.Run.{Run}
use Rattle.infer_notation.specs.declared.tokens.Run.TheVariants.{Bare, Quoted, Set}

-- commas, colons and "@"
abbrev pub is_separator : ℕ → Bool
is_separator x = x == 0x2C || x == 0x3A || x == 0x40

-- printable ASCII
abbrev pub is_printable : ℕ → Bool
is_printable x = is_in_range 0x20 0x7E x

-- what a bare word is made of, a quoted text, and what stands between braces
abbrev pub is_of : Run → ℕ → Bool
is_of Bare x = is_in_range 0x21 0x7E x && not (x == 0x22 || x == 0x7B || x == 0x7D || is_separator x)
is_of Quoted x = is_printable x && not (x == 0x22)
is_of Set x = not (x == 0x7D)

-- a quoted text after its first quote, and how many bytes it takes there
abbrev pub quoted_at : List ℕ → Option (Token × ℕ)
quoted_at xs =
    let n = prefix_len (is_of Quoted) xs in
    if nat_lt 0 n && slice_index xs n == 0x22 then Some (quoted (take n xs), n + 1) else None

-- a set after its brace
abbrev pub set_at : List ℕ → Option (Token × ℕ)
set_at xs =
    let n = prefix_len (is_of Set) xs in
    if slice_index xs n == 0x7D then Some (set (take n xs), n + 1) else None

-- a bare word, and how many bytes it takes after its first
abbrev pub bare_at : List ℕ → Option (Token × ℕ)
bare_at xs =
    let n = prefix_len (is_of Bare) xs in
    if nat_lt 0 n then Some (bare (take n xs), n - 1) else None

-- the token at the front, and how many bytes it takes after its first
abbrev pub token_from : ℕ → List ℕ → Option (Token × ℕ)
token_from x xs =
    if x == 0x22 then quoted_at xs
    else (if x == 0x7B then set_at xs
    else (if is_separator x then Some (separator x, 0) else bare_at (x ∷ xs)))

unfoldable pub token_at : List ℕ → Option (Token × ℕ)
token_at [] = None
token_at (x ∷ xs) = token_from x xs

-- it is this word
abbrev pub is_word : List ℕ → Token → Bool
is_word w (bare v) = bytes_eq v w
is_word w other = false

abbrev pub pair_listed : tokens.Token × ℕ → Token × ℕ
pair_listed t = (token_listed t.0, t.1)
