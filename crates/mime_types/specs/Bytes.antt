-- Bytes of headers. A byte is one code point.
use Rattle.std.specs.Prelude.{◌==◌, ◌||◌, ℕ, Bool}
use Rattle.std.specs.Int.{is_in_range}

-- white space of HTTP: a tab, the ends of lines, and a blank
abbrev pub is_white : ℕ → Bool
is_white x = x == 0x09 || x == 0x0A || x == 0x0D || x == 0x20

-- what tokens are made of: ! # $ % & ' * + - . digits, letters of ASCII, ^ _ ` | and ~
abbrev pub is_token : ℕ → Bool
is_token x =
    is_in_range 0x5E 0x7A x || is_in_range 0x30 0x39 x || is_in_range 0x41 0x5A x || x == 0x21 || is_in_range 0x23 0x27 x || x == 0x2A
    || x == 0x2B || x == 0x2D || x == 0x2E || x == 0x7C || x == 0x7E

-- what values are made of: a tab, and bytes from a blank on, but for 7F
abbrev pub is_quotable : ℕ → Bool
is_quotable x = x == 0x09 || is_in_range 0x20 0x7E x || is_in_range 0x80 0xFF x

-- small letters of ASCII
abbrev pub is_small : ℕ → Bool
is_small x = is_in_range 0x61 0x7A x
