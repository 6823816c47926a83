-- Parts of a text.
use Rattle.std.specs.Prelude.{◌+◌, ◌-◌, ◌==◌, ◌&&◌, ◌||◌, ℕ, Bool, not, List, drop, length, map, nat_lt, take}
use Rattle.std.specs.Char.{to_ascii_lowercase}
use Rattle.std.specs.List.{list_all, prefix_len, suffix_len}
use Rattle.mime_types.specs.Bytes.{is_token, is_white}

-- letters of ASCII in lower case
abbrev pub lower : List ℕ → List ℕ
lower s = map to_ascii_lowercase s

-- the text without the white space at its start, at its end, and at both
abbrev pub trim_start : List ℕ → List ℕ
trim_start s = drop (prefix_len is_white s) s

abbrev pub trim_end : List ℕ → List ℕ
trim_end s = take (length s - suffix_len is_white s) s

abbrev pub trim : List ℕ → List ℕ
trim s = trim_end (trim_start s)

-- how many bytes stand before the first that ends a part, or how many there are
abbrev pub before : (ℕ → Bool) → List ℕ → ℕ
before ends s = prefix_len (λ x. not (ends x)) s

-- what stands before that byte, from it on, and after it
abbrev pub front : (ℕ → Bool) → List ℕ → List ℕ
front ends s = take (before ends s) s

abbrev pub onward : (ℕ → Bool) → List ℕ → List ℕ
onward ends s = drop (before ends s) s

abbrev pub after : (ℕ → Bool) → List ℕ → List ℕ
after ends s = drop (before ends s + 1) s

-- the bytes of tokens that a text begins with, and what stands after them
abbrev pub tokens_before : List ℕ → List ℕ
tokens_before s = take (prefix_len is_token s) s

abbrev pub after_tokens : List ℕ → List ℕ
after_tokens s = drop (prefix_len is_token s) s

-- the bytes at which parts end
abbrev pub is_slash : ℕ → Bool
is_slash x = x == 0x2F

abbrev pub is_semicolon : ℕ → Bool
is_semicolon x = x == 0x3B

abbrev pub ends_name : ℕ → Bool
ends_name x = x == 0x3B || x == 0x3D

-- a token: one byte at least, and each of them is of tokens
abbrev pub is_a_token : List ℕ → Bool
is_a_token s = nat_lt 0 (length s) && list_all is_token s
