-- The header `X-Content-Type-Options`, and what it blocks.
use Rattle.std.specs.Prelude.{◌≡◌, ◌+◌, ◌==◌, ℕ, Bool, false, List, [], ◌∷◌, Option, None, Some, codes, drop, if◌then◌else◌, length, take, ◌-◌, ◌||◌}
use Rattle.std.specs.List.{prefix_len, suffix_len}
use Rattle.mime_types.specs.Groups.{Is, IsJavaScript}
use Rattle.mime_types.specs.Seen.{kind_of}
use Rattle.mime_types.specs.Text.{lower}
use Rattle.mime_types.specs.declared.mime_type.MimeType.{MimeType}
use Rattle.mime_types.specs.declared.nosniff.Destination.{Destination}
use Rattle.mime_types.specs.declared.nosniff.Destination.TheVariants.{Other, Script, Style}
use Rattle.mime_types.specs.declared.nosniff.Place.{Place}
use Rattle.mime_types.specs.declared.nosniff.Place.TheVariants.{Escaped, Outside, Quoted}

-- where the byte after one stands: outside of quotes, within them, or after a backslash there
abbrev pub next_place : Place → ℕ → Place
next_place Outside x = if x == 0x22 then Quoted else Outside
next_place Quoted x = if x == 0x22 then Outside else (if x == 0x5C then Escaped else Quoted)
next_place Escaped x = Quoted

-- a comma outside of quotes ends a piece
abbrev pub ends_piece : Place → ℕ → Bool
ends_piece Outside x = x == 0x2C
ends_piece Quoted x = false
ends_piece Escaped x = false

-- how long the first piece is, of a text that begins there
abbrev pub piece_len : Place → List ℕ → ℕ
piece_len place [] = 0
piece_len place (x ∷ s) = if ends_piece place x then 0 else 1 + piece_len (next_place place x) s

abbrev pub is_blank : ℕ → Bool
is_blank x = x == 0x09 || x == 0x20

-- without tabs and blanks at both ends
abbrev pub trim_blanks : List ℕ → List ℕ
trim_blanks s =
    let t = drop (prefix_len is_blank s) s in take (length t - suffix_len is_blank t) t

-- the first piece of the header's value is "nosniff" in any ASCII case. Several values are one, with ", " between them
abbrev pub IsNosniff : List ℕ → Type 0
IsNosniff value = lower (trim_blanks (take (piece_len Outside value) value)) ≡ codes "nosniff"

-- the destination wants another type than was told, or none was told
abbrev pub IsBlocked : Option MimeType → Destination → Type 0
IsBlocked None Script = Unit {0}
IsBlocked (Some v) Script = ¬ IsJavaScript (kind_of v)
IsBlocked None Style = Unit {0}
IsBlocked (Some v) Style = ¬ Is (codes "text") (codes "css") (kind_of v)
IsBlocked told Other = ⊥
