-- Segments: what stands between the semicolons after a subtype.
use Rattle.std.specs.Prelude.{◌+◌, ◌==◌, ℕ, zero, suc, Bool, true, false, List, [], ◌∷◌, ◌++◌, Option, None, Some, drop, length, option_map, option_to_list, take, if◌then◌else◌}
use Rattle.mime_types.specs.Mime.{Parameter}
use Rattle.mime_types.specs.Text.{after, ends_name, front, is_semicolon, lower, onward, trim_end, trim_start}

-- how many bytes of a quoted text stand before the quote that closes it, or how many there are. A backslash takes the next
-- byte with it
abbrev pub quoted_len : List ℕ → ℕ
quoted_len [] = 0
quoted_len (x ∷ []) = if x == 0x22 then 0 else 1
quoted_len (x ∷ y ∷ s) =
    if x == 0x22 then 0 else (if x == 0x5C then 2 + quoted_len s else 1 + quoted_len (y ∷ s))

-- what such bytes say: the backslashes that take a byte with them are left out
abbrev pub unquoted : List ℕ → List ℕ
unquoted [] = []
unquoted (x ∷ []) = x ∷ []
unquoted (x ∷ y ∷ s) = if x == 0x5C then y ∷ unquoted s else x ∷ unquoted (y ∷ s)

-- a parameter as it was written. Its text is what stands between quotes, with its backslashes, or a word without quotes
pub record AsWritten : Type 0 where
  pub name : List ℕ
  pub text : List ℕ
  pub is_quoted : Bool

abbrev pub as_written : List ℕ → List ℕ → Bool → AsWritten
as_written name text is_quoted = record { name = name; text = text; is_quoted = is_quoted }

-- the parameter that stands in a segment, if one does, and what stands after the segment
pub record Standing : Type 0 where
  pub parameter : Option AsWritten
  pub rest : List ℕ

abbrev pub standing : Option AsWritten → List ℕ → Standing
standing parameter rest = record { parameter = parameter; rest = rest }

-- a value in quotes, of what stands after the first. What stands between the last and the semicolon says nothing
abbrev pub quoted : List ℕ → List ℕ → Standing
quoted name s = standing (Some (as_written name (take (quoted_len s) s) true)) (after is_semicolon (drop (quoted_len s) s))

-- a value without quotes. It is not empty
abbrev pub some_value : List ℕ → List ℕ → Option AsWritten
some_value name [] = None
some_value name (x ∷ value) = Some (as_written name (x ∷ value) false)

abbrev pub bare : List ℕ → List ℕ → Standing
bare name s = standing (some_value name (trim_end (front is_semicolon s))) (after is_semicolon s)

-- a value, of what stands after "="
abbrev pub valued : List ℕ → List ℕ → Standing
valued name [] = bare name []
valued name (x ∷ s) = if x == 0x22 then quoted name s else bare name (x ∷ s)

-- a segment with a name, of what stands after the name
abbrev pub named : List ℕ → List ℕ → Standing
named name [] = standing None []
named name (x ∷ s) = if x == 0x3D then valued name s else standing None s

-- the segment that a text begins with, as it stands there. White space in front of its name says nothing
unfoldable pub stands : List ℕ → Standing
stands s = named (front ends_name (trim_start s)) (onward ends_name (trim_start s))

abbrev pub parameter_of : List ℕ → List ℕ → Parameter
parameter_of name value = record { name = name; value = value }

-- what is said by a parameter: its name in lower case, and its value without the backslashes that take a byte with them
abbrev pub parameter_said : AsWritten → Parameter
parameter_said p = parameter_of (lower p.name) (if p.is_quoted then unquoted p.text else p.text)

-- what a segment writes, if it does, and what stands after it
pub record Segment : Type 0 where
  pub written : Option Parameter
  pub rest : List ℕ

abbrev pub segment_of : Option Parameter → List ℕ → Segment
segment_of written rest = record { written = written; rest = rest }

abbrev pub segment_said : Standing → Segment
segment_said s = segment_of (option_map parameter_said s.parameter) s.rest

unfoldable pub segment : List ℕ → Segment
segment s = segment_said (stands s)

-- what the first n segments of a text write, and what stands after them
unfoldable pub written_by : ℕ → List ℕ → List Parameter
written_by zero s = []
written_by (suc n) s = option_to_list (segment s).written ++ written_by n (segment s).rest

unfoldable pub left_by : ℕ → List ℕ → List ℕ
left_by zero s = s
left_by (suc n) s = left_by n (segment s).rest

-- what all of them write: a text has no more segments than bytes
abbrev pub written : List ℕ → List Parameter
written s = written_by (length s) s
