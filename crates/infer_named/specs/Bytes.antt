-- What is asked of the bytes beside their wider answer.
use Rattle.std.specs.Prelude.{◌≡◌, ◌≢◌, ◌<◌, ◌==◌, ◌||◌, ℕ, Bool, true, false, List, [], ◌∷◌, if◌then◌else◌, drop, filter, length, nat_eq, not, slice_index, take}
use Rattle.std.specs.List.{starts_with}
use Rattle.infer.specs.Leads.{is_white}
use Rattle.infer_formats.specs.Text.{IsText}
use Rattle.infer_named.specs.declared.bytes.Kind.{Kind}
use Rattle.infer_named.specs.declared.bytes.Kind.TheVariants.{Binary, Empty, Marked, Text}
use Rattle.infer_named.specs.declared.bytes.Lead.{Lead}
use Rattle.infer_named.specs.declared.bytes.Lead.TheVariants.{Nothing, One, Two}

-- some byte is 00
abbrev pub HasZero : List ℕ → Type 0
HasZero b = (k : ℕ) × (k < length b) × (slice_index b k ≡ 0)

-- there are no bytes; there are, and they are a text; they are none, and one is 00; they are none, and none is 00
abbrev pub IsKind : List ℕ → Kind → Type 0
IsKind b Empty = b ≡ []
IsKind b Text = (b ≢ []) × IsText b
IsKind b Binary = (b ≢ []) × (¬ IsText b) × HasZero b
IsKind b Marked = (b ≢ []) × (¬ IsText b) × (¬ HasZero b)

-- whether there are no bytes, and whether there is none that is 00, as far as the kind tells
abbrev pub is_empty : Kind → Bool
is_empty Empty = true
is_empty Text = false
is_empty Binary = false
is_empty Marked = false

abbrev pub has_no_zero : Kind → Bool
has_no_zero Empty = true
has_no_zero Text = false
has_no_zero Binary = false
has_no_zero Marked = true

-- what follows the white space at the front
abbrev pub without_white : List ℕ → List ℕ
without_white [] = []
without_white (x ∷ rest) = if is_white x then without_white rest else x ∷ rest

-- the bytes, without those that are 00 if these are skipped
abbrev pub shown : Bool → List ℕ → List ℕ
shown skips bytes = if skips then filter (λ x. not (x == 0)) bytes else bytes

-- the bytes without a byte order mark, and of UTF-16 without those that are 00
abbrev pub unmarked : List ℕ → List ℕ
unmarked b =
    if starts_with nat_eq b (0xEF ∷ 0xBB ∷ 0xBF ∷ []) then drop 3 b
    else (if starts_with nat_eq b (0xFF ∷ 0xFE ∷ []) || starts_with nat_eq b (0xFE ∷ 0xFF ∷ []) then shown true (drop 2 b) else b)

-- the first two bytes after a byte order mark and white space, or fewer if there are no more
abbrev pub lead_of : List ℕ → List ℕ
lead_of b = take 2 (without_white (unmarked b))

-- the bytes of a lead
abbrev pub lead_bytes : Lead → List ℕ
lead_bytes Nothing = []
lead_bytes (One bytes) = bytes
lead_bytes (Two bytes) = bytes
