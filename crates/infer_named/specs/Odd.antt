-- What is odd about a name. It changes nothing of what the name and the bytes tell.
use Rattle.std.specs.Prelude.{◌≡◌, ◌↔◌, ◌+◌, ◌-◌, ◌<◌, ◌≤◌, ◌==◌, ◌||◌, ℕ, Bool, false, true, IsTrue, List, [], ◌∷◌, Option, Some, drop, get_or, is_some, length, map, nat_eq, nat_lt, take}
use Rattle.std.specs.Char.{encode_utf8}
use Rattle.std.specs.List.{list_any, starts_with}
use Rattle.memchr.specs.Find.{Passes, is_byte}
use Rattle.infer_named.specs.Key.{Key}
use Rattle.infer_named.specs.Names.{IsBase, IsLastDot, entry, extension_at}
use Rattle.infer_named.specs.declared.suspicious_name.Oddities.{Oddities}
use Rattle.infer_named.specs.declared.table.Part.TheVariants.{Extension}

-- a control character of ASCII
abbrev pub is_control : ℕ → Bool
is_control x = nat_lt x 0x20 || x == 0x7F

-- the marks of the direction of writing, as Unicode numbers them
abbrev pub direction_marks : List ℕ
direction_marks =
    0x061C ∷ 0x200E ∷ 0x200F ∷ 0x202A ∷ 0x202B ∷ 0x202C ∷ 0x202D ∷ 0x202E ∷ 0x2066 ∷ 0x2067 ∷ 0x2068 ∷ 0x2069 ∷ []

-- one of them in UTF-8 stands at the front
unfoldable pub begins_with_mark : List ℕ → Bool
begins_with_mark text = list_any (λ mark. starts_with nat_eq text mark) (map encode_utf8 direction_marks)

-- and somewhere
abbrev pub HasMark : List ℕ → Type 0
HasMark name = (k : ℕ) × (k < length name) × IsTrue (begins_with_mark (drop k name))

-- the last byte of a base is a dot or a blank
abbrev pub ends_oddly : List ℕ → Bool
ends_oddly [] = false
ends_oddly (x ∷ base) = list_any (nat_eq (get_or (x ∷ base) (length base) 0)) (0x2E ∷ 0x20 ∷ [])

-- what stands between two places
abbrev pub between : List ℕ → ℕ → ℕ → List ℕ
between base start end = take (end - (start + 1)) (drop (start + 1) base)

module _ (keys : List Key) where
  -- a part of the base before the dot at `last`, which stands between two dots, is an extension of the table
  pub record IsEarlier (base : List ℕ) (last start end : ℕ) : Type 0 where
    pub is_end : Passes (is_byte 0x2E) base end
    pub within : end ≤ last
    pub is_start : IsLastDot base end (Some start)
    pub is_extension : is_some (entry keys Extension (between base start end)) ≡ true

  abbrev pub HasEarlier : List ℕ → ℕ → Type 0
  HasEarlier base last = (start : ℕ) × (end : ℕ) × IsEarlier base last start end

  -- the last part of the base and an earlier one are extensions of the table, and the last two are not one together
  pub record HasTwoExtensions (base : List ℕ) : Type 0 where
    pub last : ℕ
    pub second : Option ℕ
    pub is_last : IsLastDot base (length base) (Some last)
    pub is_second : IsLastDot base last second
    pub is_extension : is_some (extension_at keys base (Some last)) ≡ true
    pub is_apart : is_some (extension_at keys base second) ≡ false
    pub earlier : HasEarlier base last

  -- what is odd about a name
  pub record AreOddities (name : List ℕ) (o : Oddities) : Type 0 where
    pub base : List ℕ
    pub is_base : IsBase name base
    pub control : o.has_control ≡ list_any is_control name
    pub direction : IsTrue o.has_direction_mark ↔ HasMark name
    pub end : o.ends_oddly ≡ ends_oddly base
    pub two : IsTrue o.has_two_extensions ↔ HasTwoExtensions base
