-- The key of a name.
use Rattle.std.specs.Prelude.{◌≡◌, ◌+◌, ◌-◌, ◌*◌, ◌/◌, ◌%◌, ◌==◌, ◌&&◌, ◌||◌, ℕ, Bool, true, false, List, [], ◌∷◌, Option, None, Some, MatchOption, codes, drop, get_or, if◌then◌else◌, length, map, nat_le, nat_lt, not, take, unwrap_or}
use Rattle.std.specs.Char.{to_ascii_lowercase}
use Rattle.std.specs.List.{find, list_any}
use Rattle.std.specs.Option.{option_map_or, option_or}
use Rattle.std.specs.Str.{bytes_eq}
use Rattle.memchr.specs.Find.{IsFirstByte, IsLast, IsLastByte, Passes, is_byte, is_byte2}
use Rattle.infer_named.specs.Key.{Key}
use Rattle.infer_named.specs.declared.table.Part.{Part}
use Rattle.infer_named.specs.declared.table.Part.TheVariants.{Extension, Whole}

-- the bytes with small letters
abbrev pub small : List ℕ → List ℕ
small bytes = map to_ascii_lowercase bytes

-- what stands up to a place, and what after it: without one nothing, and all
abbrev pub up_to : List ℕ → Option ℕ → List ℕ
up_to bytes None = []
up_to bytes (Some place) = take (place + 1) bytes

abbrev pub past : List ℕ → Option ℕ → List ℕ
past bytes None = bytes
past bytes (Some place) = drop (place + 1) bytes

-- the base of a name is what stands after its last / or \
abbrev pub IsBase : List ℕ → List ℕ → Type 0
IsBase name base = (slash : Option ℕ) × IsLastByte (is_byte2 0x2F 0x5C) name slash × (base ≡ past name slash)

-- the text ends in this ending, whose letters are small, and something stands before it
abbrev pub ends_in : List ℕ → List ℕ → Bool
ends_in text ending = nat_lt (length ending) (length text) && bytes_eq (small (drop (length text - length ending) text)) ending

-- the endings of copies
abbrev pub copies : List (List ℕ)
copies = codes "~" ∷ codes ".bak" ∷ codes ".orig" ∷ codes ".old" ∷ []

-- how many bytes of the base are the ending of a copy
abbrev pub copy_length : List ℕ → ℕ
copy_length base = option_map_or length (find (ends_in base) copies) 0

-- the stem of a base is what stands before the ending of a copy, if it has one
abbrev pub stem_of : List ℕ → List ℕ
stem_of base = take (length base - copy_length base) base

-- whether the byte is a digit, and whether it is one or a dot
abbrev pub is_digit : ℕ → Bool
is_digit x = nat_le 0x30 x && nat_le x 0x39

abbrev pub is_version_byte : ℕ → Bool
is_version_byte x = is_digit x || x == 0x2E

-- digits and dots, each dot with a digit after it; where one is due, a digit stands first
abbrev pub are_parts : Bool → List ℕ → Bool
are_parts due [] = not due
are_parts due (x ∷ rest) = if is_digit x then are_parts false rest else (not due && x == 0x2E && are_parts true rest)

-- parts of digits only, each after a dot, as ".6" and ".1.10"
abbrev pub is_version : List ℕ → Bool
is_version [] = false
is_version (x ∷ rest) = x == 0x2E && are_parts true rest

-- whether the digits and dots at the end of the stem are such parts, and ".so" stands before them after something
abbrev pub IsVersioned : List ℕ → Bool → Type 0
IsVersioned stem versioned =
    (place : Option ℕ) × IsLastByte (λ x. not (is_version_byte x)) stem place
    × (versioned ≡ (is_version (past stem place) && ends_in (up_to stem place) (codes ".so")))

-- the last dot of the stem before a place, but for one that is its first byte
abbrev pub IsLastDot : List ℕ → ℕ → Option ℕ → Type 0
IsLastDot stem before dot = IsLast (Passes (is_byte 0x2E) stem) 1 before dot

-- whether both are the same part of a name
abbrev pub same_part : Part → Part → Bool
same_part Whole Whole = true
same_part Whole Extension = false
same_part Extension Whole = false
same_part Extension Extension = true

-- whether the key is this part of a name, with this text
abbrev pub is_key : Part → List ℕ → Key → Bool
is_key part text k = same_part part k.part && bytes_eq text k.text

-- the names that stand alone with what may follow the first dot
abbrev pub makers : List (List ℕ)
makers = codes "makefile" ∷ codes "gnumakefile" ∷ codes "dockerfile" ∷ codes "containerfile" ∷ []

module _ (keys : List Key) where
  -- the first key of the table that is this part of a name, with this text in small letters
  abbrev pub entry : Part → List ℕ → Option Key
  entry part text = find (is_key part (small text)) keys

  -- the extension after a dot, if there is one
  abbrev pub extension_at : List ℕ → Option ℕ → Option Key
  extension_at stem None = None
  extension_at stem (Some dot) = entry Extension (drop (dot + 1) stem)

  -- the extension of the stem: `so` alone if it is versioned; and else what stands after the last dot but one, or else
  -- after the last
  pub record IsExtensionKey (stem : List ℕ) (found : Option Key) : Type 0 where
    pub versioned : Bool
    pub last : Option ℕ
    pub second : Option ℕ
    pub is_versioned : IsVersioned stem versioned
    pub is_last : IsLastDot stem (length stem) last
    pub is_second : IsLastDot stem (unwrap_or last 0) second
    pub is : found ≡ (if versioned then entry Extension (codes "so") else option_or (extension_at stem second) (extension_at stem last))

  -- the whole name that stands before the first dot, if it is one of the four
  abbrev pub maker_before : List ℕ → Option ℕ → Option Key
  maker_before stem None = None
  maker_before stem (Some dot) = if list_any (bytes_eq (small (take dot stem))) makers then entry Whole (take dot stem) else None

  abbrev pub IsMakerKey : List ℕ → Option Key → Type 0
  IsMakerKey stem found = (dot : Option ℕ) × IsFirstByte (is_byte 0x2E) stem dot × (found ≡ maker_before stem dot)

  -- the whole stem, or else its extension, or else what stands before its first dot
  abbrev pub IsDottedKey : List ℕ → Option Key → Type 0
  IsDottedKey stem found = (extension : Option Key) × IsExtensionKey stem extension × MatchOption extension (IsMakerKey stem found) (λ k. found ≡ Some k)

  abbrev pub IsStemKey : List ℕ → Option Key → Type 0
  IsStemKey stem found = MatchOption (entry Whole stem) (IsDottedKey stem found) (λ k. found ≡ Some k)

  -- the key of a name is that of the stem of its base, and a name with a byte 00 has none
  abbrev pub IsKey : List ℕ → Option Key → Type 0
  IsKey name found =
      (zero_byte : Option ℕ) × IsFirstByte (is_byte 0) name zero_byte
      × MatchOption zero_byte ((base : List ℕ) × IsBase name base × IsStemKey (stem_of base) found) (λ place. found ≡ None)

-- the slot of a text: by its length, its first byte, the middle one and the last
abbrev pub slot_of : List ℕ → ℕ
slot_of [] = 0
slot_of (c ∷ text) =
    (length (c ∷ text) + 118 * c + 203 * get_or (c ∷ text) (length (c ∷ text) / 2) 0 + 36 * get_or (c ∷ text) (length text) 0) % 512
