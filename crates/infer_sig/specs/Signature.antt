-- Fixed signatures as data: what a type's files hold at fixed places, and which buffers have it.
use Rattle.std.specs.Prelude.{ℕ, Bool, List, length, drop, slice_index, ◌&&◌, not, nat_eq, nat_lt, nat_le, ◌==◌}
use Rattle.std.specs.List.{list_any, list_all, starts_with}

-- a set of bytes: the listed ones, those of a range with both its ends, or all but one
pub data Bytes : Type 0 where
  any_of : List ℕ → Bytes
  between : ℕ → ℕ → Bytes
  all_but : ℕ → Bytes

-- the byte x is in the set
abbrev pub allows : Bytes → ℕ → Bool
allows (any_of xs) x = list_any (λ y. x == y) xs
allows (between low high) x = nat_le low x && nat_le x high
allows (all_but y) x = not (x == y)

-- what a signature asks of places: the bytes of a text from a place on, those of one of several texts, or at
-- one place a byte of a set
pub data Part : Type 0 where
  text : ℕ → List ℕ → Part
  any_text : ℕ → List (List ℕ) → Part
  byte : ℕ → Bytes → Part

-- a least length, and parts
pub data Alternative : Type 0 where
  at_least : ℕ → List Part → Alternative

-- the text stands in the buffer from the place on
unfoldable pub stands : ℕ → List ℕ → List ℕ → Bool
stands place t buf = starts_with nat_eq (drop place buf) t

-- the buffer has what the part asks
abbrev pub has_part : List ℕ → Part → Bool
has_part buf (text place t) = stands place t buf
has_part buf (any_text place ts) = list_any (λ t. stands place t buf) ts
has_part buf (byte place set) = nat_lt place (length buf) && allows set (slice_index buf place)

-- the buffer has the least length and every part
abbrev pub fits : List ℕ → Alternative → Bool
fits buf (at_least n parts) = nat_le n (length buf) && list_all (has_part buf) parts

-- A signature is a list of alternatives. It accepts the buffers that fit one of them.
abbrev pub accepts : List Alternative → List ℕ → Bool
accepts signature buf = list_any (fits buf) signature
