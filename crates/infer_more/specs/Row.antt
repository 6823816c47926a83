-- Further rows.
use Rattle.std.specs.Prelude.{◌+◌, ℕ, Bool, true, false, List, Option, length, nat_le}
use Rattle.std.specs.List.{list_all}
use Rattle.infer_sig.specs.Signature as fixed
use Rattle.infer_sig.specs.Signature.{at_least, Part, text, any_text, byte}
use Rattle.infer.specs.Triple.{Triple}
use Rattle.infer_notation.specs.Alternative.{Alternative, bytes, binary_bytes}

-- a triple, the number of its parent among the built-in rows, or none, and the signature that decides
pub record Further : Type 0 where
  pub shows : Triple
  pub parent : Option ℕ
  pub signature : List Alternative

-- what the part asks, one text or one byte, is in the first n bytes
abbrev pub is_inside : ℕ → Part → Bool
is_inside n (text place t) = nat_le (place + length t) n
is_inside n (any_text place ts) = false
is_inside n (byte place set) = nat_le (place + 1) n

-- what each part asks is in a buffer of the least length
abbrev pub is_closed : fixed.Alternative → Bool
is_closed (at_least least parts) = list_all (is_inside least) parts

-- the bytes that the alternative asks are so, if it asks any
abbrev pub is_closed_alternative : Alternative → Bool
is_closed_alternative (bytes a) = is_closed a
is_closed_alternative (binary_bytes a) = is_closed a
is_closed_alternative other = true

-- each alternative of the row's signature is so
abbrev pub is_row_closed : Further → Bool
is_row_closed r = list_all is_closed_alternative r.signature
