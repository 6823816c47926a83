-- What a buffer leaves open of a fixed signature, since more bytes may follow.
use Rattle.std.specs.Prelude.{◌↔◌, ◌-◌, ℕ, Bool, true, false, List, [], ◌∷◌, length, take, slice_index, ◌&&◌, ◌||◌, nat_le, nat_lt, IsTrue}
use Rattle.std.specs.List.{list_any, list_all}
use Rattle.infer_deep.specs.Open.{are_bytes}
use Rattle.infer_deep.specs.Signatures.{MayBecome}
use Rattle.infer_sig.specs.Laws.{is_part_within, lead}
use Rattle.infer_sig.specs.Signature.{Alternative, at_least, Bytes, any_of, between, all_but, Part, text, any_text, byte, allows, stands, accepts}

-- as much of the text as the buffer has room for from the place on stands there
unfoldable pub agrees : ℕ → List ℕ → List ℕ → Bool
agrees place t buf = stands place (take (length buf - place) t) buf

-- as far as the buffer goes, it has what the part asks
abbrev pub may_have : List ℕ → Part → Bool
may_have buf (text place t) = agrees place t buf
may_have buf (any_text place ts) = list_any (λ t. agrees place t buf) ts
may_have buf (byte place set) = nat_le (length buf) place || allows set (slice_index buf place)

-- and every part of the alternative
abbrev pub may_fit : List ℕ → Alternative → Bool
may_fit buf (at_least n parts) = list_all (may_have buf) parts

-- and this of some alternative of the signature
abbrev pub may_become : List Alternative → List ℕ → Bool
may_become signature buf = list_any (may_fit buf) signature

-- some byte is in the set
abbrev pub has_byte : Bytes → Bool
has_byte (any_of xs) = list_any (λ x. nat_lt x 256) xs
has_byte (between low high) = nat_le low high && nat_lt low 256
has_byte (all_but y) = true

-- some bytes are what the part asks: its texts are bytes, of several there is at least one, and its set has a byte
abbrev pub is_possible : Part → Bool
is_possible (text place t) = are_bytes t
is_possible (any_text place []) = false
is_possible (any_text place (t ∷ ts)) = list_all are_bytes (t ∷ ts)
is_possible (byte place set) = has_byte set

-- the place from which the part asks
abbrev pub place_of : Part → ℕ
place_of (text place t) = place
place_of (any_text place ts) = place
place_of (byte place set) = place

-- each part ends before those that follow it begin
abbrev pub are_apart : List Part → Bool
are_apart [] = true
are_apart (part ∷ parts) = list_all (λ later. is_part_within (place_of later) part) parts && are_apart parts

-- the parts ascend, lie apart and are possible
abbrev pub is_alternative_sound : Alternative → Bool
is_alternative_sound (at_least n parts) = are_apart parts && list_all is_possible parts

-- so are those of each alternative of the signature
abbrev pub is_sound : List Alternative → Bool
is_sound signature = list_all is_alternative_sound signature

-- bytes after a buffer can make the signature accept it exactly if the buffer has it as far as it goes
abbrev pub MayBecomeIsExact : List Alternative → Type 0
MayBecomeIsExact signature = (buf : List ℕ) → IsTrue (may_become signature buf) ↔ MayBecome (λ b. IsTrue (accepts signature b)) buf

-- with each byte that the signature allows first begins a buffer that it accepts
abbrev pub Begins : List Alternative → Type 0
Begins signature = (f : ℕ) → IsTrue (lead signature f) → MayBecome (λ b. IsTrue (accepts signature b)) (f ∷ [])
