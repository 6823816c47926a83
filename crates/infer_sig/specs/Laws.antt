-- What holds of every fixed signature.
use Rattle.std.specs.Prelude.{◌≡◌, ℕ, zero, suc, ◌+◌, Bool, true, List, [], ◌∷◌, take, length, ◌&&◌, nat_le, nat_lt, ◌==◌, IsTrue}
use Rattle.std.specs.List.{list_any, list_all}
use Rattle.infer_sig.specs.Signature.{Alternative, at_least, Part, text, byte, any_text, allows, accepts}

-- the first n bytes of a buffer of any length decide
abbrev pub DependsOnFront : ℕ → List Alternative → Type 0
DependsOnFront n signature = (buf : List ℕ) → accepts signature (take n buf) ≡ accepts signature buf

-- the part asks nothing past the first n bytes
abbrev pub is_part_within : ℕ → Part → Bool
is_part_within n (text place t) = nat_le (place + length t) n
is_part_within n (any_text place ts) = list_all (λ t. nat_le (place + length t) n) ts
is_part_within n (byte place set) = nat_lt place n

-- nor do the least length and any part of the alternative
abbrev pub is_alternative_within : ℕ → Alternative → Bool
is_alternative_within n (at_least least parts) = nat_le least n && list_all (is_part_within n) parts

-- nor does any alternative of the signature
abbrev pub is_within : ℕ → List Alternative → Bool
is_within n signature = list_all (is_alternative_within n) signature

-- the text can begin with the byte f
abbrev pub text_lead : List ℕ → ℕ → Bool
text_lead [] f = true
text_lead (c ∷ cs) f = c == f

-- the part allows the byte f at place 0: any byte, if it asks nothing there
abbrev pub part_lead : Part → ℕ → Bool
part_lead (text zero t) f = text_lead t f
part_lead (any_text zero ts) f = list_any (λ t. text_lead t f) ts
part_lead (byte zero set) f = allows set f
part_lead (text (suc place) t) f = true
part_lead (any_text (suc place) ts) f = true
part_lead (byte (suc place) set) f = true

-- each part of the alternative allows it
abbrev pub alternative_lead : Alternative → ℕ → Bool
alternative_lead (at_least least parts) f = list_all (λ part. part_lead part f) parts

-- some alternative of the signature allows it
abbrev pub lead : List Alternative → ℕ → Bool
lead signature f = list_any (λ alternative. alternative_lead alternative f) signature

-- a buffer that the signature accepts begins with a byte of its lead
abbrev pub Leads : List Alternative → Type 0
Leads signature = (f : ℕ) (rest : List ℕ) → IsTrue (accepts signature (f ∷ rest)) → IsTrue (lead signature f)
