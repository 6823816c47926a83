-- What stands in each buffer that a signature accepts.
use Rattle.std.specs.Prelude.{◌≡◌, ⊤, ℕ, Bool, true, false, IsTrue, List, Option, None, Some, option_map}
use Rattle.infer_sig.specs.Signature.{Part, allows, any_of, byte, has_part}
use Rattle.infer_notation.specs.Alternative.{Accepted, Alternative}
use Rattle.infer_notation.specs.Fixed.{accepts, alternatives_of, given, state}
use Rattle.infer_notation.specs.declared.leads.Known.{Known}
use Rattle.infer_notation.specs.declared.leads.Known.TheVariants.{Led, Never, Nothing}
use Rattle.infer_notation.specs.declared.leads.Lead.{Lead}
use Rattle.infer_notation.specs.declared.leads.Reading.{Reading}

-- one of these bytes at that place
abbrev pub lead_part : Lead → Part
lead_part l = byte l.place (any_of l.bytes)

-- the buffer has it, if it is known
abbrev pub is_led : Option Lead → List ℕ → Bool
is_led None b = true
is_led (Some l) b = has_part b (lead_part l)

abbrev pub IsLed : Option Lead → List ℕ → Type 0
IsLed lead b = IsTrue (is_led lead b)

-- each buffer that fits one of the alternatives has it, if it is known
abbrev pub IsLead : Option Lead → List Alternative → Type 0
IsLead lead alternatives = (b : List ℕ) → Accepted alternatives b → IsLed lead b

-- it is one of the bytes that were found, if any were
abbrev pub is_found : Option (List ℕ) → ℕ → Bool
is_found None x = false
is_found (Some bytes) x = allows (any_of bytes) x

-- what is known of the buffers for which the test is true
abbrev pub IsKnown : Known → (List ℕ → Bool) → Type 0
IsKnown Never test = (b : List ℕ) → test b ≡ false
IsKnown (Led l) test = (b : List ℕ) → test b ≡ true → IsTrue (has_part b (lead_part l))
IsKnown Nothing test = ⊤

-- what was read of a text, of which this is left, tells of every buffer: whether it fits an alternative before the last,
-- and whether it has what was read of the last
pub record IsRead (r : Reading) (text left : List ℕ) : Type 0 where
  pub any : List ℕ → Bool
  pub last : List ℕ → Bool
  pub is_any : IsKnown r.any any
  pub is_last : IsKnown r.last last
  pub same : (b : List ℕ) → given b (state r.cursor (any b) (last b)) 0 left ≡ option_map (λ alternatives. accepts alternatives b) (alternatives_of text)
