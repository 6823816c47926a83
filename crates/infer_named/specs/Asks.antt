-- What a type asks of bytes that no row accepts.
use Rattle.std.specs.Prelude.{Bool, true, false, not}
use Rattle.infer_named.specs.Bytes.{has_no_zero, is_empty}
use Rattle.infer_named.specs.declared.bytes.Kind.{Kind}
use Rattle.infer_named.specs.declared.table.Asks.{Asks}
use Rattle.infer_named.specs.declared.table.Asks.TheVariants.{Bytes, Nothing, Signature, Text}

-- whether it asks for a text
abbrev pub is_text : Asks → Bool
is_text Signature = false
is_text Text = true
is_text Bytes = false
is_text Nothing = false

-- whether bytes of this kind are so
abbrev pub admits : Asks → Kind → Bool
admits Signature kind = false
admits Text kind = has_no_zero kind
admits Bytes kind = not (is_empty kind)
admits Nothing kind = true
