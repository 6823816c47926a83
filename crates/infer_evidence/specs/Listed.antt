-- Fixed signatures as the code lists them.
use Rattle.std.specs.Prelude.{List, map}
use Rattle.infer_sig.specs.Signature as fixed
use Rattle.infer_sig.specs.Signature.{at_least, text, any_text, byte, any_of, between, all_but}
use Rattle.infer_evidence.specs.declared.signature.Alternative.{Alternative}
use Rattle.infer_evidence.specs.declared.signature.Part.{Part}
use Rattle.infer_evidence.specs.declared.signature.Part.TheVariants.{AnyText, Byte, Text}
use Rattle.infer_evidence.specs.declared.signature.Set.{Set}
use Rattle.infer_evidence.specs.declared.signature.Set.TheVariants.{AllBut, AnyOf, Between}

abbrev pub set_listed : Set → fixed.Bytes
set_listed (AnyOf xs) = any_of xs.now
set_listed (Between low high) = between low high
set_listed (AllBut x) = all_but x

abbrev pub part_listed : Part → fixed.Part
part_listed (Text place t) = text place t.now
part_listed (AnyText place ts) = any_text place (map (λ t. t.now) ts.now)
part_listed (Byte place set) = byte place (set_listed set)

abbrev pub alternative_listed : Alternative → fixed.Alternative
alternative_listed a = at_least a.least (map part_listed a.parts.now)

abbrev pub signature_listed : List Alternative → List fixed.Alternative
signature_listed alternatives = map alternative_listed alternatives
