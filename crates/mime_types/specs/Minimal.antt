-- The least that tells what a MIME type is for.
use Rattle.std.specs.Prelude.{Bool, IsTrue, codes}
use Rattle.mime_types.specs.Groups.{Is, IsJavaScript, IsJson, IsXml}
use Rattle.mime_types.specs.Mime.{Kind}
use Rattle.mime_types.specs.declared.minimal.Minimal.{Minimal}
use Rattle.mime_types.specs.declared.minimal.Minimal.TheVariants.{Essence, JavaScript, Json, Nothing, Svg, Xml}

abbrev pub IsSvg : Kind → Type 0
IsSvg k = Is (codes "image") (codes "svg+xml") k

-- none of what is told by a name of its own
abbrev pub IsOther : Kind → Type 0
IsOther k = (¬ IsJavaScript k) × (¬ IsJson k) × (¬ IsSvg k) × (¬ IsXml k)

-- the first of these that holds
abbrev pub IsMinimal : Kind → Bool → Minimal → Type 0
IsMinimal k supported JavaScript = IsJavaScript k
IsMinimal k supported Json = (¬ IsJavaScript k) × IsJson k
IsMinimal k supported Svg = (¬ IsJavaScript k) × (¬ IsJson k) × IsSvg k
IsMinimal k supported Xml = (¬ IsJavaScript k) × (¬ IsJson k) × (¬ IsSvg k) × IsXml k
IsMinimal k supported Essence = IsOther k × IsTrue supported
IsMinimal k supported Nothing = IsOther k × (¬ IsTrue supported)
