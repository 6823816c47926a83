-- How tables of rules are written, and those that browsers and Go have alike.
use Rattle.std.specs.Prelude.{◌==◌, ℕ, Bool, true, false, List, [], ◌∷◌, ◌++◌, codes, replicate, slice_index}
use Rattle.std.specs.List.{filter}
use Rattle.mime_sniff.specs.Rule.{Rule, Signature, fixed}

abbrev pub rule : Signature → List ℕ → Rule
rule signature mime_type = record { signature = signature; mime_type = mime_type }

abbrev pub pattern : List ℕ → List ℕ → Bool → Bool → Signature
pattern bytes mask ignores_white ends_tag =
    fixed (record { bytes = bytes; mask = mask; ignores_white = ignores_white; ends_tag = ends_tag })

-- these bytes; or these as far as the mask has bits
abbrev pub exact : List ℕ → List ℕ → Rule
exact bytes mime_type = rule (pattern bytes [] false false) mime_type

abbrev pub masked : List ℕ → List ℕ → List ℕ → Rule
masked bytes mask mime_type = rule (pattern bytes mask false false) mime_type

-- a tag of HTML after white space: letters stand in either case, and a byte that ends the tag follows
abbrev pub tag : List ℕ → List ℕ → List ℕ → Rule
tag html bytes mask = rule (pattern bytes mask true true) html

-- the mask of n letters in either case, of n bytes as they are, and of any n bytes
abbrev pub letters : ℕ → List ℕ
letters n = replicate n 0xDF

abbrev pub same : ℕ → List ℕ
same n = replicate n 0xFF

abbrev pub any : ℕ → List ℕ
any n = replicate n 0x00

-- the tags of HTML
unfoldable pub tag_rules : List ℕ → List Rule
tag_rules html =
    tag html (codes "<!DOCTYPE HTML") (same 2 ++ letters 7 ++ same 1 ++ letters 4)
    ∷ tag html (codes "<HTML") (same 1 ++ letters 4)
    ∷ tag html (codes "<HEAD") (same 1 ++ letters 4)
    ∷ tag html (codes "<SCRIPT") (same 1 ++ letters 6)
    ∷ tag html (codes "<IFRAME") (same 1 ++ letters 6)
    ∷ tag html (codes "<H1") (same 1 ++ letters 1 ++ same 1)
    ∷ tag html (codes "<DIV") (same 1 ++ letters 3)
    ∷ tag html (codes "<FONT") (same 1 ++ letters 4)
    ∷ tag html (codes "<TABLE") (same 1 ++ letters 5)
    ∷ tag html (codes "<A") (same 1 ++ letters 1)
    ∷ tag html (codes "<STYLE") (same 1 ++ letters 5)
    ∷ tag html (codes "<TITLE") (same 1 ++ letters 5)
    ∷ tag html (codes "<B") (same 1 ++ letters 1)
    ∷ tag html (codes "<BODY") (same 1 ++ letters 4)
    ∷ tag html (codes "<BR") (same 1 ++ letters 2)
    ∷ tag html (codes "<P") (same 1 ++ letters 1)
    ∷ tag html (codes "<!--") []
    ∷ []

-- what XML begins with
unfoldable pub xml_rules : List ℕ → List Rule
xml_rules xml = rule (pattern (codes "<?xml") [] true false) xml ∷ []

-- markup, which begins "<", with the types of HTML and of XML
abbrev pub markup_rules : List ℕ → List ℕ → List Rule
markup_rules html xml = tag_rules html ++ xml_rules xml

unfoldable pub images : List Rule
images =
    exact (0x00 ∷ 0x00 ∷ 0x01 ∷ 0x00 ∷ []) (codes "image/x-icon")
    ∷ exact (0x00 ∷ 0x00 ∷ 0x02 ∷ 0x00 ∷ []) (codes "image/x-icon")
    ∷ exact (codes "BM") (codes "image/bmp")
    ∷ exact (codes "GIF87a") (codes "image/gif")
    ∷ exact (codes "GIF89a") (codes "image/gif")
    ∷ masked (codes "RIFF" ++ any 4 ++ codes "WEBPVP") (same 4 ++ any 4 ++ same 6) (codes "image/webp")
    ∷ exact (0x89 ∷ codes "PNG" ++ 0x0D ∷ 0x0A ∷ 0x1A ∷ 0x0A ∷ []) (codes "image/png")
    ∷ exact (0xFF ∷ 0xD8 ∷ 0xFF ∷ []) (codes "image/jpeg")
    ∷ []

-- sounds and films that first bytes tell
unfoldable pub sounds : List Rule
sounds =
    masked (codes "FORM" ++ any 4 ++ codes "AIFF") (same 4 ++ any 4 ++ same 4) (codes "audio/aiff")
    ∷ exact (codes "ID3") (codes "audio/mpeg")
    ∷ exact (codes "OggS" ++ 0x00 ∷ []) (codes "application/ogg")
    ∷ exact (codes "MThd" ++ 0x00 ∷ 0x00 ∷ 0x00 ∷ 0x06 ∷ []) (codes "audio/midi")
    ∷ masked (codes "RIFF" ++ any 4 ++ codes "AVI ") (same 4 ++ any 4 ++ same 4) (codes "video/avi")
    ∷ masked (codes "RIFF" ++ any 4 ++ codes "WAVE") (same 4 ++ any 4 ++ same 4) (codes "audio/wave")
    ∷ []

-- the first byte of a rule's pattern
abbrev pub lead_of : Signature → ℕ
lead_of (fixed p) = slice_index p.bytes 0
lead_of other = 0

-- the rules whose pattern begins with the byte
abbrev pub led_by : ℕ → List Rule → List Rule
led_by first rules = filter (λ r. lead_of r.signature == first) rules
