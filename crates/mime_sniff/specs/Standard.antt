-- The tables of the MIME Sniffing Standard.
use Rattle.std.specs.Prelude.{ℕ, List, [], ◌∷◌, ◌++◌, codes, take}
use Rattle.mime_sniff.specs.Rule.{Rule, mp3, mp4_of_any_box, no_data, webm}
use Rattle.mime_sniff.specs.Table.{any, exact, images, markup_rules, masked, rule, same, sounds}

-- the bytes that are looked at: the longest frame of MPEG audio and the header of the next one
abbrev pub header : List ℕ → List ℕ
header b = take 1445 b

abbrev pub plain_text : List ℕ
plain_text = codes "text/plain"

abbrev pub octets : List ℕ
octets = codes "application/octet-stream"

abbrev pub markup : List Rule
markup = markup_rules (codes "text/html") (codes "text/xml")

unfoldable pub documents : List Rule
documents = exact (codes "%PDF-") (codes "application/pdf") ∷ []

-- what may run scripts
abbrev pub scriptable : List Rule
scriptable = markup ++ documents

-- PostScript, and texts that begin with a mark of their encoding and have four bytes
unfoldable pub texts : List Rule
texts =
    exact (codes "%!PS-Adobe-") (codes "application/postscript")
    ∷ masked (0xFE ∷ 0xFF ∷ any 2) (same 2 ++ any 2) plain_text
    ∷ masked (0xFF ∷ 0xFE ∷ any 2) (same 2 ++ any 2) plain_text
    ∷ masked (0xEF ∷ 0xBB ∷ 0xBF ∷ any 1) (same 3 ++ any 1) plain_text
    ∷ []

-- sounds and films
abbrev pub mp4_rule : Rule
mp4_rule = rule mp4_of_any_box (codes "video/mp4")

abbrev pub webm_rule : Rule
webm_rule = rule webm (codes "video/webm")

abbrev pub mp3_rule : Rule
mp3_rule = rule mp3 (codes "audio/mpeg")

abbrev pub media : List Rule
media = sounds ++ mp4_rule ∷ webm_rule ∷ mp3_rule ∷ []

-- the standard has a blank where files of RAR have "!"
unfoldable pub archives : List Rule
archives =
    exact (0x1F ∷ 0x8B ∷ 0x08 ∷ []) (codes "application/x-gzip")
    ∷ exact (codes "PK" ++ 0x03 ∷ 0x04 ∷ []) (codes "application/zip")
    ∷ exact (codes "Rar " ++ 0x1A ∷ 0x07 ∷ 0x00 ∷ []) (codes "application/x-rar-compressed")
    ∷ []

unfoldable pub fonts : List Rule
fonts =
    masked (any 34 ++ codes "LP") (any 34 ++ same 2) (codes "application/vnd.ms-fontobject")
    ∷ exact (0x00 ∷ 0x01 ∷ 0x00 ∷ 0x00 ∷ []) (codes "font/ttf")
    ∷ exact (codes "OTTO") (codes "font/otf")
    ∷ exact (codes "ttcf") (codes "font/collection")
    ∷ exact (codes "wOFF") (codes "font/woff")
    ∷ exact (codes "wOF2") (codes "font/woff2")
    ∷ []

abbrev pub text_rule : Rule
text_rule = rule no_data plain_text

-- what is asked of a resource of which nothing is known, beside what may run scripts
abbrev pub unscripted : List Rule
unscripted = texts ++ (images ++ (media ++ (archives ++ text_rule ∷ [])))

-- what is asked of a text that may be something else: a mark needs no fourth byte here
unfoldable pub marks : List Rule
marks =
    exact (0xFE ∷ 0xFF ∷ []) plain_text
    ∷ exact (0xFF ∷ 0xFE ∷ []) plain_text
    ∷ exact (0xEF ∷ 0xBB ∷ 0xBF ∷ []) plain_text
    ∷ []

abbrev pub text_or_binary_rules : List Rule
text_or_binary_rules = marks ++ text_rule ∷ []
