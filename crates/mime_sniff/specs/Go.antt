-- What Go's `http.DetectContentType` answers: the standard's tables but for MP3 without a tag, with fonts and
-- WebAssembly, WebM by four bytes, and RAR as its files are.
use Rattle.std.specs.Prelude.{◌≡◌, ℕ, List, [], ◌∷◌, ◌++◌, Option, codes, take, unwrap_or}
use Rattle.mime_sniff.specs.Rule.{Accepts, Rule, FindsFirst, mp4, no_data}
use Rattle.mime_sniff.specs.Table.{any, exact, images, markup_rules, masked, rule, same, sounds}

-- markup, with its encoding
abbrev pub markup : List Rule
markup = markup_rules (codes "text/html; charset=utf-8") (codes "text/xml; charset=utf-8")

-- documents, and marks of texts
unfoldable pub documents : List Rule
documents =
    exact (codes "%PDF-") (codes "application/pdf")
    ∷ exact (codes "%!PS-Adobe-") (codes "application/postscript")
    ∷ masked (0xFE ∷ 0xFF ∷ any 2) (same 2 ++ any 2) (codes "text/plain; charset=utf-16be")
    ∷ masked (0xFF ∷ 0xFE ∷ any 2) (same 2 ++ any 2) (codes "text/plain; charset=utf-16le")
    ∷ masked (0xEF ∷ 0xBB ∷ 0xBF ∷ any 1) (same 3 ++ any 1) (codes "text/plain; charset=utf-8")
    ∷ []

-- what is asked before MP4 of the first byte
abbrev pub earlier : List Rule
earlier = documents ++ images ++ sounds

-- WebM, and fonts for old browsers, which are told by their 35th byte
unfoldable pub between : List Rule
between =
    exact (0x1A ∷ 0x45 ∷ 0xDF ∷ 0xA3 ∷ []) (codes "video/webm")
    ∷ masked (any 34 ++ codes "LP") (any 34 ++ same 2) (codes "application/vnd.ms-fontobject")
    ∷ []

-- fonts, archives and WebAssembly
unfoldable pub later : List Rule
later =
    exact (0x00 ∷ 0x01 ∷ 0x00 ∷ 0x00 ∷ []) (codes "font/ttf")
    ∷ exact (codes "OTTO") (codes "font/otf")
    ∷ exact (codes "ttcf") (codes "font/collection")
    ∷ exact (codes "wOFF") (codes "font/woff")
    ∷ exact (codes "wOF2") (codes "font/woff2")
    ∷ exact (0x1F ∷ 0x8B ∷ 0x08 ∷ []) (codes "application/x-gzip")
    ∷ exact (codes "PK" ++ 0x03 ∷ 0x04 ∷ []) (codes "application/zip")
    ∷ exact (codes "Rar!" ++ 0x1A ∷ 0x07 ∷ 0x00 ∷ []) (codes "application/x-rar-compressed")
    ∷ exact (codes "Rar!" ++ 0x1A ∷ 0x07 ∷ 0x01 ∷ 0x00 ∷ []) (codes "application/x-rar-compressed")
    ∷ exact (0x00 ∷ codes "asm") (codes "application/wasm")
    ∷ []

-- MP4, and text
abbrev pub mp4_rule : Rule
mp4_rule = rule mp4 (codes "video/mp4")

abbrev pub text_rule : Rule
text_rule = rule no_data (codes "text/plain; charset=utf-8")

-- all of them, in order
abbrev pub rules : List Rule
rules = markup ++ earlier ++ mp4_rule ∷ between ++ later ++ text_rule ∷ []

-- the bytes that are looked at
abbrev pub header : List ℕ → List ℕ
header b = take 512 b

-- t is the type of the first rule that accepts b's header, and that of unknown bytes if none does
abbrev pub IsContentType : List ℕ → List ℕ → Type 0
IsContentType b t =
    (told : Option (List ℕ)) × FindsFirst (Accepts (header b)) rules told
    × (t ≡ unwrap_or told (codes "application/octet-stream"))
