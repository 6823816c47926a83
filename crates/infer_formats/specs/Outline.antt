-- What several relations have in common at fixed places.
use Rattle.std.specs.Prelude.{ℕ, zero, suc, ◌+◌, ◌%◌, List, [], ◌∷◌, length, replicate}
use Rattle.infer_deep.specs.Office.{zip_header}
use Rattle.infer_sig.specs.Signature as fixed
use Rattle.infer_sig.specs.Signature.{all_but, any_of, at_least, between, byte, text}

-- a ZIP archive whose first entry has a name that begins with the text
abbrev pub named : List ℕ → fixed.Alternative
named name = at_least 30 (text 0 zip_header ∷ text 30 name ∷ [])

-- one whose number in the two bytes at the place is not 0
abbrev pub counted : ℕ → List fixed.Alternative
counted place =
    at_least 30 (text 0 zip_header ∷ byte place (all_but 0x00) ∷ []) ∷ at_least 30 (text 0 zip_header ∷ byte (place + 1) (all_but 0x00) ∷ []) ∷ []

-- one whose number in the two bytes at the place is not 0, or any if the text that it counts is empty
abbrev pub counted_for : List ℕ → ℕ → List fixed.Alternative
counted_for [] place = at_least 30 (text 0 zip_header ∷ []) ∷ []
counted_for (x ∷ t) place = counted place

-- n spaces and a digit, from 148 on; n, and each up to n + m - 1
abbrev pub digit_after : ℕ → fixed.Alternative
digit_after n = at_least 512 (text 148 (replicate n 0x20) ∷ byte (148 + n) (between 0x30 0x37) ∷ [])

abbrev pub digits_after : ℕ → ℕ → List fixed.Alternative
digits_after n zero = []
digits_after n (suc m) = digit_after n ∷ digits_after (suc n) m

-- a byte order mark, white space or "<" first
abbrev pub markup_lines : List fixed.Alternative
markup_lines =
    at_least 1 (byte 0 (any_of (0x09 ∷ 0x0A ∷ 0x0D ∷ 0x20 ∷ 0x3C ∷ [])) ∷ []) ∷ at_least 3 (text 0 (0xEF ∷ 0xBB ∷ 0xBF ∷ []) ∷ []) ∷ []

-- the text or a byte order mark first
abbrev pub first_lines : List ℕ → List fixed.Alternative
first_lines t = at_least (length t) (text 0 t ∷ []) ∷ at_least 3 (text 0 (0xEF ∷ 0xBB ∷ 0xBF ∷ []) ∷ []) ∷ []

-- a byte order mark, white space or a bracket first
abbrev pub json_outline : List fixed.Alternative
json_outline =
    at_least 1 (byte 0 (any_of (0x09 ∷ 0x0A ∷ 0x0D ∷ 0x20 ∷ 0x5B ∷ 0x7B ∷ [])) ∷ []) ∷ at_least 3 (text 0 (0xEF ∷ 0xBB ∷ 0xBF ∷ []) ∷ []) ∷ []

-- a byte order mark, white space or the bracket of an object first
abbrev pub object_outline : List fixed.Alternative
object_outline =
    at_least 1 (byte 0 (any_of (0x09 ∷ 0x0A ∷ 0x0D ∷ 0x20 ∷ 0x7B ∷ [])) ∷ []) ∷ at_least 3 (text 0 (0xEF ∷ 0xBB ∷ 0xBF ∷ []) ∷ []) ∷ []

-- the first entry of a ZIP archive with the text after its header, and the low byte of its length at the place
abbrev pub model_entry : ℕ → List ℕ → fixed.Alternative
model_entry place t = at_least (30 + length t) (text 0 zip_header ∷ text place (length t % 256 ∷ []) ∷ text 30 t ∷ [])

-- the beginning of a TIFF file, whose numbers have the lowest byte first or the highest
abbrev pub tiff_lines : List fixed.Alternative
tiff_lines = at_least 4 (text 0 (0x49 ∷ 0x49 ∷ 0x2A ∷ 0x00 ∷ []) ∷ []) ∷ at_least 4 (text 0 (0x4D ∷ 0x4D ∷ 0x00 ∷ 0x2A ∷ []) ∷ []) ∷ []
