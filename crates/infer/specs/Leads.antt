-- The first bytes that a signature allows, and the rows that can accept a buffer with a first byte.
use Rattle.std.specs.Prelude.{ℕ, suc, Bool, true, List, [], ◌∷◌, ◌||◌, ◌&&◌, ◌==◌, nat_le, IsTrue, if◌then◌else◌}
use Rattle.std.specs.List.{list_any}
use Rattle.infer_sig.specs.Laws.{lead, text_lead}
use Rattle.infer.specs.BuiltIn.{BuiltIn, fixed, avif, doc, framed, heif, html, matroska, office, pdf, ppt, xls, xml, IsAccepted}
use Rattle.infer.specs.Table.{table}

-- a byte of white space
abbrev pub is_white : ℕ → Bool
is_white f = list_any (λ c. f == c) (0x09 ∷ 0x0A ∷ 0x0C ∷ 0x0D ∷ 0x20 ∷ [])

-- the byte is one that a buffer which the signature accepts can begin with
abbrev pub allows_first : BuiltIn → ℕ → Bool
allows_first (fixed alternatives) f = lead alternatives f
allows_first pdf f = true
allows_first (matroska doc_type) f = f == 0x1A
allows_first (framed magic) f = (nat_le 0x50 f && nat_le f 0x5F) || text_lead magic f
allows_first heif f = true
allows_first avif f = true
allows_first (office folder) f = f == 0x50
allows_first doc f = f == 0xD0
allows_first xls f = f == 0xD0
allows_first ppt f = f == 0xD0
allows_first html f = is_white f || f == 0x3C
allows_first xml f = is_white f || list_any (λ c. f == c) (0x3C ∷ 0xEF ∷ 0xFE ∷ 0xFF ∷ [])

-- a buffer that the signature accepts begins with a byte that it allows there
abbrev pub Leads : BuiltIn → Type 0
Leads s = (f : ℕ) (rest : List ℕ) → IsAccepted s (f ∷ rest) → IsTrue (allows_first s f)

-- the indices from i on of the elements that pass the test, ascending
abbrev pub numbers_from : {A : Type 0} → (A → Bool) → ℕ → List A → List ℕ
numbers_from test i [] = []
numbers_from test i (x ∷ xs) = if test x then i ∷ numbers_from test (suc i) xs else numbers_from test (suc i) xs

-- the numbers of the rows whose signature allows the first byte f, ascending
unfoldable pub candidates : ℕ → List ℕ
candidates f = numbers_from (λ r. allows_first r.signature f) 0 table

-- the numbers of the rows that can accept the buffer: the candidates of its first byte, and none of the empty one
abbrev pub candidates_of : List ℕ → List ℕ
candidates_of [] = []
candidates_of (f ∷ rest) = candidates f
