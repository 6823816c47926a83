-- With each byte that a row allows first begins a buffer that it accepts.
use Rattle.infer.proofs.Common.{◌↔◌, ◌≡◌, ◌≤◌, ◌<◌, ◌+◌, ◌*◌, ◌⊎◌, inl, inr, ℕ, List, [], ◌∷◌, ◌++◌, length, drop, IsTrue, Option, Some, MatchOption, refl, ap, codes, arith, rules, length-append, All, replicate, slice_get, eqb-true, nat_tests, length-replicate, All-append, All-replicate, IsBoxed, OccursAt, IsFrame, IsFramed, SkipsTo, le16, le32, be32, are_bytes, MayBecome, IsHtml, IsMark, IsSpace, IsWhite, IsXml, is_sound, Alternative, stands, BuiltIn, fixed, avif, doc, framed, heif, html, matroska, office, pdf, ppt, xls, xml, IsAccepted, AllowsExactly, MayBecomeRow, Leads, allows_first, Row, sample_of, signature_of, table, ROW_COUNT}
use Rattle.std.proofs.lemmas.Option.{slice_get_within}
use Rattle.infer_deep.proofs.OpenLemmas.{bytes_from_test}
use Rattle.infer_sig.specs.Open as Fixed
use Rattle.infer.proofs.DecisionLemmas.{known, spaced_html, spaced_xml, stands_whole, tagged_xml, unskipped}
use Rattle.infer_sig.proofs.KnownLemmas.{Known, proved, unknown, is, each_known, proved_if, takes, ◌>>=◌}
use Rattle.infer_sig.proofs.OccurrenceLemmas.{ByPlace}
use Rattle.infer_sig.proofs.OccurrenceLemmas as Place
use Rattle.infer.proofs.TableLemmas.{length-table}

abbrev Begins : BuiltIn → Type 0
Begins s = (f : ℕ) → f < 256 → IsTrue (allows_first s f) → MayBecome (IsAccepted s) (f ∷ [])

-- where one byte alone is allowed, by a buffer that begins with it
by_sample : (s : BuiltIn) (first : ℕ) (rest : List ℕ) → IsTrue (are_bytes rest) → IsAccepted s (first ∷ rest)
    → ((f : ℕ) → IsTrue (allows_first s f) → f ≡ first) → Begins s
by_sample s first rest bytes accepted only f lt h = grind (arith, nat_tests, bytes_from_test)

-- ---- a word before a buffer

spaced_before : (f : ℕ) (b rest : List ℕ) → IsWhite f → SkipsTo IsSpace b rest → SkipsTo IsSpace (f ∷ b) rest
spaced_before f b rest white skips = record {
  words = (f ∷ []) ∷ skips.words;
  each = ((f, white, refl), skips.each);
  whole = ap (λ u. f ∷ u) skips.whole;
}

html_before : (f : ℕ) (b : List ℕ) → IsWhite f → IsHtml b → IsHtml (f ∷ b)
html_before f b white (text, skips, tag) = (text, spaced_before f b text white skips, tag)

xml_before : (f : ℕ) (b : List ℕ) → IsWhite f → IsXml b → IsXml (f ∷ b)
xml_before f b white (marked, spaces, text) = (marked, spaced_before f b marked white spaces, text)

marked_before : (mark : List ℕ) → IsMark mark → IsXml (mark ++ codes "<?xml")
marked_before mark kind =
    tagged_xml (mark ++ codes "<?xml") _ (unskipped _) (record { words = mark ∷ []; each = (kind, tt); whole = search rules })

html_begins : Begins html
html_begins f lt h = grind (arith, nat_tests, bytes_from_test (codes "<P>") refl, html_before f (codes "<P>"), spaced_html 0 (codes "<P>") refl, bytes_from_test (codes "P>") refl)

xml_begins : Begins xml
xml_begins f lt h =
    let mark : (m : List ℕ) → IsMark m → IsXml (m ++ codes "<?xml") = marked_before in
    search (
      rules,
      bytes_from_test,
      xml_before f (codes "<?xml"),
      spaced_xml 0 (codes "<?xml") refl,
      mark (0xEF ∷ 0xBB ∷ 0xBF ∷ []),
      mark (0xFE ∷ 0xFF ∷ []),
      mark (0xFF ∷ 0xFE ∷ []),
    )

module _ (by_place : ByPlace) where
  pdf_begins : Begins pdf
  unfolding stands
  pdf_begins f lt h =
      let b : List ℕ = f ∷ codes "%PDF" in
      (codes "%PDF", bytes_from_test (codes "%PDF") refl, (1, record { stands = Place.found by_place (codes "%PDF") b 1 refl; low = omega arith; high = omega arith }))

  framed_begins : (x : ℕ) (magic : List ℕ) → IsTrue (are_bytes magic) → IsTrue (are_bytes (x ∷ magic)) → Begins (framed (x ∷ magic))
  unfolding stands le32
  framed_begins x magic bytes all f lt h =
      let byte : (f ≡ x) ⊎ ((0x50 ≤ f) × (f ≤ 0x5F)) = grind (arith, nat_tests) in
      elim byte [
        | inl e ↦
            let framed_so : IsFramed (x ∷ magic) (x ∷ magic) = (x ∷ magic, unskipped (x ∷ magic), stands_whole (x ∷ magic)) in
            (magic, bytes_from_test magic bytes, rw e framed_so)
        | inr range ↦
            let frame : List ℕ = f ∷ 0x2A ∷ 0x4D ∷ 0x18 ∷ 0x00 ∷ 0x00 ∷ 0x00 ∷ 0x00 ∷ [] in
            let is_frame : IsFrame frame = record {
              begins = record { low = range.0; high = range.1; mark = Place.found by_place (0x2A ∷ 0x4D ∷ 0x18 ∷ []) frame 1 refl };
              sized = refl;
            } in
            let rest : List ℕ = drop 1 frame ++ (x ∷ magic) in
            (rest, bytes_from_test rest all, (x ∷ magic, record { words = frame ∷ []; each = (is_frame, tt); whole = refl }, stands_whole (x ∷ magic)))
      ]

  -- a box whose stated length begins with the byte
  module _ (f : ℕ) (brand : List ℕ) where
    rest_of_box : List ℕ
    rest_of_box = (0x00 ∷ 0x00 ∷ 0x10 ∷ codes "ftyp" ++ brand) ++ replicate (4 + 16777216 * f) 0x00

    box_length : length brand ≡ 4 → length (f ∷ rest_of_box) ≡ 16 + 16777216 * f
    unfolding rest_of_box
    box_length four = grind (arith, nat_tests, length-append, length-replicate)

    box_reads : (t : List ℕ) (p : ℕ) → length brand ≡ 4 → p + length t ≤ 16 → IsTrue (stands p t (f ∷ rest_of_box)) → OccursAt (f ∷ rest_of_box) t p
    box_reads t p four fits h = grind (arith, nat_tests, box_length)

    boxed : length brand ≡ 4 → IsBoxed (f ∷ rest_of_box)
    unfolding rest_of_box stands be32
    boxed four = grind (arith, nat_tests, box_length, box_reads)

    box_bytes : IsTrue (are_bytes brand) → All (λ x. x < 256) rest_of_box
    unfolding rest_of_box
    box_bytes h = search (rules, All-append, bytes_from_test (0x00 ∷ 0x00 ∷ 0x10 ∷ codes "ftyp" ++ brand) h, All-replicate)

  heif_begins : Begins heif
  unfolding rest_of_box stands
  heif_begins f lt h =
      let brand = codes "heic" in
      (rest_of_box f brand, box_bytes f brand refl, (boxed f brand refl, inl (box_reads f brand brand 8 refl (omega arith) refl)))

  avif_begins : Begins avif
  unfolding rest_of_box stands
  avif_begins f lt h =
      let brand = codes "avif" in
      (rest_of_box f brand, box_bytes f brand refl, (boxed f brand refl, inl (box_reads f brand brand 8 refl (omega arith) refl)))

  -- where one byte alone is allowed, by the sample
  abbrev sampled : (s : BuiltIn) (first : ℕ) → ((f : ℕ) → IsTrue (allows_first s f) → f ≡ first) → Known (Begins s)
  sampled s first only = do
    bytes ← takes (is (are_bytes (drop 1 (sample_of s))))
    accepted ← takes (known by_place (first ∷ drop 1 (sample_of s)) s)
    proved (by_sample s first (drop 1 (sample_of s)) bytes accepted only)

module _ (by_place : ByPlace) (begins : (s : List Alternative) → IsTrue (is_sound s) → Fixed.Begins s) where
  abbrev known_begins : (s : BuiltIn) → Known (Begins s)
  known_begins (fixed alternatives) = proved_if (is_sound alternatives) (λ sound f lt h. begins alternatives sound f h)
  known_begins pdf = proved (pdf_begins by_place)
  known_begins (matroska t) = sampled by_place (matroska t) 0x1A (λ f h. eqb-true f 0x1A h)
  known_begins (framed []) = unknown
  known_begins (framed (x ∷ magic)) = do
    bytes ← takes (is (are_bytes magic))
    all ← takes (is (are_bytes (x ∷ magic)))
    proved (framed_begins by_place x magic bytes all)
  known_begins heif = proved (heif_begins by_place)
  known_begins avif = proved (avif_begins by_place)
  known_begins (office folder) = sampled by_place (office folder) 0x50 (λ f h. eqb-true f 0x50 h)
  known_begins doc = sampled by_place doc 0xD0 (λ f h. eqb-true f 0xD0 h)
  known_begins xls = sampled by_place xls 0xD0 (λ f h. eqb-true f 0xD0 h)
  known_begins ppt = sampled by_place ppt 0xD0 (λ f h. eqb-true f 0xD0 h)
  known_begins html = proved html_begins
  known_begins xml = proved xml_begins

  row_begins : (i : ℕ) → i < ROW_COUNT → Begins (signature_of i)
  unfolding signature_of table stands le16 le32 be32
  row_begins = each_known (λ i. known_begins (signature_of i)) ROW_COUNT 8 (refl, (refl, (refl, (refl, (refl, (refl, (refl, (refl, tt)))))))) (omega arith)

  allows_at : ((s : BuiltIn) → Leads s) → (f : ℕ) → f < 256 → (o : Option (Row BuiltIn)) → ((r : Row BuiltIn) → o ≡ Some r → Begins r.signature)
      → MatchOption o ⊥ (λ r. IsTrue (allows_first r.signature f)) ↔ MatchOption o ⊥ (MayBecomeRow (f ∷ []))
  allows_at leads f lt o begins_so = grind (arith)

  pub allows_exactly : ((s : BuiltIn) → Leads s) → AllowsExactly
  unfolding signature_of
  allows_exactly leads f i lt =
      allows_at leads f lt (slice_get table i) (λ r e. rw e at (row_begins i (omega (arith, length-table, slice_get_within table i r e))))
