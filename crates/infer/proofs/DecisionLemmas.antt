-- What a computation says of a built-in signature and a buffer.
use Rattle.infer.proofs.Common.{◌≡◌, ◌≤◌, ◌⊎◌, inl, inr, ℕ, suc, ◌+◌, ◌-◌, ◌/◌, List, [], ◌∷◌, ◌++◌, map, length, get_or, replicate, take, eqb, IsTrue, refl, sym, ap, ◌∙◌, codes, arith, append_assoc, Bool, list_any, AllByRecursion, concat, eqb-true, eq-eqb, or_left, or_right, append-nil, take_at, All-replicate, recursion_from_All, front_fits, front_reads, AllPass-from_list_all, length-append, subst, HasCompatible, IsBoxed, word_id, old_excel_id, excel_id, powerpoint_id, OccursAt, IsFrame, IsFramed, SkipsTo, le32, be32, zip_header, HasFolder, IsDecidingHeader, IsHeaderFrom, IsThirdHeader, IsOffice, BeginsWithTag, IsHtml, IsMark, IsSpace, IsXml, StandsBy, accepts, stands, BuiltIn, fixed, avif, doc, framed, heif, html, matroska, office, pdf, ppt, xls, xml, IsAccepted}
use Rattle.std.specs.Char.{to_ascii_lowercase}
use Rattle.std.proofs.Math.Seq.{get_or-append_right}
use Rattle.std.proofs.lemmas.List.Folds.{list_any-append}
use Rattle.infer_deep.proofs.PlaceLemmas.{OccursAt-begins, begins-from_OccursAt}
use Rattle.infer_sig.proofs.ClassIdLemmas.{known_class}
use Rattle.infer_sig.proofs.KnownLemmas.{Known, proved, refuted, unknown, is, at_most, same_text, refuted_if, both, either, needs, takes, ◌>>=◌, ◌>>◌}
use Rattle.infer_sig.proofs.OccurrenceLemmas.{ByPlace, lacks, lacked, nowhere_from}
use Rattle.infer_sig.proofs.OccurrenceLemmas as Place

-- ---- words of one kind, as white space and frames, and then a text

abbrev pub after : ℕ → List ℕ → List ℕ → List ℕ
after n word rest = concat (replicate n word) ++ rest

skips : (P : List ℕ → Type 0) (n : ℕ) (word rest b : List ℕ) → P word → b ≡ after n word rest → SkipsTo P b rest
skips P n word rest b h e = record { words = replicate n word; each = recursion_from_All P (replicate n word) (All-replicate P n word h); whole = e }

abbrev pub space : List ℕ
space = 0x20 ∷ []

-- a byte order mark
abbrev pub wide_mark : List ℕ
wide_mark = 0xFE ∷ 0xFF ∷ []

-- a frame of 1028 bytes
abbrev pub long_frame : List ℕ
long_frame = 0x50 ∷ 0x2A ∷ 0x4D ∷ 0x18 ∷ 0xFC ∷ 0x03 ∷ 0x00 ∷ 0x00 ∷ [] ++ replicate 1020 0x00

-- ---- text

spaced : (n : ℕ) (rest b : List ℕ) → b ≡ after n space rest → SkipsTo IsSpace b rest
spaced n rest b e = skips IsSpace n space rest b (0x20, inr (inr (inr (inr refl))), refl) e

pub spaced_html : (n : ℕ) (b : List ℕ) → b ≡ after n space (codes "<P>") → IsHtml b
spaced_html n b e =
    let tag : BeginsWithTag (codes "<P") (codes "<P>") = record { word = codes "<P"; end = 0x3E; rest = []; same = refl; closes = inr refl; whole = refl } in
    (codes "<P>", spaced n (codes "<P>") b e, (15, codes "<P", omega arith, refl, tag))

-- nothing is passed over
pub unskipped : {P : List ℕ → Type 0} (b : List ℕ) → SkipsTo P b b
unskipped b = record { words = []; each = tt; whole = refl }

-- after white space and marks comes the tag
pub tagged_xml : (b marked : List ℕ) → SkipsTo IsSpace b marked → SkipsTo IsMark marked (codes "<?xml") → IsXml b
tagged_xml b marked spaces marks = (marked, spaces, (codes "<?xml", marks, record { word = codes "<?xml"; rest = []; same = refl; whole = refl }))

pub spaced_xml : (n : ℕ) (b : List ℕ) → b ≡ after n space (codes "<?xml") → IsXml b
spaced_xml n b e = tagged_xml b (codes "<?xml") (spaced n (codes "<?xml") b e) (unskipped (codes "<?xml"))

pub marked_xml : (n : ℕ) (b : List ℕ) → b ≡ after n wide_mark (codes "<?xml") → IsXml b
marked_xml n b e = tagged_xml b b (unskipped b) (skips IsMark n wide_mark (codes "<?xml") b (inr (inl refl)) e)

-- a byte that is "<" in some case
abbrev is_opening : ℕ → Bool
is_opening x = eqb (to_ascii_lowercase x) 0x3C

-- a buffer with a word in it that begins with one has it
opens : (front word rest b : List ℕ) → b ≡ front ++ (word ++ rest) → get_or (map to_ascii_lowercase word) 0 0 ≡ 0x3C
    → IsTrue (list_any is_opening b)
opens front [] rest b e first = absurd (cc)
opens front (x ∷ word) rest b e first = grind (arith, or_left (is_opening x) (list_any is_opening (word ++ rest)) (eq-eqb (to_ascii_lowercase x) 0x3C first), eq-eqb (to_ascii_lowercase x) 0x3C first, list_any-append is_opening front (x ∷ word ++ rest), or_right (list_any is_opening front))

pub html_opens : (b : List ℕ) → IsHtml b → IsTrue (list_any is_opening b)
html_opens b (text, skips, (k, tag, l, e, h)) = grind (arith, eqb-true, AllPass-from_list_all, opens, skips)

pub xml_opens : (b : List ℕ) → IsXml b → IsTrue (list_any is_opening b)
xml_opens b (marked, spaces, (text, marks, h)) =
    let joined = append_assoc (concat spaces.words) (concat marks.words) (h.word ++ h.rest) in
    opens (concat spaces.words ++ concat marks.words) h.word h.rest b (cc) (ap (λ u. get_or u 0 0) h.same)

-- ---- frames

pub stands_whole : (text : List ℕ) → OccursAt text text 0
stands_whole text = OccursAt-begins text text [] (sym (append-nil text))

pub framed_after : ByPlace → (n : ℕ) (magic b : List ℕ) → b ≡ after n long_frame magic → IsFramed magic b
unfolding le32 stands
framed_after by_place n magic b e = grind (arith, skips, stands_whole)

le32-front : (b front rest : List ℕ) → b ≡ front ++ rest → 8 ≤ length front → le32 b 4 ≡ le32 front 4
unfolding le32
le32-front b front rest e long = omega (arith, front_reads 0 b front rest e)

-- the magic number stands first, or the buffer has a whole first frame
pub begins_framed : (magic b : List ℕ) (words : List (List ℕ)) (rest : List ℕ) → AllByRecursion IsFrame words
    → b ≡ concat words ++ (magic ++ rest) → (take (length magic) b ≡ magic) ⊎ (8 + le32 b 4 ≤ length b)
begins_framed magic b [] rest each whole = inl (ap (take (length magic)) whole ∙ take_at magic rest (length magic) refl)
begins_framed magic b (w ∷ words) rest each whole = grind (arith, append_assoc, le32-front, front_fits)

-- and it stands somewhere
pub framed_somewhere : (magic b : List ℕ) → IsFramed magic b → (p : ℕ) × OccursAt b magic p
framed_somewhere magic b (rest, s, o) =
    let front = concat s.words in
    let fits = o.fits in
    let long = length-append front rest in (
      length front,
      subst (λ u. OccursAt u magic (length front)) (sym s.whole) (record {
        fits = omega arith;
        reads = λ k lt. get_or-append_right front rest (length front + k) 0 (omega arith) ∙ ap (λ i. get_or rest i 0) (omega arith) ∙ o.reads k lt;
      }),
    )

module _ (by_place : ByPlace) (b : List ℕ) where
  abbrev pub occurs : (p : ℕ) (t : List ℕ) → Known (OccursAt b t p)
  occurs p t = Place.occurs by_place t b p

  -- it may stand at p
  abbrev stands_by : (p end : ℕ) (t : List ℕ) → Known (StandsBy t end b)
  stands_by p end t = do
    refuted_if (lacks 0 (suc (length b)) t b) (λ none (q, w). nowhere_from by_place t b 0 q w.low none w.stands)
    stands ← takes (occurs p t)
    high ← takes (at_most (p + length t) end)
    proved (p, record { stands = stands; low = omega arith; high = high })

  abbrev boxed : Known (IsBoxed b)
  boxed = do
    long ← needs (at_most 16 (length b)) (λ h. h.long)
    kind ← needs (occurs 4 (codes "ftyp")) (λ h. h.kind)
    whole ← needs (at_most (be32 b 0) (length b)) (λ h. h.whole)
    proved (record { long = long; kind = kind; whole = whole })

  -- a box of less than 20 bytes has none
  abbrev compatible : (brand : List ℕ) → Known (HasCompatible brand b)
  compatible brand = do
    room ← needs (at_most 20 (be32 b 0)) (λ (k, lt, o). omega arith)
    unknown

  abbrev folder_at : (p : ℕ) → Known (HasFolder b p)
  folder_at p = either (occurs p (codes "word/")) (either (occurs p (codes "ppt/")) (occurs p (codes "xl/")))

  abbrev header_from : (s p : ℕ) → Known (IsHeaderFrom OccursAt b s p)
  header_from s p = do
    stands ← takes (occurs p zip_header)
    low ← takes (at_most s p)
    high ← takes (at_most (p + 4) (s + 6000))
    none ← takes (is (lacks s p zip_header b))
    proved (record {
      here = record { stands = stands; low = low; high = high };
      before = λ q lt h. lacked by_place zip_header b s p q h.low lt none h.stands;
    })

  pub no_second : (folder : List ℕ) → ¬ HasFolder b 30 → IsTrue (lacks (le32 b 18 + 49) (suc (length b)) zip_header b) → ¬ IsOffice folder b
  no_second folder none e (p, d, o) = elim d.1 [
    | inl h ↦ none h.0
    | inr h ↦
        let second = h.2.1.third_found.second_found.here in
        nowhere_from by_place zip_header b (le32 b 18 + 49) h.2.1.third_found.second second.low e second.stands
  ]

  -- the third header decides, at the place where it may stand
  abbrev known_late : (second third : ℕ) (folder : List ℕ) → OccursAt b zip_header 0 → ¬ HasFolder b 30 → Known (IsOffice folder b)
  known_late second third folder zip none = do
    refuted_if (lacks (le32 b 18 + 49) (suc (length b)) zip_header b) (no_second folder none)
    name ← takes (occurs 30 (codes "[Content_Types].xml"))
    fits ← takes (at_most (le32 b 18 + 49) 0xFFFFFFFF)
    second_found ← takes (header_from (le32 b 18 + 49) second)
    third_found ← takes (header_from (second + 30) third)
    some ← takes (folder_at (third + 30))
    here ← takes (occurs (third + 30) folder)
    let found : IsThirdHeader OccursAt b third = record { second = second; start_fits = fits; second_found = second_found; third_found = third_found }
    let header : IsDecidingHeader b third = record { third = third; third_found = found; decides = inl (some, refl) }
    proved (third + 30, (zip, inr (none, inl name, (third, header, refl))), here)

  abbrev pub known : (s : BuiltIn) → Known (IsAccepted s b)
  known (fixed alternatives) = is (accepts alternatives b)
  known pdf = do
    stands_by 0 1024 (codes "%PDF")
    stands_by 1020 1024 (codes "%PDF")
  known (matroska t) = do
    long ← needs (at_most 257 (length b)) (λ h. h.0)
    begins ← needs (occurs 0 (0x1A ∷ 0x45 ∷ 0xDF ∷ 0xA3 ∷ [])) (λ h. h.1)
    there ← needs (stands_by 4 256 t) (λ h. h.2)
    proved (long, begins, there)
  known (framed magic) = do
    refuted_if (lacks 0 (suc (length b)) magic b) (λ none h. let (p, o) = framed_somewhere magic b h in nowhere_from by_place magic b 0 p (omega arith) none o)
    begins ← needs (either (same_text (take (length magic) b) magic) (at_most (8 + le32 b 4) (length b)))
        (λ (rest, s, o). begins_framed magic b s.words _ s.each (s.whole ∙ ap (λ u. concat s.words ++ u) (begins-from_OccursAt rest magic o)))
    equal ← takes (same_text b (after (length b / 1028) long_frame magic))
    proved (framed_after by_place (length b / 1028) magic b equal)
  known heif =
      both boxed (either (occurs 8 (codes "heic")) (either (occurs 8 (codes "heix"))
      (both (either (occurs 8 (codes "mif1")) (occurs 8 (codes "msf1"))) (compatible (codes "heic")))))
  known avif =
      both boxed (either (occurs 8 (codes "avif")) (either (occurs 8 (codes "avis"))
      (either (compatible (codes "avif")) (compatible (codes "avis")))))
  known (office folder) = do
    zip ← needs (occurs 0 zip_header) (λ h. h.1.0)
    elim (folder_at 30) [
      | proved some ↦ do
        here ← takes (occurs 30 folder)
        proved (30, (zip, inl (some, refl)), here)
      | refuted none ↦ known_late 1049 1079 folder zip none
      | unknown ↦ unknown
    ]
  known doc = known_class by_place b word_id
  known xls = either (known_class by_place b old_excel_id) (known_class by_place b excel_id)
  known ppt = known_class by_place b powerpoint_id
  known html = do
    some ← needs (is (list_any is_opening b)) (html_opens b)
    equal ← takes (same_text b (after (length b - 3) space (codes "<P>")))
    proved (spaced_html (length b - 3) b equal)
  known xml = do
    some ← needs (is (list_any is_opening b)) (xml_opens b)
    (do equal ← takes (same_text b (after (length b - 5) space (codes "<?xml"))); proved (spaced_xml (length b - 5) b equal))
    (do equal ← takes (same_text b (after ((length b - 5) / 2) wide_mark (codes "<?xml"))); proved (marked_xml ((length b - 5) / 2) b equal))
