-- Rows of the standard that are signatures of the library.
use Rattle.std.proofs.Common.{◌≡◌, ◌∙◌, ◌↔◌, inl, inr, ◌==◌, ◌&&◌, ◌||◌, ℕ, zero, suc, ◌+◌, ◌-◌, ◌<◌, ◌≤◌, ◌%◌, Any, Bool, true, false, IsTrue, List, [], ◌∷◌, ◌++◌, ap, arith, bit_and, codes, get_or, length, nat_le, refl, subst, sym}
use Rattle.std.proofs.lemmas.Bool.{and_parts, cases_lt, eqb-true, false≢true, le-leb, leb-true}
use Rattle.std.proofs.lemmas.Grind.{and_numeral}
use Rattle.std.specs.Int.Bits.{and_zero_r}
use Rattle.infer_deep.specs.Text.{IsHtml}
use Rattle.infer_sig.specs.Archive.{gz}
use Rattle.infer_sig.specs.Audio.{aiff, wav}
use Rattle.infer_sig.specs.Image.{bmp, jpeg}
use Rattle.infer_sig.specs.Signature.{accepts, at_least, stands, text}
use Rattle.infer_sig.proofs.PlaceLemmas.{stands_by_place}
use Rattle.mime_sniff.specs.Laws.{of_type}
use Rattle.mime_sniff.specs.Row.{Fits, Pattern, mask_at}
use Rattle.mime_sniff.specs.Rule.{Accepts, Rule}
use Rattle.mime_sniff.specs.Standard.{archives, markup}
use Rattle.mime_sniff.specs.Table.{any, exact, images, masked, same, sounds, tag_rules, xml_rules}
use Rattle.mime_sniff.proofs.TagLemmas.{and_both, below, below_at, html_accepts, or_left}

-- one rule
any_one : (P : Rule → Type 0) (r : Rule) → Any P (r ∷ []) ↔ P r
any_one P r = (λ h. one h, λ p. (0, r, omega arith, refl, p))
  where
    one : Any P (r ∷ []) → P r
    one (zero, x, within, at, p) = subst P (sym at) p
    one (suc k, x, within, at, p) = absurd (omega (arith, within))

-- one alternative
accepted : (a : Bool) → IsTrue (a || false) ↔ IsTrue a
accepted true = (λ e. refl, λ e. refl)
accepted false = (λ e. e, λ e. e)

one_of_four : (Q : ℕ → Type 0) → Q 4 → Q 5 → Q 6 → Q 7 → (i : ℕ) → 4 ≤ i → i < 8 → Q i
one_of_four Q a b c d i from to =
    elim (cases_lt i 5) [
      | inl l ↦ let e : 4 ≡ i = omega (arith, from, l) in subst Q e a
      | inr m ↦ elim (cases_lt i 6) [
        | inl l ↦ let e : 5 ≡ i = omega (arith, m, l) in subst Q e b
        | inr n ↦ elim (cases_lt i 7) [
          | inl l ↦ let e : 6 ≡ i = omega (arith, n, l) in subst Q e c
          | inr o ↦ let e : 7 ≡ i = omega (arith, o, to) in subst Q e d
        ]
      ]
    ]

whole_byte : (x : ℕ) → x < 256 → bit_and x 0xFF ≡ x
whole_byte x within = let small : x % 256 ≡ x = omega (arith, within) in and_numeral x 254 refl ∙ small

module _ (b : List ℕ) (bytes : (i : ℕ) → get_or b i 0 < 256) (p : Pattern) where
  -- the row asks for the text at the place
  abbrev asks : ℕ → List ℕ → Bool
  asks place t =
      nat_le (place + length t) (length p.bytes)
      && below (length t) (λ k. mask_at p.mask (place + k) == 0xFF && (get_or p.bytes (place + k) 0 == get_or t k 0))

  text_stands : (place : ℕ) (t : List ℕ) → asks place t ≡ true → Fits p b → stands place t b ≡ true
  text_stands place t is f =
      let parts = and_parts (nat_le (place + length t) (length p.bytes))
      (below (length t) (λ k. mask_at p.mask (place + k) == 0xFF && (get_or p.bytes (place + k) 0 == get_or t k 0))) is in
      let fits = leb-true (place + length t) (length p.bytes) parts.0 in
      (stands_by_place place t b).1 (λ k within.
      let asked = and_parts (mask_at p.mask (place + k) == 0xFF) (get_or p.bytes (place + k) 0 == get_or t k 0)
      (below_at (length t) (λ j. mask_at p.mask (place + j) == 0xFF && (get_or p.bytes (place + j) 0 == get_or t j 0)) parts.1 k within) in
      let all : mask_at p.mask (place + k) ≡ 0xFF = eqb-true _ _ asked.0 in
      let here : place + k < length p.bytes = omega (arith, fits, within) in (
        omega (arith, here, f.long),
        sym (ap (bit_and (get_or b (place + k) 0)) all ∙ whole_byte (get_or b (place + k) 0) (bytes (place + k)))
            ∙ (f.same (place + k) here ∙ eqb-true _ _ asked.1),
      ))

  -- a byte of the text has the bits
  text_has : (place : ℕ) (t : List ℕ) → asks place t ≡ true → stands place t b ≡ true → (i : ℕ) → place ≤ i → i < place + length t
      → bit_and (get_or b i 0) (mask_at p.mask i) ≡ get_or p.bytes i 0
  text_has place t is stand i from to =
      let k = i - place in
      let at : place + k ≡ i = omega (arith, from) in
      let within : k < length t = omega (arith, from, to) in
      let parts = and_parts (nat_le (place + length t) (length p.bytes))
      (below (length t) (λ j. mask_at p.mask (place + j) == 0xFF && (get_or p.bytes (place + j) 0 == get_or t j 0))) is in
      let asked = and_parts (mask_at p.mask (place + k) == 0xFF) (get_or p.bytes (place + k) 0 == get_or t k 0)
      (below_at (length t) (λ j. mask_at p.mask (place + j) == 0xFF && (get_or p.bytes (place + j) 0 == get_or t j 0)) parts.1 k within) in
      let read = ((stands_by_place place t b).0 stand k within).1 in
      subst (λ j. bit_and (get_or b j 0) (mask_at p.mask j) ≡ get_or p.bytes j 0) at
      (ap (bit_and (get_or b (place + k) 0)) (eqb-true _ _ asked.0)
      ∙ (whole_byte (get_or b (place + k) 0) (bytes (place + k)) ∙ (read ∙ sym (eqb-true _ _ asked.1))))

  module _ (plain : p.ends_tag ≡ false) where
    no_tag : (P : Type 0) → p.ends_tag ≡ true → P
    no_tag P e = absurd (false≢true (sym plain ∙ e))

    -- a row of one text
    pub one_text : (t : List ℕ) → asks 0 t ≡ true → length p.bytes ≡ length t → Fits p b ↔ IsTrue (accepts (at_least (length t) (text 0 t ∷ []) ∷ []) b)
    one_text t is size = (
      λ f. or_left _ _ (and_both (nat_le (length t) (length b)) _ (le-leb _ _ (omega (arith, f.long, size))) (and_both (stands 0 t b) true (text_stands 0 t is f) refl)),
      λ a.
          let parts = and_parts (nat_le (length t) (length b)) (stands 0 t b && true) ((accepted (nat_le (length t) (length b) && (stands 0 t b && true))).0 a) in
          let long = leb-true (length t) (length b) parts.0 in
          let stand = (and_parts (stands 0 t b) true parts.1).0 in
          record {
            long = omega (arith, long, size);
            same = λ i within. text_has 0 t is stand i (omega arith) (omega (arith, within, size));
            ends = λ e. no_tag _ e;
          },
    )

    -- a row of two, between which four bytes may be any
    abbrev is_hole : ℕ → Bool
    is_hole i = mask_at p.mask i == 0 && (get_or p.bytes i 0 == 0)

    pub two_texts : (s t : List ℕ) → asks 0 s ≡ true → asks 8 t ≡ true → (is_hole 4 && (is_hole 5 && (is_hole 6 && is_hole 7))) ≡ true → length s ≡ 4 → length t ≡ 4
        → length p.bytes ≡ 12 → Fits p b ↔ IsTrue (accepts (at_least 12 (text 0 s ∷ text 8 t ∷ []) ∷ []) b)
    two_texts s t first last holes four also size = (
      λ f. or_left _ _
          (and_both (nat_le 12 (length b)) _ (le-leb _ _ (omega (arith, f.long, size)))
          (and_both (stands 0 s b) _ (text_stands 0 s first f) (and_both (stands 8 t b) true (text_stands 8 t last f) refl))),
      λ a.
          let parts = and_parts (nat_le 12 (length b)) (stands 0 s b && (stands 8 t b && true))
          ((accepted (nat_le 12 (length b) && (stands 0 s b && (stands 8 t b && true)))).0 a) in
          let long = leb-true 12 (length b) parts.0 in
          let texts = and_parts (stands 0 s b) (stands 8 t b && true) parts.1 in
          let after = (and_parts (stands 8 t b) true texts.1).0 in
          record {
            long = omega (arith, long, size);
            same = λ i within. elim (cases_lt i 4) [
              | inl less ↦ text_has 0 s first texts.0 i (omega arith) (omega (arith, less, four))
              | inr more ↦ elim (cases_lt i 8) [
                | inl less ↦ hole i more less
                | inr far ↦ text_has 8 t last after i far (omega (arith, within, size, also))
              ]
            ];
            ends = λ e. no_tag _ e;
          },
    )
      where
        empty : (i : ℕ) → is_hole i ≡ true → bit_and (get_or b i 0) (mask_at p.mask i) ≡ get_or p.bytes i 0
        empty i is =
            let parts = and_parts (mask_at p.mask i == 0) (get_or p.bytes i 0 == 0) is in
            ap (bit_and (get_or b i 0)) (eqb-true _ _ parts.0) ∙ (no_bits (get_or b i 0) ∙ sym (eqb-true _ _ parts.1))
          where
            no_bits : (x : ℕ) → bit_and x 0 ≡ 0
            no_bits x = and_zero_r x

        hole : (i : ℕ) → 4 ≤ i → i < 8 → bit_and (get_or b i 0) (mask_at p.mask i) ≡ get_or p.bytes i 0
        hole i from to =
            let one = and_parts (is_hole 4) (is_hole 5 && (is_hole 6 && is_hole 7)) holes in
            let two = and_parts (is_hole 5) (is_hole 6 && is_hole 7) one.1 in
            let three = and_parts (is_hole 6) (is_hole 7) two.1 in
            empty i (one_of_four (λ j. is_hole j ≡ true) one.0 two.0 three.0 three.1 i from to)

bmp_rules : of_type (codes "image/bmp") images ≡ exact (codes "BM") (codes "image/bmp") ∷ []
unfolding images
bmp_rules = refl

jpeg_rules : of_type (codes "image/jpeg") images ≡ exact (0xFF ∷ 0xD8 ∷ 0xFF ∷ []) (codes "image/jpeg") ∷ []
unfolding images
jpeg_rules = refl

aiff_rules : of_type (codes "audio/aiff") sounds ≡ masked (codes "FORM" ++ any 4 ++ codes "AIFF") (same 4 ++ any 4 ++ same 4) (codes "audio/aiff") ∷ []
unfolding sounds
aiff_rules = refl

wav_rules : of_type (codes "audio/wave") sounds ≡ masked (codes "RIFF" ++ any 4 ++ codes "WAVE") (same 4 ++ any 4 ++ same 4) (codes "audio/wave") ∷ []
unfolding sounds
wav_rules = refl

gz_rules : of_type (codes "application/x-gzip") archives ≡ exact (0x1F ∷ 0x8B ∷ 0x08 ∷ []) (codes "application/x-gzip") ∷ []
unfolding archives
gz_rules = refl

html_rules : of_type (codes "text/html") markup ≡ tag_rules (codes "text/html")
unfolding tag_rules xml_rules
html_rules = refl

abbrev pattern_of : List ℕ → List ℕ → Pattern
pattern_of bytes mask = record { bytes = bytes; mask = mask; ignores_white = false; ends_tag = false }

module _ (b : List ℕ) (bytes : (i : ℕ) → get_or b i 0 < 256) where
  alone : (rules : List Rule) (r : Rule) (X : Type 0) → rules ≡ r ∷ [] → Accepts b r ↔ X → Any (Accepts b) rules ↔ X
  alone rules r X is h =
      subst (λ rs. Any (Accepts b) rs ↔ X) (sym is) (λ a. h.0 ((any_one (Accepts b) r).0 a), λ x. (any_one (Accepts b) r).1 (h.1 x))

  pub shares_bmp : Any (Accepts b) (of_type (codes "image/bmp") images) ↔ IsTrue (accepts bmp b)
  shares_bmp = alone _ _ _ bmp_rules (one_text b bytes (pattern_of (codes "BM") []) refl (codes "BM") refl refl)

  pub shares_jpeg : Any (Accepts b) (of_type (codes "image/jpeg") images) ↔ IsTrue (accepts jpeg b)
  shares_jpeg =
      alone _ _ _ jpeg_rules (one_text b bytes (pattern_of (0xFF ∷ 0xD8 ∷ 0xFF ∷ []) []) refl (0xFF ∷ 0xD8 ∷ 0xFF ∷ []) refl refl)

  pub shares_gz : Any (Accepts b) (of_type (codes "application/x-gzip") archives) ↔ IsTrue (accepts gz b)
  shares_gz =
      alone _ _ _ gz_rules (one_text b bytes (pattern_of (0x1F ∷ 0x8B ∷ 0x08 ∷ []) []) refl (0x1F ∷ 0x8B ∷ 0x08 ∷ []) refl refl)

  pub shares_aiff : Any (Accepts b) (of_type (codes "audio/aiff") sounds) ↔ IsTrue (accepts aiff b)
  shares_aiff =
      alone _ _ _ aiff_rules
      (two_texts b bytes (pattern_of (codes "FORM" ++ any 4 ++ codes "AIFF") (same 4 ++ any 4 ++ same 4)) refl (codes "FORM") (codes "AIFF") refl refl refl refl refl refl)

  pub shares_wav : Any (Accepts b) (of_type (codes "audio/wave") sounds) ↔ IsTrue (accepts wav b)
  shares_wav =
      alone _ _ _ wav_rules
      (two_texts b bytes (pattern_of (codes "RIFF" ++ any 4 ++ codes "WAVE") (same 4 ++ any 4 ++ same 4)) refl (codes "RIFF") (codes "WAVE") refl refl refl refl refl refl)

  pub shares_html : Any (Accepts b) (of_type (codes "text/html") markup) ↔ IsHtml b
  shares_html = subst (λ rs. Any (Accepts b) rs ↔ IsHtml b) (sym html_rules) (html_accepts b bytes (codes "text/html"))
