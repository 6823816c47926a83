-- Brands of a boxed file: they last, and only to an open box do more bytes bring them.
use Rattle.infer_deep.proofs.Common.{◌≡◌, ◌⊎◌, Bool, false, ◌||◌, ◌↔◌, ℕ, ◌+◌, ◌-◌, ◌*◌, ◌/◌, ◌<◌, ◌≤◌, min, List, [], ◌∷◌, ◌++◌, length, refl, sym, subst, inl, inr, arith, codes, length-append, IsTrue, cases_lt, or_cases, or_left, or_right, OccursAt, are_bytes, AgreesAt, Lasts, ComesWith, IsEarly, MayBecome, box_length, IsBoxed, IsOpenBox, HasMajor, HasCompatible, MayHaveCompatible, IsHeif, IsAvif}
use Rattle.infer_deep.proofs.OpenLemmas.{Part, LieApart, AllAgree, AllStand, agrees_none, agrees_past, agrees_where_stands, fills_parts, kept, kept_agrees, kept_bytes, kept_ends, kept_numbers, grown_agrees, stands_where_whole}
use Rattle.infer_deep.proofs.PlaceLemmas.{Carries, OccursAt-append, OccursAt-front}
use Rattle.infer_deep.proofs.NumberLemmas.{be32-append}

-- the brand is one of the first n compatible ones
abbrev pub StandsBelow : List ℕ → List ℕ → ℕ → Type 0
StandsBelow b brand n = (j : ℕ) × (j < n) × OccursAt b brand (16 + 4 * j)

pub none_below : (b brand : List ℕ) → IsTrue false ↔ StandsBelow b brand 0
none_below b brand = (λ t. absurd (cc), λ (j, lt, o). absurd (omega (arith, lt)))

pub one_more_below : (b brand : List ℕ) (n : ℕ) (r s : Bool) → IsTrue r ↔ StandsBelow b brand n → IsTrue s ↔ OccursAt b brand (16 + 4 * n)
    → IsTrue (r || s) ↔ StandsBelow b brand (n + 1)
one_more_below b brand n r s before here = grind (arith, or_cases, or_left, or_right)

-- those that the buffer has whole are all that are compatible
pub compatible_below : (b brand : List ℕ) (n : ℕ) → length brand ≡ 4 → 16 ≤ length b → n ≡ min (box_length b / 4 - 4) ((length b - 16) / 4)
    → StandsBelow b brand n ↔ HasCompatible brand b
compatible_below b brand n four long is = (λ (j, lt, o). (j, grind (arith, lt), o), λ (j, lt, o). (j, grind (arith, lt, o.fits), o))

abbrev ftyp : List ℕ
ftyp = codes "ftyp"

pub IsOpenBox-early : IsEarly IsOpenBox
IsOpenBox-early b more long o = grind (arith, OccursAt-front b more ftyp 4, be32-append b more 0, length-append b more)

-- the brands of a boxed file are those of each that has the same box
module _ (b c : List ℕ) (n : ℕ) (carries : Carries n b c) (size : box_length b ≡ box_length c) (long : 12 ≤ n) (whole : box_length c ≤ n) where
  major : (brand : List ℕ) → length brand ≤ 4 → HasMajor brand b → HasMajor brand c
  major brand short o = carries brand 8 (omega arith) o

  compatible : (brand : List ℕ) → length brand ≤ 4 → HasCompatible brand b → HasCompatible brand c
  compatible brand short (k, l, o) =
      let here = subst (λ s. k < s / 4 - 4) size l in (k, here, carries brand (16 + 4 * k) (omega arith) o)

  pub IsHeif-carried : IsBoxed c → IsHeif b → IsHeif c
  IsHeif-carried box h = grind (arith, major (codes "heic"), major (codes "heix"), major (codes "mif1"), major (codes "msf1"), compatible (codes "heic"))

  pub IsAvif-carried : IsBoxed c → IsAvif b → IsAvif c
  IsAvif-carried box (_, inl o) = (box, inl (major _ (omega arith) o))
  IsAvif-carried box (_, inr (inl o)) = (box, inr (inl (major _ (omega arith) o)))
  IsAvif-carried box (_, inr (inr k)) = (box, grind (arith, compatible (codes "avif"), compatible (codes "avis")))

-- a property of boxed files that is carried so
module _ (S : List ℕ → Type 0) (boxed : (b : List ℕ) → S b → IsBoxed b) (carried : (b c : List ℕ) (n : ℕ)
    → Carries n b c → box_length b ≡ box_length c → 12 ≤ n → box_length c ≤ n → IsBoxed c → S b → S c) where
  pub boxed-lasts : Lasts S
  boxed-lasts b more x =
      let box = boxed b x in
      carried b (b ++ more) (length b) (λ text p within o. OccursAt-append b more text p o) (sym (be32-append b more 0 (omega arith))) (omega arith)
      (grind (arith, be32-append b more 0)) (grind (arith, be32-append b more 0, length-append b more, OccursAt-append b more ftyp 4)) x

  pub boxed-comes : ComesWith S IsOpenBox
  boxed-comes b more long x =
      let kind = OccursAt-front b more ftyp 4 (omega arith) (boxed (b ++ more) x).kind in
      let size = be32-append b more 0 (omega arith) in
      elim (cases_lt (length b) (box_length b)) [
        | inl l ↦ inr (record { kind = kind; longer = l })
        | inr l ↦ inl (carried (b ++ more) b (length b) (OccursAt-front b more) size (omega arith) l (record { long = omega arith; kind = kind; whole = l }) x)
      ]

-- ---- what more bytes can bring
module _ (S : List ℕ → Type 0) (b : List ℕ) (kind : AgreesAt b ftyp 4) where
  -- what more bytes make boxed with the parts, they bring, if the box states then what b states
  boxed_reached : (xs : List Part) (end : ℕ) → 16 ≤ end → box_length b ≤ end → LieApart 8 xs end → AllAgree xs b
      → ((c : List ℕ) → IsBoxed c → AllStand xs c → box_length c ≡ box_length b → S c) → MayBecome S b
  boxed_reached xs end long whole apart agree is =
      let f = fills_parts (kept b 0 4 ∷ record { place = 4; text = ftyp } ∷ xs) b 0 end
      (omega arith, kept_bytes b 0 4, (omega (arith, kept_ends), refl, apart)) (kept_agrees b 0 4, (kind, agree)) in
      let same = (kept_numbers b f.more 0 f.holds.0).1 in
      (f.more, f.bytes, is (b ++ f.more) (record { long = omega (arith, f.long); kind = f.holds.1.0; whole = omega (arith, f.long, same) }) f.holds.1.1 same)

  by_major : (brand : List ℕ) → IsTrue (are_bytes brand) → AgreesAt b brand 8 → ((c : List ℕ) → IsBoxed c → HasMajor brand c → S c) → MayBecome S b
  by_major brand bytes a is = boxed_reached (record { place = 8; text = brand } ∷ []) (16 + length brand + box_length b) (omega arith) (omega arith)
      (omega arith, bytes, omega arith) (a, tt) (λ c box s same. is c box s.0)

  by_compatible : (major brand : List ℕ) → IsTrue (are_bytes major) → length major ≤ 8 → AgreesAt b major 8 → IsTrue (are_bytes brand)
      → MayHaveCompatible brand b → ((c : List ℕ) → IsBoxed c → HasMajor major c → HasCompatible brand c → S c) → MayBecome S b
  by_compatible major brand major_bytes short m bytes (k, l, a) is =
      boxed_reached (record { place = 8; text = major } ∷ record { place = 16 + 4 * k; text = brand } ∷ []) (16 + 4 * k + length brand + box_length b)
      (omega arith) (omega arith) (omega arith, major_bytes, (omega arith, bytes, omega arith)) (m, (a, tt))
      (λ c box s same. is c box s.0 (k, subst (λ n. k < n / 4 - 4) (sym same) l, s.1.0))

-- a brand that is compatible after more bytes may be one
compatible_known : (b more brand : List ℕ) → 4 ≤ length b → HasCompatible brand (b ++ more) → MayHaveCompatible brand b
compatible_known b more brand long h4 = grind (arith, be32-append, grown_agrees)

-- a buffer that may be HEIF or AVIF, by what agrees; below four bytes everything does
abbrev pub MayBeHeif : List ℕ → Type 0
MayBeHeif b =
    AgreesAt b (codes "heic") 8 ⊎ AgreesAt b (codes "heix") 8
    ⊎ ((AgreesAt b (codes "mif1") 8 ⊎ AgreesAt b (codes "msf1") 8) × MayHaveCompatible (codes "heic") b)

pub heif_reached : (b : List ℕ) → AgreesAt b ftyp 4 → MayBeHeif b → MayBecome IsHeif b
heif_reached b kind (inl a) = by_major IsHeif b kind (codes "heic") refl a (λ c box m. (box, inl m))
heif_reached b kind (inr (inl a)) = by_major IsHeif b kind (codes "heix") refl a (λ c box m. (box, inr (inl m)))
heif_reached b kind (inr (inr h)) =
    grind (arith, by_compatible IsHeif b kind (codes "mif1") (codes "heic") refl, by_compatible IsHeif b kind (codes "msf1") (codes "heic") refl)

pub heif_known : (b : List ℕ) → MayBecome IsHeif b → AgreesAt b ftyp 4 × MayBeHeif b
heif_known b (more, bytes, (box, h)) =
    grind (arith, grown_agrees b more, agrees_past b (codes "heic") 8, compatible_known b more (codes "heic"), grown_agrees b more ftyp 4 box.kind)

abbrev pub MayBeAvif : List ℕ → Type 0
MayBeAvif b =
    AgreesAt b (codes "avif") 8 ⊎ AgreesAt b (codes "avis") 8
    ⊎ MayHaveCompatible (codes "avif") b ⊎ MayHaveCompatible (codes "avis") b

pub avif_reached : (b : List ℕ) → AgreesAt b ftyp 4 → MayBeAvif b → MayBecome IsAvif b
avif_reached b kind (inl a) = by_major IsAvif b kind (codes "avif") refl a (λ c box m. (box, inl m))
avif_reached b kind (inr (inl a)) = by_major IsAvif b kind (codes "avis") refl a (λ c box m. (box, inr (inl m)))
avif_reached b kind (inr (inr h)) =
    grind (arith, by_compatible IsAvif b kind [] (codes "avif") refl, by_compatible IsAvif b kind [] (codes "avis") refl, agrees_none b 8)

pub avif_known : (b : List ℕ) → MayBecome IsAvif b → AgreesAt b ftyp 4 × MayBeAvif b
avif_known b (more, bytes, (box, h)) =
    let known = compatible_known b more in
    grind (arith, grown_agrees b more, agrees_past b (codes "avif") 8, known (codes "avif"), known (codes "avis"), grown_agrees b more ftyp 4 box.kind)

-- of the fours only the last may be cut
pub may_have_compatible_last : (b brand : List ℕ) → 0 < box_length b / 4 - 4
    → AgreesAt b brand (12 + 4 * (box_length b / 4 - 4)) → MayHaveCompatible brand b
may_have_compatible_last b brand some a = grind (arith, box_length)

pub has_compatible_may : (b brand : List ℕ) → HasCompatible brand b → MayHaveCompatible brand b
has_compatible_may b brand (k, l, o) = (k, l, agrees_where_stands b brand (16 + 4 * k) o)

pub last_or_whole : (b brand : List ℕ) → length brand ≡ 4 → MayHaveCompatible brand b
    → AgreesAt b brand (12 + 4 * (box_length b / 4 - 4)) ⊎ HasCompatible brand b
last_or_whole b brand four h3 = grind (arith, box_length, agrees_past, stands_where_whole)
