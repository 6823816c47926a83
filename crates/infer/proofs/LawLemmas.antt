-- The laws of all matchers, from those of every signature.
use Rattle.infer.proofs.Common.{accepts, IsAccepted, ◌≡◌, ◌<◌, ℕ, List, length, get_or, refl, ◌⊎◌, sym, ◌∙◌, arith, IsTrue, Alternative, BuiltIn, fixed, avif, doc, framed, heif, html, matroska, office, pdf, ppt, xls, xml, signatures, is_far_row, Lasts, IsNear, OthersAreNear, signature_of, table, MATCHER_COUNT}
use Rattle.infer_sig.specs.Laws as Fixed
use Rattle.infer_deep.specs.Laws as Deep
use Rattle.infer_sig.proofs.KnownLemmas.{Known, proved, unknown, is, either, each_known, proved_if}

pub length_signatures : length signatures ≡ MATCHER_COUNT
unfolding signatures table
length_signatures = refl

pub every_lasts : ((s : List Alternative) → Lasts (λ b. IsTrue (accepts s b))) → Deep.Growth → (s : BuiltIn) → Lasts (IsAccepted s)
every_lasts fixed_last deep_last (fixed alternatives) = fixed_last alternatives
every_lasts fixed_last deep_last pdf = deep_last.pdf
every_lasts fixed_last deep_last (matroska doc_type) = deep_last.matroska doc_type
every_lasts fixed_last deep_last (framed magic) = deep_last.framed magic
every_lasts fixed_last deep_last heif = deep_last.heif
every_lasts fixed_last deep_last avif = deep_last.avif
every_lasts fixed_last deep_last (office folder) = deep_last.office folder
every_lasts fixed_last deep_last doc = deep_last.doc
every_lasts fixed_last deep_last xls = deep_last.xls
every_lasts fixed_last deep_last ppt = deep_last.ppt
every_lasts fixed_last deep_last html = deep_last.html
every_lasts fixed_last deep_last xml = deep_last.xml

module _ (fixed_near : (n : ℕ) (s : List Alternative) → IsTrue (Fixed.is_within n s) → Fixed.DependsOnFront n s) (deep_near : Deep.Near) where
  -- whether the first 1024 bytes decide
  abbrev pub known_near : (s : BuiltIn) → Known (IsNear (IsAccepted s))
  known_near (fixed alternatives) = proved_if (Fixed.is_within 1024 alternatives) (λ within buf long.
      let same = fixed_near 1024 alternatives within buf in (λ yes. same ∙ yes, λ yes. sym same ∙ yes))
  known_near pdf = proved deep_near.pdf
  known_near (matroska doc_type) = proved (deep_near.matroska doc_type)
  known_near s = unknown

  -- matcher m is that of a far row, or they do
  abbrev is_decided : (d : BuiltIn) (m : ℕ) → Known (IsTrue (is_far_row m) ⊎ IsNear (IsAccepted (get_or signatures m d)))
  is_decided d m = either (is (is_far_row m)) (known_near (get_or signatures m d))

  all_decided : (d : BuiltIn) (m : ℕ) → m < MATCHER_COUNT → IsTrue (is_far_row m) ⊎ IsNear (IsAccepted (get_or signatures m d))
  unfolding signatures table is_far_row signature_of
  all_decided d = each_known (is_decided d) MATCHER_COUNT 8 (refl, (refl, (refl, (refl, (refl, (refl, (refl, (refl, tt)))))))) (omega arith)

  pub others_near : OthersAreNear signatures
  others_near m lt out d = let known = all_decided d m (omega (arith, lt, length_signatures)) in grind arith
