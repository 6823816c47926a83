-- With which bytes a buffer begins that a built-in signature accepts.
use Rattle.infer.proofs.Common.{◌≡◌, ◌≤◌, ◌⊎◌, inl, inr, List, [], ◌∷◌, refl, arith, leb, ◌&&◌, true, eq-eqb, or_right, nat_tests, Alternative, BuiltIn, fixed, avif, doc, framed, heif, html, matroska, office, pdf, ppt, xls, xml, Leads, IsWhite}
use Rattle.infer_sig.specs.Laws as Fixed
use Rattle.infer_deep.specs.Laws as Deep

pub every_leads : ((s : List Alternative) → Fixed.Leads s) → Deep.Leads → (s : BuiltIn) → Leads s
every_leads fixed_lead deep (fixed alternatives) f rest h = fixed_lead alternatives f rest h
every_leads fixed_lead deep pdf f rest h = refl
every_leads fixed_lead deep (matroska doc_type) f rest h = eq-eqb f 0x1A (deep.matroska doc_type (f ∷ rest) h)
every_leads fixed_lead deep (framed []) f rest h = or_right (leb 0x50 f && leb f 0x5F) true refl
every_leads fixed_lead deep (framed (x ∷ magic)) f rest h =
    let byte : (f ≡ x) ⊎ ((0x50 ≤ f) × (f ≤ 0x5F)) = deep.framed x magic (f ∷ rest) h in grind (arith, nat_tests)
every_leads fixed_lead deep heif f rest h = refl
every_leads fixed_lead deep avif f rest h = refl
every_leads fixed_lead deep (office folder) f rest h = eq-eqb f 0x50 (deep.office folder (f ∷ rest) h)
every_leads fixed_lead deep doc f rest h = eq-eqb f 0xD0 (deep.class_id _ (f ∷ rest) h)
every_leads fixed_lead deep xls f rest (inl h) = eq-eqb f 0xD0 (deep.class_id _ (f ∷ rest) h)
every_leads fixed_lead deep xls f rest (inr h) = eq-eqb f 0xD0 (deep.class_id _ (f ∷ rest) h)
every_leads fixed_lead deep ppt f rest h = eq-eqb f 0xD0 (deep.class_id _ (f ∷ rest) h)
every_leads fixed_lead deep html f rest h =
    let byte : IsWhite f ⊎ (f ≡ 0x3C) = deep.html (f ∷ rest) h in grind (arith, nat_tests)
every_leads fixed_lead deep xml f rest h =
    let byte : IsWhite f ⊎ (f ≡ 0x3C) ⊎ (f ≡ 0xEF) ⊎ (f ≡ 0xFE) ⊎ (f ≡ 0xFF) = deep.xml (f ∷ rest) h in grind (arith, nat_tests)
