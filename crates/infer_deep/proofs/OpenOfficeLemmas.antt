-- Which documents of Office more bytes can make of a buffer.
use Rattle.infer_deep.proofs.Common.{IsTrue, ◌≡◌, ◌↔◌, ◌⊎◌, inl, inr, ℕ, ◌+◌, ◌<◌, ◌≤◌, List, [], ◌∷◌, ◌++◌, length, get_or_past, refl, subst, arith, codes, cases_lt, OccursAt, le32, are_bytes, AgreesAt, MayBecome, zip_header, IsFolder, HasFolder, HasOfficeName, IsHeaderFrom, IsThirdHeader, DecidesAfter, MayDecideAfter, MayDecide, IsDecidingHeader, IsOffice}
use Rattle.infer_deep.proofs.NumberLemmas.{le32-append}
use Rattle.infer_deep.proofs.PlaceLemmas.{OccursAt-first, OccursAt-front}
use Rattle.infer_deep.proofs.OfficeLemmas.{HasFolder-append, IsThirdHeader-one}
use Rattle.infer_deep.proofs.OpenLemmas.{AllAgree, AllStand, LieApart, Part, agrees_past, fills_parts, first_open, first_stands, first_where_whole, grown_agrees, kept, kept_agrees, kept_bytes, kept_ends, kept_reads}

-- ---- folders and names

folder_stands : (c f : List ℕ) (p : ℕ) → IsFolder f → OccursAt c f p → HasFolder c p
folder_stands c f p is o = grind arith

folder_bytes : (f : List ℕ) → IsFolder f → IsTrue (are_bytes f)
folder_bytes f is = grind arith

-- a name excludes a folder
no_folder_at_name : (b : List ℕ) → HasOfficeName OccursAt b → ¬ HasFolder b 30
no_folder_at_name b name folder = grind (arith, OccursAt-first)

-- a name that may stand is a text, and where that stands there is a name
open_name : (b : List ℕ) → HasOfficeName AgreesAt b
    → (t : List ℕ) × IsTrue (are_bytes t) × (length t ≤ 19) × AgreesAt b t 30 × ((c : List ℕ) → OccursAt c t 30 → HasOfficeName OccursAt c)
open_name b (inl a) = (codes "[Content_Types].xml", refl, omega arith, a, λ c o. inl o)
open_name b (inr (inl a)) = (codes "_rels/.rels", refl, omega arith, a, λ c o. inr (inl o))
open_name b (inr (inr a)) = (codes "docProps", refl, omega arith, a, λ c o. inr (inr o))

-- where bytes are kept, no folder comes to stand
free_kept : (b more : List ℕ) (p : ℕ) → (¬ HasFolder b p) → OccursAt (b ++ more) (kept b p 5).text (kept b p 5).place → ¬ HasFolder (b ++ more) p
free_kept b more p free o (inl h) = free (inl (grind (arith, kept_reads b more p 5 (p + 4) o, get_or_past, OccursAt-front b more (codes "word/") p)))
free_kept b more p free o (inr (inl h)) = free (inr (inl (grind (arith, kept_reads b more p 5 (p + 3) o, get_or_past, OccursAt-front b more (codes "ppt/") p))))
free_kept b more p free o (inr (inr h)) = free (inr (inr (grind (arith, kept_reads b more p 5 (p + 2) o, get_or_past, OccursAt-front b more (codes "xl/") p))))

module _ (f : List ℕ) (is : IsFolder f) where
  folder_reaches : (b : List ℕ) → AgreesAt b zip_header 0 → AgreesAt b f 30 → MayBecome (IsOffice f) b
  folder_reaches b zip a = grind (arith, fills_parts (record { place = 0; text = zip_header } ∷ record { place = 30; text = f } ∷ []) b 0 (30 + length f), folder_bytes f is, folder_stands)

  -- a name and the headers are put where they may come to stand, and after them what decides
  headers_reach : (b : List ℕ) (third : ℕ) (rest : List Part) (end : ℕ) → 30 < length b → AgreesAt b zip_header 0
      → HasOfficeName AgreesAt b → IsThirdHeader AgreesAt b third → LieApart (third + 4) rest end → AllAgree rest b
      → ((more : List ℕ) → AllStand rest (b ++ more) → (header : ℕ) × DecidesAfter (b ++ more) third header × OccursAt (b ++ more) f (header + 30))
      → MayBecome (IsOffice f) b
  headers_reach b third rest end long zip name t apart agree decides =
      let (word, bytes, short, agrees, named) = open_name b name in
      let low = t.second_found.here.low in
      let later = t.third_found.here.low in
      let x = fills_parts (record { place = 0; text = zip_header } ∷ record { place = 30; text = word } ∷ record { place = t.second; text = zip_header }
      ∷ record { place = third; text = zip_header } ∷ rest) b 0 end
      (omega arith, refl, (omega arith, bytes, (omega arith, refl, (omega arith, refl, apart))))
      (zip, (agrees, (t.second_found.here.stands, (t.third_found.here.stands, agree)))) in
      let c = b ++ x.more in
      let (header, d, o) = decides x.more x.holds.1.1.1.1 in
      let name_c = named c x.holds.1.0 in
      let found : IsThirdHeader OccursAt c third = record {
        second = t.second;
        start_fits = omega (arith, t.start_fits, le32-append b x.more 18);
        second_found = grind (arith, le32-append b x.more 18, first_stands b x.more zip_header _ _ t.second t.second_found x.holds.1.1.0);
        third_found = first_stands b x.more zip_header _ _ third t.third_found x.holds.1.1.1.0;
      } in
      let decided : IsDecidingHeader c header = record { third = third; third_found = found; decides = d } in
      (x.more, x.bytes, (header + 30, (x.holds.0, inr (no_folder_at_name c name_c, name_c, (header, decided, refl))), o))

  pub office_reached : (b : List ℕ) → AgreesAt b zip_header 0 → AgreesAt b f 30 ⊎ (HasOfficeName AgreesAt b × MayDecide f b) → MayBecome (IsOffice f) b
  office_reached b zip (inl a) = folder_reaches b zip a
  office_reached b zip (inr (name, (third, t, after))) =
      elim (cases_lt 30 (length b)) [
        | inr past ↦ folder_reaches b zip (agrees_past b f 30 past)
        | inl long ↦ elim after [
          | inl a ↦ headers_reach b third (record { place = third + 30; text = f } ∷ []) (third + 30 + length f) long zip name t
              (omega arith, folder_bytes f is, omega arith) (a, tt)
              (λ more s. (third, inl (folder_stands (b ++ more) f (third + 30) is s.0, refl), s.0))
          | inr (free, (fourth, found, a)) ↦
              let low = found.here.low in
              let rest = kept b (third + 30) 5 ∷ record { place = fourth; text = zip_header } ∷ record { place = fourth + 30; text = f } ∷ [] in
              headers_reach b third rest (fourth + 30 + length f) long zip name t
              (omega arith, kept_bytes b (third + 30) 5, (omega (arith, kept_ends), refl, (omega arith, folder_bytes f is, omega arith)))
              (kept_agrees b (third + 30) 5, (found.here.stands, (a, tt)))
              (λ more s. (fourth, inr (free_kept b more (third + 30) free s.0, first_stands b more zip_header _ _ fourth found s.1.0), s.1.1.0))
        ]
      ]

-- ---- what more bytes make a document of Office agrees with one

-- a header found after more bytes is the least that may come to stand, if that is whole
open_header : (b more : List ℕ) (s q : ℕ) → IsHeaderFrom OccursAt (b ++ more) s q → (p : ℕ) × IsHeaderFrom AgreesAt b s p × (p + 4 ≤ length b → q ≡ p)
open_header b more s q h =
    let (p, first) = first_open b zip_header s (s + 6000) q (grind (arith, grown_agrees b more zip_header q)) in
    (p, first, λ whole. first_where_whole b more zip_header s (s + 6000) p q whole first h)

after_known : (b more f : List ℕ) (third header : ℕ) → DecidesAfter (b ++ more) third header → OccursAt (b ++ more) f (header + 30) → MayDecideAfter f b third
after_known b more f third header (inl h) o = grind (arith, grown_agrees)
after_known b more f third header (inr (free, h)) o =
    let (fourth, first, same) = open_header b more (third + 56) header h in
    let agrees : AgreesAt b f (fourth + 30) = grind (arith, agrees_past b f (fourth + 30), same, grown_agrees b more f (header + 30) o) in
    inr (λ folder. free (HasFolder-append b more (third + 30) folder), (fourth, first, agrees))

decide_known : (b more f : List ℕ) (header : ℕ) → 30 < length b → IsDecidingHeader (b ++ more) header → OccursAt (b ++ more) f (header + 30) → MayDecide f b
decide_known b more f header long d o =
    let t = d.third_found in
    let size : le32 (b ++ more) 18 ≡ le32 b 18 = le32-append b more 18 (omega arith) in
    let second_found = subst (λ (n : ℕ). IsHeaderFrom OccursAt (b ++ more) (n + 49) t.second) size t.second_found in
    let (second, first, is_second) = open_header b more (le32 b 18 + 49) t.second second_found in
    let third_known : (p : ℕ) × IsHeaderFrom AgreesAt b (second + 30) p × (p + 4 ≤ length b → d.third ≡ p) = elim (cases_lt (length b) (second + 4)) [
      | inl cut ↦
          let agrees = agrees_past b zip_header (second + 30) (omega arith) in
          let (third, found) = first_open b zip_header (second + 30) (second + 30 + 6000) (second + 30) (grind (arith, agrees)) in
          (third, found, let low = found.here.low in λ whole. absurd (omega arith))
      | inr whole ↦
          open_header b more (second + 30) d.third (subst (λ (u : ℕ). IsHeaderFrom OccursAt (b ++ more) (u + 30) d.third) (is_second whole) t.third_found)
    ] in
    let (third, found, is_third) = third_known in
    let decides : MayDecideAfter f b third = elim (cases_lt (length b) (third + 4)) [
      | inl cut ↦ inl (agrees_past b f (third + 30) (omega arith))
      | inr whole ↦ after_known b more f third header (subst (λ (u : ℕ). DecidesAfter (b ++ more) u header) (is_third whole) d.decides) o
    ] in
    (third, record { second = second; start_fits = omega (arith, t.start_fits); second_found = first; third_found = found }, decides)

pub office_known : (f b : List ℕ) → MayBecome (IsOffice f) b → AgreesAt b zip_header 0 × (AgreesAt b f 30 ⊎ (HasOfficeName AgreesAt b × MayDecide f b))
office_known f b (more, bytes, (p, (zip, inl (folder, e)), o)) = grind (arith, grown_agrees)
office_known f b (more, bytes, (p, (zip, inr (free, name, (header, d, e))), o)) =
    let named : HasOfficeName AgreesAt b = grind (arith, grown_agrees b more) in
    grind (arith, grown_agrees b more zip_header 0 zip, agrees_past b f 30, decide_known b more f header)

-- the open third header is one place
pub decide_at : (f b : List ℕ) (third : ℕ) → IsThirdHeader AgreesAt b third → MayDecideAfter f b third ↔ MayDecide f b
decide_at f b third t =
    (λ h. (third, t, h), λ (p, u, h). subst (MayDecideAfter f b) (IsThirdHeader-one AgreesAt b p third u t) h)
