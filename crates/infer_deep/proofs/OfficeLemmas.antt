-- The headers of an Office document: each is one place, and stays it in a buffer that grows.
use Rattle.infer_deep.proofs.Common.{◌≡◌, ℕ, ◌+◌, ◌≤◌, List, ◌++◌, Option, Some, None, length, refl, sym, subst, ◌∙◌, inl, inr, arith, codes, ◌↔◌, OccursAt, le32, IsWithin, IsFirstWithin, FindsPlace, Lasts, IsEarly, ComesWith, zip_header, HasFolder, HasOfficeName, BeginsOffice, IsHeaderFrom, IsThirdHeader, DecidesAfter, IsDecidingHeader, IsDecidingPlace, IsOffice}
use Rattle.infer_deep.proofs.NumberLemmas.{le32-append}
use Rattle.infer_deep.proofs.PlaceLemmas.{Carries, IsUnique, IsFirstPlace-same, IsFirstPlace-append, OccursAt-append, OccursAt-front, stands_at_one}

pub IsThirdHeader-one : (At : List ℕ → List ℕ → ℕ → Type 0) (b : List ℕ) → IsUnique (IsThirdHeader At b)
IsThirdHeader-one At b p q t u = grind (arith, IsFirstPlace-same)

-- what the searches for the second and the third header tell of the third
module _ (b : List ℕ) (start : ℕ) (is : (start ≡ le32 b 18 + 49) × (start ≤ 0xFFFFFFFF)) where
  pub no_second : (r : Option ℕ) → r ≡ None → ((p : ℕ) → ¬ IsWithin OccursAt b zip_header start (start + 6000) p) → FindsPlace (IsThirdHeader OccursAt b) r
  no_second r e none = subst (FindsPlace (IsThirdHeader OccursAt b)) (sym e) (λ p t. grind (arith, none t.second))

  pub third_from_search : (second : ℕ) → IsHeaderFrom OccursAt b start second → (r : Option ℕ)
      → IsFirstWithin OccursAt b zip_header (second + 30) (second + 30 + 6000) r → FindsPlace (IsThirdHeader OccursAt b) r
  third_from_search second found None none = λ p t. grind (arith, IsFirstPlace-same OccursAt b zip_header start (start + 6000) t.second second, none p)
  third_from_search second found (Some p) there = grind arith

-- if no header is the third, none decides
pub no_third : (b : List ℕ) (r : Option ℕ) → r ≡ None → ((p : ℕ) → ¬ IsThirdHeader OccursAt b p) → FindsPlace (IsDecidingHeader b) r
no_third b r e none = subst (FindsPlace (IsDecidingHeader b)) (sym e) (λ p d. none d.third d.third_found)

-- what the search for the fourth header says, if no folder of Office stands at the third
pub fourth_from_search : (b : List ℕ) (third : ℕ) → IsThirdHeader OccursAt b third → (¬ HasFolder b (third + 30)) → (r : Option ℕ)
    → IsFirstWithin OccursAt b zip_header (third + 56) (third + 56 + 6000) r → FindsPlace (IsDecidingHeader b) r
fourth_from_search b third t free None none = λ p d. grind (arith, IsThirdHeader-one OccursAt b d.third third d.third_found t, none p)
fourth_from_search b third t free (Some p) there = record { third = third; third_found = t; decides = inr (free, there) }

IsDecidingHeader-one : (b : List ℕ) → IsUnique (IsDecidingHeader b)
IsDecidingHeader-one b p q d e =
    let same = IsThirdHeader-one OccursAt b d.third e.third d.third_found e.third_found in
    grind (arith, IsFirstPlace-same OccursAt b zip_header (e.third + 56) (e.third + 56 + 6000) p q)

pub IsDecidingPlace-one : (b : List ℕ) → IsUnique (IsDecidingPlace b)
IsDecidingPlace-one b p q (_, inl h) (_, k) = elim k [ inl e ↦ h.1 ∙ sym e.1 | inr e ↦ absurd (e.0 h.0) ]
IsDecidingPlace-one b p q (_, inr h) (_, inl k) = absurd (h.0 k.0)
IsDecidingPlace-one b p q (_, inr (_, _, (x, f, e))) (_, inr (_, _, (y, g, d))) = grind (arith, IsDecidingHeader-one b x y f g)

-- if no folder stands at the first header, the place is that of the header that decides, if any
pub no_deciding : (b : List ℕ) (r : Option ℕ) → r ≡ None
    → (¬ HasFolder b 30) → ((p : ℕ) → ¬ IsDecidingHeader b p) → FindsPlace (IsDecidingPlace b) r
no_deciding b r e free none = subst (FindsPlace (IsDecidingPlace b)) (sym e)
    (λ p (_, d). elim d [ inl h ↦ free h.0 | inr (_, _, (header, here, _)) ↦ none header here ])

pub header_decides : (b : List ℕ) (header : ℕ) → IsDecidingHeader b header → OccursAt b zip_header 0
    → (¬ HasFolder b 30) → HasOfficeName OccursAt b → IsDecidingPlace b (header + 30)
header_decides b header d zip free name = (zip, inr (free, name, (header, d, refl)))

pub IsOffice-at : (b folder : List ℕ) (p : ℕ) → IsDecidingPlace b p → OccursAt b folder p ↔ IsOffice folder b
IsOffice-at b folder p d = stands_at_one (IsDecidingPlace b) (IsDecidingPlace-one b) b (λ x. x) folder p d

-- what stands in one buffer and another
module _ (b c : List ℕ) (n : ℕ) (carries : Carries n b c) where
  HasFolder-carried : (p : ℕ) → p + 5 ≤ n → HasFolder b p → HasFolder c p
  HasFolder-carried p l h = grind (arith, carries (codes "word/") p, carries (codes "ppt/") p, carries (codes "xl/") p)

  pub HasOfficeName-carried : 49 ≤ n → HasOfficeName OccursAt b → HasOfficeName OccursAt c
  HasOfficeName-carried l h =
      grind (arith, carries (codes "[Content_Types].xml") 30, carries (codes "_rels/.rels") 30, carries (codes "docProps") 30)

-- in a buffer that grows
module _ (b more : List ℕ) where
  pub grows : (n : ℕ) → Carries n b (b ++ more)
  grows n text p within o = OccursAt-append b more text p o

  pub HasFolder-append : (p : ℕ) → HasFolder b p → HasFolder (b ++ more) p
  HasFolder-append p = HasFolder-carried b (b ++ more) (p + 5) (grows (p + 5)) p (omega arith)

  pub no_folder-append : (p : ℕ) → p + 5 ≤ length b → (¬ HasFolder b p) → ¬ HasFolder (b ++ more) p
  no_folder-append p long free h = free (HasFolder-carried (b ++ more) b (length b) (OccursAt-front b more) p long h)

  pub IsThirdHeader-append : (third : ℕ) → IsThirdHeader OccursAt b third → IsThirdHeader OccursAt (b ++ more) third
  IsThirdHeader-append third t = record {
    second = t.second;
    start_fits = grind (arith, le32-append b more 18);
    second_found = grind (arith, le32-append b more 18, IsFirstPlace-append b more zip_header (le32 b 18 + 49) (le32 b 18 + 49 + 6000) t.second);
    third_found = IsFirstPlace-append b more zip_header _ _ third t.third_found;
  }

  -- if the fourth header stands, the bytes after the third are all there
  DecidesAfter-append : (third header : ℕ) → DecidesAfter b third header → DecidesAfter (b ++ more) third header
  DecidesAfter-append third header (inl h) = inl (HasFolder-append (third + 30) h.0, h.1)
  DecidesAfter-append third header (inr h) =
      inr (no_folder-append (third + 30) (omega arith) h.0, IsFirstPlace-append b more zip_header _ _ header h.1)

  IsDecidingPlace-append : (p : ℕ) → IsDecidingPlace b p → IsDecidingPlace (b ++ more) p
  IsDecidingPlace-append p (z, inl h) = (OccursAt-append b more zip_header 0 z, inl (HasFolder-append 30 h.0, h.1))
  IsDecidingPlace-append p (z, inr (free, name, (header, d, e))) =
      let found = IsThirdHeader-append d.third d.third_found in
      let decides = DecidesAfter-append d.third header d.decides in
      let there : IsDecidingHeader (b ++ more) header = record { third = d.third; third_found = found; decides = decides } in
      let named = HasOfficeName-carried b (b ++ more) 49 (grows 49) (omega arith) name in
      (OccursAt-append b more zip_header 0 z, inr (no_folder-append 30 (grind arith) free, named, (header, there, e)))

pub IsOffice-lasts : (folder : List ℕ) → Lasts (IsOffice folder)
IsOffice-lasts folder b more (p, d, o) = (p, IsDecidingPlace-append b more p d, OccursAt-append b more folder p o)

-- what more bytes bring
pub BeginsOffice-early : IsEarly BeginsOffice
BeginsOffice-early b more long (zip, name) =
    let front = OccursAt-front b more in
    (front zip_header 0 (omega arith) zip, HasOfficeName-carried (b ++ more) b (length b) front (omega arith) name)

pub IsOffice-comes : (folder : List ℕ) → length folder ≤ 5 → ComesWith (IsOffice folder) BeginsOffice
IsOffice-comes folder short b more long (p, (z, inl (f, e)), o) =
    let front = OccursAt-front b more in
    inl (p, (front zip_header 0 (omega arith) z, inl (HasFolder-carried (b ++ more) b (length b) front 30 (omega arith) f, e)), front folder p (omega arith) o)
IsOffice-comes folder short b more long (p, (z, inr (_, n, _)), o) = inr (BeginsOffice-early b more long (z, n))
