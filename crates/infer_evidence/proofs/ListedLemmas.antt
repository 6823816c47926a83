-- What a buffer has of a signature place by place is what the signature accepts.
use Rattle.infer_evidence.proofs.Common.{◌<◌, ◌≤◌, zero, suc, arith, length-map, most_parts, most_ranges, ◌≡◌, ◌↔◌, ◌∷◌, ◌||◌, ◌&&◌, ◌∙◌, ℕ, Bool, IsTrue, List, [], All, Any, length, get_or, map, ap, refl, sym, subst, and_parts, and_from, ltb-true, lt-ltb, leb-true, le-leb, list_all, list_any, Any-from_list_any, list_any-from_Any, AllPass-from_list_all, list_all-from_AllPass, Alternative, Part, Text, AnyText, Byte, alternative_listed, part_listed, signature_listed, HasAlternative, HasPart, HasSignature, StandsByPlace, accepts, fits, has_part, stands}

-- tests of the images of a list
module _ {A B : Type 0} (p : B → Bool) (f : A → B) where
  pub list_any_map : (xs : List A) → list_any p (map f xs) ≡ list_any (λ x. p (f x)) xs
  list_any_map [] = refl
  list_any_map (x ∷ xs) = ap (λ rest. p (f x) || rest) (list_any_map xs)

  pub list_all_map : (xs : List A) → list_all p (map f xs) ≡ list_all (λ x. p (f x)) xs
  list_all_map [] = refl
  list_all_map (x ∷ xs) = ap (λ rest. p (f x) && rest) (list_all_map xs)

  module _ (P : A → Type 0) (proves : (x : A) → IsTrue (p (f x)) ↔ P x) where
    pub any_told : (xs : List A) → IsTrue (list_any p (map f xs)) ↔ Any P xs
    any_told xs = (
      λ h. let found = Any-from_list_any (λ x. p (f x)) xs (sym (list_any_map xs) ∙ h) in
          (found.0, found.1, found.2, found.3, (proves found.1).0 found.4),
      λ found. list_any_map xs ∙ list_any-from_Any (λ x. p (f x)) xs (found.0, found.1, found.2, found.3, (proves found.1).1 found.4),
    )

    pub all_refused_already : (xs : List A) → IsTrue (list_all p (map f xs)) ↔ All P xs
    all_refused_already xs = (
      λ h k d lt. (proves (get_or xs k d)).0 (AllPass-from_list_all (λ x. p (f x)) xs (sym (list_all_map xs) ∙ h) k d lt),
      λ all. list_all_map xs ∙ list_all-from_AllPass (λ x. p (f x)) xs (λ k d lt. (proves (get_or xs k d)).1 (all k d lt)),
    )

-- with what it means that a text stands somewhere
module _ (by_place : (place : ℕ) (t b : List ℕ) → IsTrue (stands place t b) ↔ StandsByPlace place t b) (b : List ℕ) where
  part_told : (part : Part) → IsTrue (has_part b (part_listed part)) ↔ HasPart b part
  part_told (Text place t) = by_place place t.now b
  part_told (AnyText place ts) = any_told (λ t. stands place t b) (λ t. t.now) (λ t. StandsByPlace place t.now b) (λ t. by_place place t.now b) ts.now
  part_told (Byte place set) = (
    λ h. let parts = and_parts _ _ h in (ltb-true place (length b) parts.0, parts.1),
    λ has. and_from _ _ (lt-ltb place (length b) has.0) has.1,
  )

  alternative_told : (a : Alternative) → IsTrue (fits b (alternative_listed a)) ↔ HasAlternative b a
  alternative_told a =
      let parts = all_refused_already (has_part b) part_listed (HasPart b) part_told a.parts.now in (
        λ h. let both = and_parts _ _ h in (leb-true a.least (length b) both.0, parts.0 both.1),
        λ has. and_from _ _ (le-leb a.least (length b) has.0) (parts.1 has.1),
      )

  pub signature_told : (alternatives : List Alternative) → IsTrue (accepts (signature_listed alternatives) b) ↔ HasSignature b alternatives
  signature_told alternatives = any_told (fits b) alternative_listed (HasAlternative b) alternative_told alternatives

-- no alternative has more parts than that of the signature which has most
parts_at : (xs : List Alternative) (k : ℕ) (d : Alternative) → k < length xs → length (get_or xs k d).parts.now ≤ most_parts (signature_listed xs)
parts_at [] k d lt = absurd (omega (arith, lt))
parts_at (x ∷ xs) zero d lt =
    let here : length (map part_listed x.parts.now) ≡ length x.parts.now = length-map x.parts.now part_listed in grind (arith, here)
parts_at (x ∷ xs) (suc k) d lt = let before = parts_at xs k d (omega (arith, lt)) in grind (arith, before)

pub parts_within : (xs : List Alternative) (a : Alternative) → Any (λ other. other ≡ a) xs → length a.parts.now ≤ most_ranges (signature_listed xs)
parts_within xs a found =
    let here = parts_at xs found.0 found.1 found.2 in
    let is : get_or xs found.0 found.1 ≡ a = found.3 ∙ found.4 in
    let most = subst (λ x. length x.parts.now ≤ most_parts (signature_listed xs)) is here in grind (arith, most)

pub alternatives_within : (xs : List Alternative) → length xs ≤ most_ranges (signature_listed xs)
alternatives_within xs = let same : length (signature_listed xs) ≡ length xs = length-map xs alternative_listed in grind (arith, same)

-- an alternative of a signature that the buffer has is one by which it has the signature, and where it has none, it has it not
pub by_one : (alternatives : List Alternative) (a : Alternative) (b : List ℕ) → Any (λ other. other ≡ a) alternatives → HasAlternative b a → HasSignature b alternatives
by_one alternatives a b found has = (found.0, found.1, found.2, found.3, subst (HasAlternative b) (sym found.4) has)

pub by_none : (alternatives : List Alternative) (b : List ℕ) → All (λ a. ¬ HasAlternative b a) alternatives → ¬ HasSignature b alternatives
by_none alternatives b none found = none found.0 found.1 found.2 (subst (HasAlternative b) (sym found.3) found.4)
