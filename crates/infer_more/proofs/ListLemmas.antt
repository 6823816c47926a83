-- Tests of the images of a list.
use Rattle.infer_more.proofs.Common.{◌≡◌, ℕ, Bool, true, false, IsTrue, List, [], ◌∷◌, ◌+◌, ◌<◌, ◌≤◌, length, get_or, map, take, refl, ap, subst, ◌∙◌, ◌&&◌, ◌||◌, list_any, list_all, and_from, sym}
use Rattle.std.proofs.lemmas.List.{take_all}
use Rattle.std.proofs.lemmas.List.Folds.{list_all_more, list_any_more}
use Rattle.std.proofs.lemmas.List.Sums.{AllPass-from_list_all}
use Rattle.infer_evidence.proofs.ListedLemmas.{list_all_map}

module _ {A B : Type 0} (p : B → Bool) (f : A → B) where
  -- a test that all images pass is passed by each
  pub passed_by : (xs : List A) (k : ℕ) (d : A) → k < length xs → IsTrue (list_all p (map f xs)) → IsTrue (p (f (get_or xs k d)))
  passed_by xs k d lt all = AllPass-from_list_all (λ x. p (f x)) xs (sym (list_all_map p f xs) ∙ all) k d lt

-- one more element, and all of them
module _ {A : Type 0} (p : A → Bool) where
  no_or : (x y : Bool) → x ≡ false → y ≡ false → (x || y) ≡ false
  no_or false y e f = f
  no_or true y e f = absurd (cc)

  pub no_more : (xs : List A) (k : ℕ) (d : A) → k < length xs → list_any p (take k xs) ≡ false → p (get_or xs k d) ≡ false → list_any p (take (k + 1) xs) ≡ false
  no_more xs k d lt before here = list_any_more p xs k d lt ∙ no_or (list_any p (take k xs)) _ before here

  pub any_of_all : (xs : List A) (n : ℕ) → length xs ≤ n → list_any p (take n xs) ≡ false → list_any p xs ≡ false
  any_of_all xs n le h = subst (λ l. list_any p l ≡ false) (take_all n xs le) h

  pub one_more : (xs : List A) (k : ℕ) (d : A) → k < length xs → list_all p (take k xs) ≡ true → p (get_or xs k d) ≡ true → list_all p (take (k + 1) xs) ≡ true
  one_more xs k d lt before here = list_all_more p xs k d lt ∙ and_from (list_all p (take k xs)) _ before here

  pub all_of_all : (xs : List A) (n : ℕ) → length xs ≤ n → list_all p (take n xs) ≡ true → list_all p xs ≡ true
  all_of_all xs n le h = subst (λ l. list_all p l ≡ true) (take_all n xs le) h
