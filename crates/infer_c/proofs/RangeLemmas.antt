-- Elements that are written to the front of a list, one by one.
use Rattle.std.proofs.Common.{◌≡◌, ◌+◌, ◌<◌, ◌≤◌, ◌⊎◌, ◌++◌, ◌∙◌, ℕ, List, ap, arith, drop, get_or, inl, inr, length, map, min, set, sym, subst, take}
use Rattle.std.proofs.Math.ListN.{get_or-map}
use Rattle.std.proofs.Math.Seq.{drop-cons, set-append_seam, take-suc}
use Rattle.std.proofs.lemmas.Bool.{cases_lt}
use Rattle.std.proofs.lemmas.List.{append_assoc, drop_all, length-map, length-take-le, take_all}

module _ {B : Type 0} (xs old : List B) where
  -- the first k of them are written
  abbrev pub written : ℕ → List B
  written k = take k xs ++ drop k old

  pub more : (k : ℕ) (e : B) → k < length xs → k < length old → set (written k) k (get_or xs k e) ≡ written (k + 1)
  more k e lt room =
      grind (arith, drop-cons old k e room, set-append_seam (take k xs) (get_or old k e) (drop (k + 1) old) (get_or xs k e), take-suc xs k e lt, length-take-le, append_assoc)

  all : (k : ℕ) → k ≡ min (length xs) (length old) → length old < length xs ⊎ length xs ≤ length old
      → written k ≡ take (length old) xs ++ drop (length xs) old
  all k e (inl lt) =
      let same : k ≡ length old = omega (arith, e, lt) in
      ap written same ∙ ap (λ ys. take (length old) xs ++ ys) (drop_all (length old) old (omega arith) ∙ sym (drop_all (length xs) old (omega (arith, lt))))
  all k e (inr le) =
      let same : k ≡ length xs = omega (arith, e, le) in
      ap written same ∙ ap (λ ys. ys ++ drop (length xs) old) (take_all (length xs) xs (omega arith) ∙ sym (take_all (length old) xs (omega (arith, le))))

module _ {A B : Type 0} (f : A → B) (xs : List A) (old : List B) where
  -- one more of them
  pub written_more : (k : ℕ) (d : A) → k < length xs → k < length old
      → set (written (map f xs) old k) k (f (get_or xs k d)) ≡ written (map f xs) old (k + 1)
  written_more k d lt room =
      subst (λ y. set (written (map f xs) old k) k y ≡ written (map f xs) old (k + 1)) (get_or-map f xs k d)
      (more (map f xs) old k (f d) (subst (λ n. k < n) (sym (length-map xs f)) lt) room)

  -- all of them, or as many as there is room for
  pub written_all : (k : ℕ) → k ≡ min (length xs) (length old)
      → written (map f xs) old k ≡ take (length old) (map f xs) ++ drop (length xs) old
  written_all k e =
      subst (λ n. k ≡ min n (length old) → written (map f xs) old k ≡ take (length old) (map f xs) ++ drop n old) (length-map xs f)
      (λ same. all (map f xs) old k same (cases_lt (length old) (length (map f xs)))) e
