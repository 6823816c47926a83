-- Tests that all rows pass.
use Rattle.infer_more.proofs.Common.{◌≡◌, ℕ, Bool, IsTrue, List, Option, None, Some, IfSome, option_map, subst, list_all, Further, get_or_from_slice_get, slice_get_within, sym}
use Rattle.std.proofs.Common.{slice_get}
use Rattle.std.proofs.lemmas.List.Sums.{AllPass-from_list_all}

-- a test that all rows pass is passed by the row that is read
pub row_passes : (test : Further → Bool) (rows : List Further) (i : ℕ) (r : Further) → IsTrue (list_all test rows) → Some r ≡ slice_get rows i → IsTrue (test r)
row_passes test rows i r h e =
    subst (λ x. IsTrue (test x)) (get_or_from_slice_get rows i r r (sym e)) (AllPass-from_list_all test rows h i r (slice_get_within rows i r (sym e)))

-- the same of a row that may be there
pub row_passes_if : {A : Type 0} (f : A → Further) (test : Further → Bool) (rows : List Further) (i : ℕ) (o : Option A) → IsTrue (list_all test rows)
    → option_map f o ≡ slice_get rows i → IfSome o (λ a. IsTrue (test (f a)))
row_passes_if f test rows i None h e = tt
row_passes_if f test rows i (Some a) h e = row_passes test rows i (f a) h e
