-- A test of the numbers below n, in sixteens, so that the check of one which fails shows the numbers that it refuses.
use Rattle.infer_deep.proofs.Common.{◌≡◌, ◌+◌, ◌-◌, ◌*◌, ◌<◌, ◌≤◌, ℕ, suc, zero, Bool, ◌||◌, not, cond, leb, List, [], ◌∷◌, get_or, length, arith, IsTrue, filter, range_with_len, nat_tests, get_or-range_with_len, length-range_with_len}

module _ (test : ℕ → Bool) (n : ℕ) where
  abbrev pub passes : ℕ → Bool
  passes i = leb n i || test i

  -- the numbers that do not pass, of sixteen from s on
  abbrev pub refused_from : ℕ → List ℕ
  refused_from s = filter (λ i. not (passes i)) (range_with_len s 16)

  -- there are none from s on, in so many sixteens
  abbrev pub NoneRefused : ℕ → ℕ → Type 0
  NoneRefused s zero = Unit {0}
  NoneRefused s (suc k) = (refused_from s ≡ []) × NoneRefused (s + 16) k

none_refused : (r : Bool) (i : ℕ) (is : List ℕ) → cond (not r) (i ∷ is) is ≡ [] → IsTrue r × (is ≡ [])
none_refused r i is e = grind arith

module _ (test : ℕ → Bool) (n : ℕ) where
  all_pass : (is : List ℕ) → filter (λ i. not (passes test n i)) is ≡ [] → (k : ℕ) → k < length is → IsTrue (passes test n (get_or is k 0))
  all_pass [] none k lt = absurd (omega arith)
  all_pass (i ∷ is) none k lt = let both = none_refused (passes test n i) i _ none in let rest = all_pass is both.1 in grind (arith)

  passed_from : (s k : ℕ) → NoneRefused test n s k → (i : ℕ) → s ≤ i → i < s + 16 * k → IsTrue (passes test n i)
  passed_from s zero none i low lt = absurd (omega arith)
  passed_from s (suc k) none i low lt = grind (arith, nat_tests, get_or-range_with_len s 16 (i - s) 0, all_pass (range_with_len s 16) none.0 (i - s), length-range_with_len s 16, passed_from (s + 16) k none.1 i)

  pub passed : (k : ℕ) → NoneRefused test n 0 k → n ≤ 16 * k → (i : ℕ) → i < n → IsTrue (test i)
  passed k none enough i lt = grind (arith, nat_tests, passed_from 0 k none i)
