-- What the bytes of a range say of the texts of a part.
use Rattle.infer_evidence.proofs.Common.{◌≡◌, ◌+◌, ◌-◌, ◌<◌, ◌≤◌, ℕ, List, Any, IsTrue, length, get_or, subst, sym, arith, StandsByPlace, StandsNone, min, nat_lt, Bor, lt-ltb}

-- one of the texts stands there, if a text with the same bytes does
pub some_text : (ts : List (Bor (List ℕ))) (place : ℕ) (c t : List ℕ)
    → Any (λ u. u.now ≡ t) ts → StandsByPlace place t c → Any (λ u. StandsByPlace place u.now c) ts
some_text ts place c t found h =
    (found.0, found.1, found.2, found.3, subst (λ v. StandsByPlace place v c) (sym found.4) h)

pub no_text : (ts : List (Bor (List ℕ))) (place : ℕ) (c : List ℕ) → StandsNone place ts c → ¬ Any (λ u. StandsByPlace place u.now c) ts
no_text ts place c none found = none found.0 found.1 found.2 (subst (λ u. StandsByPlace place u.now c) (sym found.3) found.4)

-- a text that does not stand in b, and is no longer than the range of what b has from its place on, or than b is long, does not
-- stand in c, which has the same bytes in the range
pub not_within : (place : ℕ) (t b c : List ℕ) (long from n : ℕ) → length t ≤ long
    → from ≡ min place (length b) → n ≡ min long (length b - from) → (IsTrue (nat_lt n long) → length c ≡ length b)
    → ((k : ℕ) → from ≤ k → k < from + n → (k < length c) × (get_or c k 0 ≡ get_or b k 0))
    → ¬ StandsByPlace place t b → ¬ StandsByPlace place t c
not_within place t b c long from n le start is exact same none h = none (λ k lt. grind (arith, h k lt, same (place + k), exact, lt-ltb n long))
