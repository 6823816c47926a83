-- One range more.
use Rattle.infer_evidence.proofs.Common.{◌≡◌, ◌-◌, get_or, place_in, ◌+◌, ◌<◌, ◌≤◌, ◌∷◌, ◌++◌, ◌∙◌, ℕ, List, [], All, length, take, take_all, set, subst, sym, arith, length-append, get_or_append_left, get_or-append_right, take-set_at, Any, Evidence, Range, All-push, AgreesOn, HasSame, IsAround, IsInside, IsOf, IsSame, ranges_of}

-- what holds of each element of a list and of one after it, it holds of each
module _ (P : Range → Type 0) where
  front_and_last : (xs : List Range) (r : Range) → All P (xs ++ r ∷ []) → All P xs × P r
  front_and_last xs r h = (
    λ k d lt. grind (arith, h k d, length-append, get_or_append_left xs (r ∷ []) d k),
    grind (arith, h (length xs) r, length-append, get_or-append_right xs (r ∷ []) (length xs) r),
  )

  pub pushed : (xs : List Range) (n : ℕ) (r : Range) → n < length xs → All P (take (n + 1) (set xs n r)) → All P (take n xs) × P r
  pushed xs n r lt h = front_and_last (take n xs) r (subst (All P) (take-set_at xs n (n + 1) r (omega arith) lt) h)

  pub put : (xs : List Range) (n : ℕ) (r : Range) → n < length xs → All P (take n xs) → P r → All P (take (n + 1) (set xs n r))
  put xs n r lt h p = subst (All P) (sym (take-set_at xs n (n + 1) r (omega arith) lt)) (All-push P (take n xs) r h p)

-- evidence with one range more, for which there is room, asks for that range too
pub one_more : (e : Evidence) (r : Range) → e.count < length e.ranges → (b c : List ℕ)
    → AgreesOn (record e { ranges = set e.ranges e.count r; count = e.count + 1 }) b c → AgreesOn e b c × IsSame b c r
one_more e r lt b c h =
    let known = pushed (IsSame b c) e.ranges e.count r lt h.same in
    (record { room = let few = h.room in omega arith; same = known.0; long = h.long; exact = h.exact }, known.1)

-- and is of the buffer if the range is inside it
pub one_more_inside : (e : Evidence) (r : Range) → e.count < length e.ranges → (b : List ℕ)
    → IsOf e b → IsInside b r → IsOf (record e { ranges = set e.ranges e.count r; count = e.count + 1 }) b
one_more_inside e r lt b h inside = record { inside = put (IsInside b) e.ranges e.count r lt h.inside inside; long = h.long }

-- where there is no room the ranges stay
pub no_more : (e : Evidence) (n : ℕ) → length e.ranges ≤ e.count → e.count ≤ n → (b : List ℕ) → IsOf e b → IsOf (record e { count = n }) b
no_more e n full le b h = record {
  inside = subst (All (IsInside b)) (take_all e.count e.ranges full ∙ sym (take_all n e.ranges (omega arith))) h.inside;
  long = h.long;
}

-- what is the same in a range is so in each that is inside it
pub same_around : (e : Evidence) (r : Range) → Any (IsAround r) (ranges_of e) → (b c : List ℕ) → AgreesOn e b c → AgreesOn e b c × IsSame b c r
same_around e r around b c h =
    let outer = around.1 in
    let same : IsSame b c outer = subst (IsSame b c) around.3 (h.same around.0 outer around.2) in
    (h, λ k lt. let here = around.4 k lt in subst (λ p. (p < length c) × (get_or c p 0 ≡ get_or b p 0)) (sym here.2) (same here.0 here.1))

-- what is the same in each range is so in that with a number
pub same_read : (e : Evidence) (xs : List Range) (i : ℕ) (r : Range) → xs ≡ ranges_of e → i < length xs → r ≡ get_or xs i r → (b c : List ℕ) → AgreesOn e b c → IsSame b c r
same_read e xs i r all lt found b c h = subst (IsSame b c) (sym found) (subst (All (IsSame b c)) (sym all) h.same i r lt)

-- of bytes in a row one is each from the first to the last
pub in_a_row : (b c : List ℕ) (r : Range) → r.step ≡ 1 → IsSame b c r → (k : ℕ) → r.place ≤ k → k < r.place + r.len → (k < length c) × (get_or c k 0 ≡ get_or b k 0)
in_a_row b c r one same k low high =
    let here : place_in r (k - r.place) ≡ k = grind (arith, one) in
    subst (λ p. (p < length c) × (get_or c p 0 ≡ get_or b p 0)) here (same (k - r.place) (omega (arith, low, high)))

pub reads_in_a_row : (r : Range) (place n : ℕ) → r.place ≡ place → r.len ≡ n → r.step ≡ 1 → (b c : List ℕ) → IsSame b c r → HasSame b c place n
reads_in_a_row r place n at long one b c same k low high = in_a_row b c r one same k (omega (arith, at, low)) (omega (arith, at, long, high))

pub inside_in_a_row : (r : Range) (place n : ℕ) → r.place ≡ place → r.len ≡ n → r.step ≡ 1 → (b : List ℕ) → place + n ≤ length b → IsInside b r
inside_in_a_row r place n at long one b within k lt = grind (arith, at, long, one, within, lt)

-- a range of bytes in a row is inside a buffer that has each of them
pub inside_by_bytes : (b : List ℕ) (r : Range) → r.step ≡ 1 → ((k : ℕ) → k < r.len → r.place + k < length b) → IsInside b r
inside_by_bytes b r one has k lt = let here = has k lt in grind (arith, one, here)

pub around_in_a_row : (inner outer : Range) → outer.step ≡ 1 → inner.step ≡ 1 → outer.place ≤ inner.place → inner.place + inner.len ≤ outer.place + outer.len
    → IsAround inner outer
around_in_a_row inner outer one also low high k lt =
    (inner.place - outer.place + k, omega (arith, lt, low, high), grind (arith, one, also, low))
