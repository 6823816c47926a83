-- What the bytes of a part of a buffer say of the buffer.
use Rattle.infer_formats.proofs.Common.{◌≡◌, ℕ, ◌+◌, ◌-◌, ◌<◌, ◌≤◌, List, length, get_or, take, drop, sym, ap, ◌∙◌, ◌↔◌, arith, eq-eqb, length-drop, Option, Some, None, is_some, IsTrue, refl, eqb-true, IsFirstByte, Nowhere, Passes, is_byte, length-take, part_reads}

-- the length of a part from s to e
pub part_length : (b : List ℕ) (s e : ℕ) → s ≤ e → e ≤ length b → length (take (e - s) (drop s b)) ≡ e - s
part_length b s e l h = simp (length-take, length-drop) (omega arith)

-- a byte of it is the one that a search is for
pub part_has : (b : List ℕ) (s e x i : ℕ) → s + i < e → Passes (is_byte x) (take (e - s) (drop s b)) i → get_or b (s + i) 0 ≡ x
part_has b s e x i l passes = sym (part_reads b s e i l) ∙ eqb-true _ _ passes

-- and a place that the search passed over has another
pub part_lacks : (b : List ℕ) (s e x k : ℕ) → s + k ≤ e → Nowhere (Passes (is_byte x) (take (e - s) (drop s b))) 0 k
    → (j : ℕ) → s ≤ j → j < s + k → ¬ (get_or b j 0 ≡ x)
part_lacks b s e x k fits lacks j low high is =
    let same : s + (j - s) ≡ j = omega arith in
    let read = part_reads b s e (j - s) (omega arith) ∙ ap (λ i. get_or b i 0) same ∙ is in
    lacks (j - s) (omega arith) (omega arith) (eq-eqb _ x read)

-- a search of a part finds the byte if it stands anywhere in it
pub part_search : (b : List ℕ) (s e x : ℕ) (r : Option ℕ) → s ≤ e → e ≤ length b → IsFirstByte (is_byte x) (take (e - s) (drop s b)) r
    → IsTrue (is_some r) ↔ ((k : ℕ) × (s ≤ k) × (k < e) × (get_or b k 0 ≡ x))
part_search b s e x (Some i) l h (between, passes) =
    let long = part_length b s e l h in
    let high = between.high in
    let here = part_has b s e x i (omega arith) passes in
    (λ is. (s + i, omega arith, omega arith, here), λ some. refl)
part_search b s e x None l h nowhere =
    let long = part_length b s e l h in (
      λ is. absurd (cc),
      λ (k, low, high, is).
          absurd (part_lacks b s e x (e - s) (omega arith) (λ j from lt. nowhere j from (omega arith)) k low (omega arith) is),
    )
