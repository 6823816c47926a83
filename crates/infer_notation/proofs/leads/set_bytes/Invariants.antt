use Rattle.infer_notation.proofs.Common.{◌≡◌, ◌||◌, ℕ, IsTrue, List, Some, drop, allows, any_of, is_found, bytes_after, bytes_of}
use Rattle.infer_notation.proofs.leads.set_bytes.Given as goal

abbrev pub invariant-loop-digit : goal.invariant-loop-digit
invariant-loop-digit l =
    (xs : List ℕ) → bytes_of l.text ≡ Some xs → (ys : List ℕ) × (bytes_after l.first (drop l.digit-index l.text) ≡ Some ys)
    × ((x : ℕ) → IsTrue (allows (any_of xs) x) → IsTrue (is_found l.found x || allows (any_of ys) x))
