use Rattle.infer.proofs.Common.{◌≡◌, ◌+◌, ◌<◌, ℕ, List, [], ◌∷◌, length, get_or, IsTrue, ap, ◌∙◌, arith, nat_tests, accepts, stands}
use Rattle.infer_sig.specs.App.{java, mach}
use Rattle.infer_sig.proofs.OccurrenceLemmas.{ByPlace}
use Rattle.infer.proofs.laws.apart.Goals as goal

module _ (by_place : ByPlace) (buf : List ℕ) where
  byte_of : (t : List ℕ) (k : ℕ) → k < length t → IsTrue (stands 0 t buf) → get_or buf k 0 ≡ get_or t k 0
  byte_of t k lt h = ap (λ i. get_or buf i 0) (let r : k ≡ 0 + k = omega arith in r) ∙ ((by_place 0 t buf).0 h k lt).1

  java_not_mach : IsTrue (accepts java buf) → IsTrue (accepts mach buf) → ⊥
  java_not_mach j m =
      let first = byte_of (0xCA ∷ 0xFE ∷ 0xBA ∷ 0xBE ∷ []) 0 (omega arith) in
      let feed = byte_of (0xFE ∷ 0xED ∷ 0xFA ∷ []) 0 (omega arith) in
      let several = byte_of (0xCA ∷ 0xFE ∷ 0xBA ∷ 0xBE ∷ 0x00 ∷ 0x00 ∷ 0x00 ∷ []) 6 (omega arith) in
      grind (arith, nat_tests)

pub returns-clause-programs : goal.returns-clause-programs
returns-clause-programs c buf (j, m) = java_not_mach c.by_place.ensures buf j m
