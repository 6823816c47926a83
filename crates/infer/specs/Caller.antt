-- Functions that a caller adds, and what is asked of their contracts.
use Rattle.std.specs.Prelude.{◌≡◌, ℕ, List, Bool, true, false}
use Rattle.std.specs.Fn.{Shared}
use denote.Ref.{Bor}
use Rattle.infer.specs.Buffer.{IsBuffer}

-- what is known of the functions of the type `fn(&[u8]) -> bool`, seen as the values of X
abbrev pub Contracts : Type 0 → Type 1
Contracts X = Shared X (Bor (List ℕ) × Unit {0}) Bool

-- the contract of one function: which answers it allows at a reference
abbrev pub Contract : Type 1
Contract = Bor (List ℕ) → Bool → Type 0

abbrev pub contract_of : {X : Type 0} → Contracts X → X → Contract
contract_of g m = λ buf answer. g.post m (buf, tt) answer

-- the contract allows this answer on b
pub record Allows (post : Contract) (b : List ℕ) (answer : Bool) : Type 0 where
  pub shown : Bor (List ℕ)
  pub shows : shown.now ≡ b
  pub says : post shown answer

-- the contract fixes one answer for each buffer
abbrev pub FixesAnswers : Contract → Type 0
FixesAnswers post = (b : List ℕ) → IsBuffer b → Allows post b true → Allows post b false → ⊥
