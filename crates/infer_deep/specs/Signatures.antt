-- What can be said of a signature, which is a property of buffers.
use Rattle.std.specs.Prelude.{ℕ, ◌↔◌, ◌<◌, ◌≤◌, ◌⊎◌, List, ◌++◌, All, length, take}

-- a buffer that has it has it with any bytes after it too
abbrev pub Lasts : (List ℕ → Type 0) → Type 0
Lasts S = (b more : List ℕ) → S b → S (b ++ more)

-- a buffer of at least 1024 bytes has it exactly if its first 1024 bytes have it
abbrev pub IsNear : (List ℕ → Type 0) → Type 0
IsNear S = (b : List ℕ) → 1024 ≤ length b → S b ↔ S (take 1024 b)

-- if more bytes bring S to a buffer of at least 1024 bytes, the buffer has Q
abbrev pub ComesWith : (List ℕ → Type 0) → (List ℕ → Type 0) → Type 0
ComesWith S Q = (b more : List ℕ) → 1024 ≤ length b → S (b ++ more) → S b ⊎ Q b

-- more bytes do not bring it to a buffer of at least 1024 bytes
abbrev pub IsEarly : (List ℕ → Type 0) → Type 0
IsEarly S = (b more : List ℕ) → 1024 ≤ length b → S (b ++ more) → S b

-- no buffer has both
abbrev pub AreApart : (List ℕ → Type 0) → (List ℕ → Type 0) → Type 0
AreApart S T = (b : List ℕ) → S b → ¬ T b

-- some bytes after b make the signature accept it
abbrev pub MayBecome : (List ℕ → Type 0) → List ℕ → Type 0
MayBecome S b = (more : List ℕ) × All (λ x. x < 256) more × S (b ++ more)
