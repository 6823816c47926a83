-- Numbers in a buffer: in one that grows they stay what they are, and they are the same if their bytes are.
use Rattle.infer_deep.proofs.Common.{◌≡◌, ◌↔◌, ℕ, ◌+◌, ◌<◌, ◌≤◌, List, ◌++◌, length, get_or, add-zero, arith, get_or_append_left, le16, le32, be32}

module _ (b more : List ℕ) (p : ℕ) where
  pub le16-append : p + 2 ≤ length b → le16 (b ++ more) p ≡ le16 b p
  unfolding le16
  le16-append l = omega (arith, get_or_append_left b more 0)

  pub le32-append : p + 4 ≤ length b → le32 (b ++ more) p ≡ le32 b p
  unfolding le32
  le32-append l = omega (arith, get_or_append_left b more 0)

  pub be32-append : p + 4 ≤ length b → be32 (b ++ more) p ≡ be32 b p
  unfolding be32
  be32-append l = omega (arith, get_or_append_left b more 0)

abbrev AreBytes : List ℕ → Type 0
AreBytes b = (i : ℕ) → get_or b i 0 < 256

-- two numbers are the same just if their bytes are
module _ (b c : List ℕ) (p q : ℕ) (b_bytes : AreBytes b) (c_bytes : AreBytes c) where
  pub le16_same : (le16 b p ≡ le16 c q) ↔ ((k : ℕ) → k < 2 → get_or b (p + k) 0 ≡ get_or c (q + k) 0)
  unfolding le16
  le16_same = grind (arith, add-zero)

  pub le32_same : (le32 b p ≡ le32 c q) ↔ ((k : ℕ) → k < 4 → get_or b (p + k) 0 ≡ get_or c (q + k) 0)
  unfolding le32
  le32_same = grind (arith, add-zero)
