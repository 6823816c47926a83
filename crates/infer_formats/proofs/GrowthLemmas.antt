-- What a buffer has it has however it goes on: bytes and numbers.
use Rattle.infer_formats.proofs.Common.{[], ◌≡◌, ℕ, zero, suc, ◌+◌, ◌<◌, ◌≤◌, Bool, true, false, List, ◌∷◌, ◌++◌, length, sym, subst, arith, length-append, slice_index, get_or_append_left, be32-append, be16, number16, number32, le16-append, le32-append, number64}

-- a byte that is not zero is in the buffer
pub there : (b : List ℕ) (p : ℕ) → 1 ≤ slice_index b p → p < length b
there [] p h = absurd (omega arith)
there (x ∷ b) zero h = omega arith
there (x ∷ b) (suc p) h = let lt : p < length b = there b p h in omega arith

module _ (b more : List ℕ) where
  pub longer : (n : ℕ) → n ≤ length b → n ≤ length (b ++ more)
  longer n le = omega (arith, length-append b more)

  pub kept : (p : ℕ) → p < length b → slice_index (b ++ more) p ≡ slice_index b p
  kept p lt = get_or_append_left b more 0 p lt

  -- of a byte, what is told of it
  pub carried : (P : ℕ → Type 0) (p : ℕ) → p < length b → P (slice_index b p) → P (slice_index (b ++ more) p)
  carried P p lt h = subst P (sym (kept p lt)) h

  -- ---- numbers

  pub number16-append : (big : Bool) (p : ℕ) → p + 2 ≤ length b → number16 big (b ++ more) p ≡ number16 big b p
  unfolding be16
  number16-append true p le = omega (arith, kept p (omega arith), kept (p + 1) (omega arith))
  number16-append false p le = le16-append b more p le

  pub number32-append : (big : Bool) (p : ℕ) → p + 4 ≤ length b → number32 big (b ++ more) p ≡ number32 big b p
  number32-append true p le = be32-append b more p le
  number32-append false p le = le32-append b more p le

  pub number64-append : (big : Bool) (p : ℕ) → p + 8 ≤ length b → number64 big (b ++ more) p ≡ number64 big b p
  number64-append true p le = omega (arith, be32-append b more p (omega arith), be32-append b more (p + 4) (omega arith))
  number64-append false p le = omega (arith, le32-append b more p (omega arith), le32-append b more (p + 4) (omega arith))
