-- The bytes of a buffer that grows, and numbers as texts.
use Rattle.infer_formats.proofs.Common.{IsTrue, ◌≡◌, Bool, true, false, add-zero, inl, inr, ℕ, zero, suc, ◌+◌, ◌/◌, ◌%◌, ◌<◌, ◌≤◌, List, ◌++◌, length, get_or, sym, subst, arith, cases_lt, get_or-eq_default, le16, OccursAt, are_bytes, be16, bytes16, number16, IsBytes, MayBe, get_or_append_left, slice_index}
use Rattle.std.proofs.lemmas.List.Elements.{All-append}
use Rattle.infer_deep.proofs.OpenLemmas.{bytes_from_test}

pub grown_byte : (b more : List ℕ) (p : ℕ) → IsTrue (are_bytes b) → IsBytes more → get_or (b ++ more) p 0 < 256
grown_byte b more p h bytes = elim (cases_lt p (length (b ++ more))) [
  | inl l ↦ All-append (λ x. x < 256) b more (bytes_from_test b h) bytes p 0 l
  | inr l ↦ subst (λ x. x < 256) (sym (get_or-eq_default (b ++ more) 0 l)) (omega arith)
]

pub small_byte : (b : List ℕ) (p : ℕ) → IsTrue (are_bytes b) → get_or b p 0 < 256
small_byte b p h = elim (cases_lt p (length b)) [
  | inl l ↦ bytes_from_test b h p 0 l
  | inr l ↦ subst (λ x. x < 256) (sym (get_or-eq_default b 0 l)) (omega arith)
]

-- what is told of a byte of a longer buffer is so of b as far as it goes
pub known : (b more : List ℕ) (P : ℕ → Type 0) (p : ℕ) → P (slice_index (b ++ more) p) → MayBe P b p
known b more P p h lt = subst P (get_or_append_left b more 0 p lt) h

-- ---- numbers as texts

pub number16_stands : (c : List ℕ) (big : Bool) (p n : ℕ) → ((k : ℕ) → get_or c k 0 < 256) → p + 2 ≤ length c → number16 big c p ≡ n → OccursAt c (bytes16 big n) p
unfolding be16 le16
number16_stands c true p n small le is = record { fits = le; reads = go }
  where
    go : (k : ℕ) → k < 2 → get_or c (p + k) 0 ≡ get_or (bytes16 true n) k 0
    go zero l = let x = small (p + 1) in let e : get_or c p 0 ≡ n / 256 = omega arith in rw add-zero e
    go (suc zero) l = let x = small (p + 1) in let e : get_or c (p + 1) 0 ≡ n % 256 = omega arith in e
    go (suc (suc k)) l = absurd (omega arith)
number16_stands c false p n small le is = record { fits = le; reads = go }
  where
    go : (k : ℕ) → k < 2 → get_or c (p + k) 0 ≡ get_or (bytes16 false n) k 0
    go zero l = let x = small p in let e : get_or c p 0 ≡ n % 256 = omega arith in rw add-zero e
    go (suc zero) l = let x = small p in let e : get_or c (p + 1) 0 ≡ n / 256 = omega arith in e
    go (suc (suc k)) l = absurd (omega arith)
