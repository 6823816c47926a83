-- What fits an alternative has one of its lines.
use Rattle.std.proofs.lemmas.Bool.{or_cases, or_left, or_right}
use Rattle.infer_more.proofs.Common.{ℕ, zero, suc, ◌<◌, ◌≤◌, inl, inr, IsTrue, List, [], ◌∷◌, ◌++◌, length, arith, slice_index, cases_lt, accepts, fits, IsBuffer, lines, outline, Accepted, Fits, binary_bytes, bytes, related, is_plain}
use Rattle.std.proofs.lemmas.Grind.{get_or_default_zero}
use Rattle.infer_formats.specs.Laws.{Leads}
use Rattle.infer_sig.specs.Signature as fixed
use Rattle.infer_notation.specs.Alternative.{Alternative}

module _ (leads : Leads) (b : List ℕ) where
  -- no byte of a buffer is 256 or more
  abbrev Small : Type 0
  Small = (i : ℕ) → slice_index b i < 256

  pub has_lines : (a : Alternative) → (IsTrue (is_plain a) → Small) → Fits a b → IsTrue (accepts (lines a) b)
  has_lines (bytes a) small h = or_left (fits b a) _ h
  has_lines (binary_bytes a) small h = or_left (fits b a) _ h.0
  has_lines (related r) small h = leads.outline r b small h

  module _ (small : Small) where
    any_left : (xs ys : List fixed.Alternative) → IsTrue (accepts xs b) → IsTrue (accepts (xs ++ ys) b)
    any_left [] ys h = absurd (cc)
    any_left (x ∷ xs) ys h = elim (or_cases (fits b x) _ h) [
      | inl e ↦ or_left (fits b x) _ e
      | inr e ↦ or_right (fits b x) _ (any_left xs ys e)
    ]

    any_right : (xs ys : List fixed.Alternative) → IsTrue (accepts ys b) → IsTrue (accepts (xs ++ ys) b)
    any_right [] ys h = h
    any_right (x ∷ xs) ys h = or_right (fits b x) _ (any_right xs ys h)

    pub has_outline : (signature : List Alternative) → Accepted signature b → IsTrue (accepts (outline signature) b)
    has_outline [] h = absurd (h)
    has_outline (a ∷ others) (inl h) = any_left (lines a) (outline others) (has_lines a (λ plain. small) h)
    has_outline (a ∷ others) (inr h) = any_right (lines a) (outline others) (has_outline others h)

pub past : (b : List ℕ) (i : ℕ) → length b ≤ i → slice_index b i < 256
past [] i le = omega arith
past (x ∷ b) zero le = absurd (omega arith)
past (x ∷ b) (suc i) le = past b i (omega arith)

pub small_bytes : (b : List ℕ) → IsBuffer b → (i : ℕ) → slice_index b i < 256
small_bytes b all i = elim (cases_lt i (length b)) [ inl lt ↦ all i 0 lt | inr le ↦ past b i le ]

pub buffer_of : (b : List ℕ) → ((i : ℕ) → slice_index b i < 256) → IsBuffer b
buffer_of b h k d lt = rw (get_or_default_zero b k d lt) (h k)
