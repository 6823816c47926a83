-- What a chunk says of those after it.
use Rattle.infer_formats.proofs.Common.{◌≡◌, ◌↔◌, ◌⊎◌, inl, inr, ℕ, ◌+◌, ◌<◌, ◌≤◌, List, ◌++◌, length, codes, sym, subst, ◌∙◌, arith, length-append, OccursAt, be32, MayBecome, be32-append, OccursAt-append, OccursAt-front, IsAnimated, IsAnimatedFrom, ap, png_header}
use Rattle.infer_formats.specs.Png.{later, here}
use Rattle.infer_formats.proofs.GrowthLemmas.{longer}
use Rattle.infer_sig.proofs.KnownLemmas.{Known, both, proved, takes, ◌>>=◌}
use Rattle.infer_sig.proofs.OccurrenceLemmas.{ByPlace, occurs}

parts : (b : List ℕ) (c : ℕ) → IsAnimatedFrom b c
    → OccursAt b (codes "acTL") (c + 4) ⊎ ((c + 8 ≤ length b) × (OccursAt b (codes "IDAT") (c + 4) → ⊥) × IsAnimatedFrom b (c + 12 + be32 b c))
parts b c (here _ o) = inl o
parts b c (later _ fits other rest) = inr (fits, other, rest)

pub fits_chunk : (b : List ℕ) (c : ℕ) → IsAnimatedFrom b c → c + 8 ≤ length b
fits_chunk b c a = elim (parts b c a) [ inl o ↦ let f = o.fits in omega arith | inr r ↦ r.0 ]

pub never_after_data : (b : List ℕ) (c : ℕ) → OccursAt b (codes "IDAT") (c + 4) → ¬ IsAnimatedFrom b c
never_after_data b c data_stands a = elim (parts b c a) [
  | inl o ↦ let first = o.reads 0 (omega arith) in let other = data_stands.reads 0 (omega arith) in absurd (omega arith)
  | inr r ↦ r.1 data_stands
]

pub next_chunk : (b : List ℕ) (c n : ℕ) → n ≡ be32 b c → c + 8 ≤ length b → (OccursAt b (codes "acTL") (c + 4) → ⊥)
    → (OccursAt b (codes "IDAT") (c + 4) → ⊥) → IsAnimatedFrom b c ↔ IsAnimatedFrom b (c + (12 + n))
next_chunk b c n e fits control picture =
    let same : c + 12 + be32 b c ≡ c + (12 + n) = omega (arith, e) in (
      λ a. elim (parts b c a) [ inl o ↦ absurd (control o) | inr r ↦ subst (IsAnimatedFrom b) same r.2 ],
      λ rest. later c fits picture (subst (IsAnimatedFrom b) (sym same) rest),
    )

-- ---- of a buffer that grows

passes_chunk : (b : List ℕ) (c n : ℕ) → n ≡ be32 b c → c + 8 ≤ length b → (OccursAt b (codes "acTL") (c + 4) → ⊥)
    → (OccursAt b (codes "IDAT") (c + 4) → ⊥)
    → MayBecome (λ d. IsAnimatedFrom d c) b → MayBecome (λ d. IsAnimatedFrom d (c + (12 + n))) b
passes_chunk b c n e fits control picture (more, bytes, a) = (
  more,
  bytes,
  (next_chunk (b ++ more) c n (e ∙ sym (be32-append b more c (omega arith))) (omega (arith, length-append b more))
      (λ o. control (OccursAt-front b more _ (c + 4) (omega arith) o)) (λ o. picture (OccursAt-front b more _ (c + 4) (omega arith) o))).0 a,
)

pub unreached_data : (b : List ℕ) (c : ℕ) → OccursAt b (codes "IDAT") (c + 4) → ¬ MayBecome (λ d. IsAnimatedFrom d c) b
unreached_data b c o (more, bytes, a) = never_after_data (b ++ more) c (OccursAt-append b more _ (c + 4) o) a

-- the chunk at c decides what the buffer is, and what it may become
abbrev pub Decides : List ℕ → ℕ → Type 0
Decides b c = (IsAnimated b ↔ IsAnimatedFrom b c) × (MayBecome IsAnimated b → MayBecome (λ d. IsAnimatedFrom d c) b)

pub open_at : (b : List ℕ) (c : ℕ) → length b < c + 8 → Decides b c → ¬ IsAnimated b
open_at b c short h a = let fits = fits_chunk b c (h.0.0 a) in omega arith

pub next_decides : (b : List ℕ) (c n : ℕ) → n ≡ be32 b c → c + 8 ≤ length b → (OccursAt b (codes "acTL") (c + 4) → ⊥)
    → (OccursAt b (codes "IDAT") (c + 4) → ⊥) → Decides b c → Decides b (c + (12 + n))
next_decides b c n e fits control picture h =
    let next = next_chunk b c n e fits control picture in (
      (λ a. next.0 (h.0.0 a), λ rest. h.0.1 (next.1 rest)),
      λ a. passes_chunk b c n e fits control picture (h.1 a),
    )

-- it has the chunks that it had
module _ (b more : List ℕ) where
  pub chunk : (c : ℕ) → IsAnimatedFrom b c → IsAnimatedFrom (b ++ more) c
  chunk c (here _ o) = here c (OccursAt-append b more _ (c + 4) o)
  chunk c (later _ fits other rest) =
      later c (longer b more _ fits) (λ o. other (OccursAt-front b more _ (c + 4) (omega arith) o))
      (subst (IsAnimatedFrom (b ++ more)) (ap (λ n. c + 12 + n) (sym (be32-append b more c (omega arith)))) (chunk (c + 12 + be32 b c) rest))

-- ---- what a computation says of a PNG image

module _ (by_place : ByPlace) (b : List ℕ) where
  abbrev pub known_animation : Known (OccursAt b png_header 0 × IsAnimated b)
  known_animation = both (occurs by_place png_header b 0) (do
    type ← takes (occurs by_place (codes "acTL") b 12)
    proved (here 8 type))
