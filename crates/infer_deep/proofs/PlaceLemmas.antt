-- A text stands at a place of a buffer: in one that grows it, in a part of it, beside other texts.
use Rattle.infer_deep.proofs.Common.{◌≡◌, ℕ, ◌+◌, ◌-◌, ◌<◌, ◌≤◌, List, [], ◌∷◌, ◌++◌, length, get_or, take, drop, sym, ap, subst, ◌∙◌, ◌↔◌, arith, add-zero, zero-add, length-append, length-drop, length-take, get_or_append_left, get_or-take, get_or-drop, take_rest, front_fits, at_reads, at_from_reads, OccursAt, IsFirstPlace}

-- it stands in each buffer that grows the buffer
pub OccursAt-append : (b more text : List ℕ) (p : ℕ) → OccursAt b text p → OccursAt (b ++ more) text p
OccursAt-append b more text p o = grind (arith, length-append, get_or_append_left)

-- and if it ends in the buffer, it stands there
pub OccursAt-front : (b more text : List ℕ) (p : ℕ)
    → p + length text ≤ length b → OccursAt (b ++ more) text p → OccursAt b text p
OccursAt-front b more text p f o = grind (arith, get_or_append_left)

-- what stands in b and ends by n stands in c
abbrev pub Carries : ℕ → List ℕ → List ℕ → Type 0
Carries n b c = (text : List ℕ) (p : ℕ) → p + length text ≤ n → OccursAt b text p → OccursAt c text p

-- the byte at its place is its first
pub OccursAt-first : (b text : List ℕ) (p : ℕ) → 0 < length text → OccursAt b text p → get_or b p 0 ≡ get_or text 0 0
OccursAt-first b text p l o = rw add-zero at (o.reads 0 l)

-- and a byte is a text
pub byte_stands : (b : List ℕ) (x p : ℕ) → p < length b → get_or b p 0 ≡ x → OccursAt b (x ∷ []) p
byte_stands b x p l is = grind (arith, add-zero)

-- two texts at one place have the same bytes
pub OccursAt-agree : (b v w : List ℕ) (p i : ℕ)
    → OccursAt b v p → OccursAt b w p → i < length v → i < length w → get_or v i 0 ≡ get_or w i 0
OccursAt-agree b v w p i o k in_v in_w = sym (o.reads i in_v) ∙ k.reads i in_w

-- what stands at 0 is a front
pub begins-from_OccursAt : (b text : List ℕ) → OccursAt b text 0 → b ≡ text ++ take (length b - length text) (drop (length text) b)
begins-from_OccursAt b text o = simp zero-add at (at_from_reads 0 b text 0 o.fits o.reads) ∙ ap (λ u. text ++ u) (sym (take_rest b (length text)))

pub OccursAt-begins : (b text rest : List ℕ) → b ≡ text ++ rest → OccursAt b text 0
OccursAt-begins b text rest e = record { fits = let f = front_fits b text rest e in omega arith; reads = at_reads 0 b text 0 rest e }

-- the reads of a part
pub part_reads : (b : List ℕ) (s e i : ℕ) → s + i < e → get_or (take (e - s) (drop s b)) i 0 ≡ get_or b (s + i) 0
part_reads b s e i l = get_or-take (e - s) (drop s b) i 0 (omega arith) ∙ get_or-drop s b i 0

-- a text stands at a place of a part exactly if it stands there in the buffer and ends in the part
pub OccursAt-part : (b text : List ℕ) (s e k : ℕ) → s ≤ e → e ≤ length b
    → OccursAt (take (e - s) (drop s b)) text k ↔ (OccursAt b text (s + k) × (s + k + length text ≤ e))
OccursAt-part b text s e k l h = grind (arith, length-take, length-drop, part_reads)

-- one place at most has the property
abbrev pub IsUnique : (ℕ → Type 0) → Type 0
IsUnique P = (p q : ℕ) → P p → P q → p ≡ q

-- a text stands at what the one place gives exactly if it stands at what some such place gives
module _ (P : ℕ → Type 0) (one : IsUnique P) (b : List ℕ) (at : ℕ → ℕ) where
  pub stands_at_one : (text : List ℕ) (p : ℕ) → P p → OccursAt b text (at p) ↔ ((q : ℕ) × P q × OccursAt b text (at q))
  stands_at_one text p here = (λ o. (p, here, o), λ (q, there, o). subst (λ x. OccursAt b text (at x)) (one q p there here) o)

  -- and two texts that differ in a byte do not both
  pub apart_at_one : (v w : List ℕ) (i : ℕ) → i < length v → i < length w → (get_or v i 0 ≡ get_or w i 0 → ⊥)
      → ((p : ℕ) × P p × OccursAt b v (at p)) → ¬ ((p : ℕ) × P p × OccursAt b w (at p))
  apart_at_one v w i in_v in_w differ (p, here, o) there = grind (arith, OccursAt-agree b v w (at p) i o ((stands_at_one w p here).1 there) in_v in_w, stands_at_one w p here)

-- a least place is one place, and stays it in a buffer that grows
pub IsFirstPlace-same : (At : List ℕ → List ℕ → ℕ → Type 0) (b text : List ℕ) (start end : ℕ) → IsUnique (IsFirstPlace At b text start end)
IsFirstPlace-same At b text start end p q f g = grind arith

pub IsFirstPlace-append : (b more text : List ℕ) (start end p : ℕ)
    → IsFirstPlace OccursAt b text start end p → IsFirstPlace OccursAt (b ++ more) text start end p
IsFirstPlace-append b more text start end p f =
    record { here = grind (arith, OccursAt-append b more text p); before = λ q lt w. grind (arith, f.before q, OccursAt-front b more text q) }
