-- What texts begin with: what more bytes keep and may bring, and what a computation says of it.
use Rattle.infer_formats.proofs.Common.{[], IsFirstWithin, Option, None, Some, is_some, refl, ◌↔◌, ◌⊎◌, inl, inr, ℕ, ◌+◌, IsTrue, List, ◌∷◌, ◌++◌, length, suc, arith, OccursAt, OccursAt-append, AgreesAt, MayBecome, grown_agrees, StandsByPlace, accepts, stands, at_least, utf8_mark}
use Rattle.infer_formats.specs.Begins.{Begins, BeginsAndHas, BeginsAndHasAll}
use Rattle.infer_formats.proofs.OutlineLemmas.{marked, marked_line, occurs, one}
use Rattle.infer_formats.specs.Outline.{first_lines}
use Rattle.infer_sig.specs.Signature.{text}
use Rattle.infer_sig.proofs.KnownLemmas.{Known, both, either, needs, proved, refuted_if, ◌>>=◌}
use Rattle.infer_sig.proofs.OccurrenceLemmas.{ByPlace, lacks, nowhere_from}
use Rattle.infer_sig.proofs.OccurrenceLemmas as Place

module _ (b more t : List ℕ) where
  pub begins-lasts : Begins t b → Begins t (b ++ more)
  begins-lasts (inl o) = inl (OccursAt-append b more t 0 o)
  begins-lasts (inr (mark, o)) = inr (OccursAt-append b more utf8_mark 0 mark, OccursAt-append b more t 3 o)

  pub begins_and_has-lasts : (u : List ℕ) → BeginsAndHas t u b → BeginsAndHas t u (b ++ more)
  begins_and_has-lasts u (h, (p, o)) = (begins-lasts h, (p, OccursAt-append b more u p o))

  pub begins_and_has_all-lasts : (u v w : List ℕ) → BeginsAndHasAll t u v w b → BeginsAndHasAll t u v w (b ++ more)
  begins_and_has_all-lasts u v w (h, (p, o), (q, n), (r, m)) =
      (begins-lasts h, (p, OccursAt-append b more u p o), (q, OccursAt-append b more v q n), (r, OccursAt-append b more w r m))

pub finds_somewhere : (b u : List ℕ) (r : Option ℕ) → IsFirstWithin OccursAt b u 0 (length b) r → IsTrue (is_some r) ↔ ((p : ℕ) × OccursAt b u p)
finds_somewhere b u (Some p) first = (λ is. (p, first.here.stands), λ has. refl)
finds_somewhere b u None none = (λ is. absurd (cc), λ (p, o). absurd (none p (record { stands = o; low = omega arith; high = o.fits })))

pub begins_known : (t b : List ℕ) → MayBecome (Begins t) b → AgreesAt b t 0 ⊎ (AgreesAt b utf8_mark 0 × AgreesAt b t 3)
begins_known t b (more, bytes, inl o) = inl (grown_agrees b more t 0 o)
begins_known t b (more, bytes, inr (mark, o)) = inr (grown_agrees b more utf8_mark 0 mark, grown_agrees b more t 3 o)

pub begins_lines : (by_place : (place : ℕ) (t buf : List ℕ) → IsTrue (stands place t buf) ↔ StandsByPlace place t buf) (b t : List ℕ) → Begins t b
    → IsTrue (accepts (first_lines t) b)
begins_lines by_place b t (inl o) = one by_place b (length t) (text 0 t) (marked_line ∷ []) (let fits = o.fits in omega arith) (occurs by_place b 0 t o)
begins_lines by_place b t (inr (mark, o)) = marked by_place b (at_least (length t) (text 0 t ∷ [])) mark

-- ---- what a computation says of it

module _ (by_place : ByPlace) (b : List ℕ) where
  abbrev pub known_begins : (t : List ℕ) → Known (Begins t b)
  known_begins t = either (Place.occurs by_place t b 0) (both (Place.occurs by_place utf8_mark b 0) (Place.occurs by_place t b 3))

  -- the second text stands right after the first, or nowhere
  abbrev known_somewhere : (u : List ℕ) (p : ℕ) → Known ((p : ℕ) × OccursAt b u p)
  known_somewhere u p = elim (Place.occurs by_place u b p) [
    | proved o ↦ proved (p, o)
    | other ↦ refuted_if (lacks 0 (suc (length b)) u b) (λ none. λ (q, o). nowhere_from by_place u b 0 q (omega arith) none o)
  ]

  abbrev pub known_begins_and_has : (t u : List ℕ) → Known (BeginsAndHas t u b)
  known_begins_and_has t u = do
    begun ← needs (known_begins t) (λ h. h.0)
    there ← needs (known_somewhere u (length t)) (λ h. h.1)
    proved (begun, there)

  -- the others stand one after the other, or nowhere
  abbrev pub known_begins_and_has_all : (t u v w : List ℕ) → Known (BeginsAndHasAll t u v w b)
  known_begins_and_has_all t u v w = do
    begun ← needs (known_begins t) (λ h. h.0)
    first ← needs (known_somewhere u (length t)) (λ h. h.1)
    second ← needs (known_somewhere v (length t + length u)) (λ h. h.2)
    third ← needs (known_somewhere w (length t + length u + length v)) (λ h. h.3)
    proved (begun, first, second, third)
