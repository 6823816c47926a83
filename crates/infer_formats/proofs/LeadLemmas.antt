-- With which byte markup begins, and that an element starts in it.
use Rattle.infer_formats.proofs.Common.{◌≡◌, inl, inr, ℕ, ◌<◌, List, Option, None, codes, length, refl, subst, ◌∙◌, arith, slice_index, cases_lt, OccursAt, OccursAt-first, IsRootElement, ReachesTag, ◌↔◌, IsTrue, IsXmlSpace, ◌⊎◌, nat_tests, [], ◌∷◌, markup_lines, StandsByPlace, accepts, stands, any_of, at_least}
use Rattle.infer_formats.specs.Laws.{BeginsMarkup, StartsAfterSpace, StartsElement}
use Rattle.infer_formats.specs.Markup.{here, later}
use Rattle.infer_sig.specs.Signature.{byte}
use Rattle.infer_formats.proofs.OutlineLemmas.{begins_among, marked}

module _ (b : List ℕ) where
  started : (t : List ℕ) → 0 < length t → slice_index t 0 ≡ 0x3C → (p : ℕ) → OccursAt b t p → slice_index b p ≡ 0x3C
  started t some first p o = OccursAt-first b t p some o ∙ first

  at_once : (p : ℕ) → slice_index b p ≡ 0x3C → StartsAfterSpace b p
  at_once p e = (p, omega arith, λ j low lt. absurd (omega arith), e)

  tag_leads : (at to p : ℕ) (d : Option ℕ) → ReachesTag b at to p d → StartsAfterSpace b p
  tag_leads at to p d (here _ _ tag) = at_once p tag.starts
  tag_leads at to p d (later _ _ q e (inl (inl (some, run), _)) rest) =
      let (k, le, spaces, starts) = tag_leads at to q e rest in
      (k, omega arith, λ j low lt. elim (cases_lt j q) [ inl l ↦ run.bytes j low l | inr l ↦ spaces j l lt ], starts)
  tag_leads at to p d (later _ _ q e (inl (inr (inl (o, _)), _)) rest) = at_once p (started (codes "<?") (omega arith) refl p o)
  tag_leads at to p d (later _ _ q e (inl (inr (inr (o, _)), _)) rest) = at_once p (started (codes "<!--") (omega arith) refl p o)
  tag_leads at to p d (later _ _ q e (inr (name, close, declared, _, _, _)) rest) = at_once p (started (codes "<!DOCTYPE") (omega arith) refl p declared.starts)

  tag_stands : (at to p : ℕ) (d : Option ℕ) → ReachesTag b at to p d → StartsElement b
  tag_stands at to p d (here _ _ tag) = (p, tag.starts, tag.begins)
  tag_stands at to p d (later _ _ q e part rest) = tag_stands at to q e rest

  pub begins_markup : (name rest : List ℕ) → IsRootElement name rest b → BeginsMarkup b
  begins_markup name rest (p, at, to, begins, leads, _, _) = elim begins [
    | inl (mark, _) ↦ inl mark
    | inr (_, e) ↦ inr (subst (StartsAfterSpace b) e (tag_leads at to p None leads))
  ]

  pub starts_element : (name rest : List ℕ) → IsRootElement name rest b → StartsElement b
  starts_element name rest (p, at, to, begins, leads, _, _) = tag_stands at to p None leads

abbrev markup_bytes : List ℕ
markup_bytes = 0x09 ∷ 0x0A ∷ 0x0D ∷ 0x20 ∷ 0x3C ∷ []

-- so the byte with which a buffer begins is one of five, or it begins with a byte order mark
module _ (by_place : (place : ℕ) (t buf : List ℕ) → IsTrue (stands place t buf) ↔ StandsByPlace place t buf) (b : List ℕ) where
  pub markup_begins : BeginsMarkup b → IsTrue (accepts markup_lines b)
  markup_begins (inl o) = marked by_place b (at_least 1 (byte 0 (any_of markup_bytes) ∷ [])) o
  markup_begins (inr (k, low, spaces, starts)) =
      let first : IsXmlSpace (slice_index b 0) ⊎ (slice_index b 0 ≡ 0x3C) = elim (cases_lt 0 k) [
        | inl lt ↦ inl (spaces 0 (omega arith) lt)
        | inr le ↦ inr (subst (λ i. slice_index b i ≡ 0x3C) (omega arith) starts)
      ] in
      begins_among by_place b markup_bytes (grind arith) (grind (arith, nat_tests))
