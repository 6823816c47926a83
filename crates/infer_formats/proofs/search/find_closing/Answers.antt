use Rattle.infer_formats.proofs.Common.{◌≡◌, inl, inr, ℕ, ◌+◌, ◌-◌, ◌<◌, ◌≤◌, List, length, get_or, arith, subst, sym, cases_lt, OccursAt, IsFirstWithin, IsWithin, IsFirstWithin-skip}
use Rattle.infer_formats.proofs.search.find_closing.Goals as goal

-- where the last byte of the text is not, the text does not stand
none_to : (b text : List ℕ) (start last end : ℕ) → last + 1 ≡ length text
    → ((k : ℕ) → start + last ≤ k → k < end → ¬ (get_or b k 0 ≡ get_or text last 0))
    → (q : ℕ) → q + last < end → ¬ IsWithin OccursAt b text start (length b) q
none_to b text start last end is lacks q lt w =
    let low = w.low in lacks (q + last) (omega arith) lt (w.stands.reads last (omega arith))

pub returns-in_err-place : goal.returns-in_err-place
returns-in_err-place g c =
    let b = c.args.buf.now in
    let text = c.args.text.now in
    let start = c.args.start in
    subst (IsFirstWithin OccursAt b text start (length b)) (sym c.from_residual.ensures)
    (λ p w.
    let high = w.high in
    none_to b text start (g.row.N - 1) (length b) (omega arith) c.in_err-place.ensures p (omega arith) w)

pub returns-then-same_at : goal.returns-then-same_at
returns-then-same_at g c =
    let b = c.args.buf.now in
    let text = c.args.text.now in
    let start = c.args.start in
    let next = c.in_ok-place.ensures in
    let stands = c.same_at.ensures.0 c.if-same_at.true in
    let low = next.low in record {
      here = record { stands = stands; low = omega arith; high = stands.fits };
      before = λ q lt. none_to b text start (g.row.N - 1) c.in_ok-place.field-0 (omega arith) next.before q (omega arith);
    }

pub returns : goal.returns
returns g c =
    let b = c.args.buf.now in
    let text = c.args.text.now in
    let start = c.args.start in
    let last = g.row.N - 1 in
    let at = c.in_ok-place.field-0 in
    let next = c.in_ok-place.ensures in
    let low = next.low in
    let whole = next.whole in
    let none = none_to b text start last at (omega arith) next.before in
    IsFirstWithin-skip b text start (at - last + 1) (length b) (omega arith)
    (λ q lt w. elim (cases_lt (q + last) at) [
      | inl early ↦ none q early w
      | inr late ↦
          let same : q ≡ at - last = omega arith in
          let is = c.same_at.ensures.1 (subst (OccursAt b text) same w.stands) in absurd (cc)
    ]) _ c.find_later.ensures
