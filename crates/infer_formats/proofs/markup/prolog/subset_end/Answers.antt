use Rattle.infer_formats.proofs.Common.{◌≡◌, ◌↔◌, ◌⊎◌, inl, inr, ℕ, ◌+◌, ◌<◌, ◌≤◌, List, length, get_or, arith, subst, sym, FindsPlace}
use Rattle.std.proofs.Common.{◌≢◌}
use Rattle.infer_formats.specs.Markup.{EndsSubset, IsSealed, OpensSeal, ends_here}
use Rattle.infer_formats.proofs.SubsetLemmas.{beyond_byte, beyond_sealed, sealed_within, subset_within, unsealed}
use Rattle.infer_formats.proofs.markup.prolog.subset_end.Goals as goal

module _ (b : List ℕ) (p q : ℕ) (lt : p < length b) (past : IsSealed b p q ⊎ ((¬ OpensSeal b p) × (q ≡ p + 1))) where
  piece_within : (p < q) × (q ≤ length b)
  piece_within = elim past [ inl sealed ↦ sealed_within b p q sealed | inr (none, is) ↦ (omega arith, omega arith) ]

  beyond_piece : get_or b p 0 ≢ 0x5D → (end : ℕ) → EndsSubset b end p ↔ EndsSubset b end q
  beyond_piece other end = elim past [
    | inl sealed ↦ beyond_sealed b end p q sealed
    | inr (none, is) ↦ subst (λ r. EndsSubset b end p ↔ EndsSubset b end r) (sym is) (beyond_byte b end p none other)
  ]

pub returns-then-buf-place-eq93 : goal.returns-then-buf-place-eq93
returns-then-buf-place-eq93 c = (c.loop-place.invariant.1 c.loop-place.place).1 (ends_here c.if-buf-place-eq93.true)

pub returns-in_err-place : goal.returns-in_err-place
returns-in_err-place c =
    let b = c.args.buf.now in
    let place = c.loop-place.place in
    subst (FindsPlace (λ end. EndsSubset b end c.args.from)) (sym c.from_residual.ensures)
    (λ end goes. unsealed b end place c.in_err-place.ensures.0 c.in_err-place.ensures.1 ((c.loop-place.invariant.1 end).0 goes))

pub loop-place-preserved : goal.loop-place-preserved
loop-place-preserved c =
    let b = c.args.buf.now in
    let place = c.loop-place.place in
    let next = c.in_ok-place.place in (
      (piece_within b place next c.loop-place-test.true c.in_ok-place.ensures).1,
      λ end.
          let before = c.loop-place.invariant.1 end in
          let past = beyond_piece b place next c.loop-place-test.true c.in_ok-place.ensures c.if-buf-place-eq93.false end in
          (λ goes. past.0 (before.0 goes), λ goes. before.1 (past.1 goes)),
    )

pub loop-place-smaller : goal.loop-place-smaller
loop-place-smaller c =
    let past = piece_within c.args.buf.now c.loop-place.place c.in_ok-place.place c.loop-place-test.true c.in_ok-place.ensures in omega arith

pub returns : goal.returns
returns c = λ end goes.
    let within = subset_within c.args.buf.now end c.loop-place.place ((c.loop-place.invariant.1 end).0 goes) in
    let far = c.loop-place-test.false in omega arith
