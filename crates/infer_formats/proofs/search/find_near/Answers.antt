use Rattle.infer_formats.proofs.Common.{◌≡◌, inl, inr, ◌+◌, ◌-◌, get_or, ap, subst, sym, ◌∙◌, arith, bit_at, cases_lt, w64}
use Rattle.std.proofs.lemmas.Nat.Bits.{bit_at-trailing_zeros, bit_at-zero}
use Rattle.infer_formats.proofs.search.find_near.Goals as goal

pub returns-then-found-ne0 : goal.returns-then-found-ne0
returns-then-found-ne0 c =
    let b = c.args.buf.now in
    let from = c.loop-window.from in
    let found = c.hits-found.result in
    let (bound, set, below) = bit_at-trailing_zeros w64 found (omega (arith, c.if-found-ne0.true)) c.hits-found.type_inv in
    let (within, is) = (c.hits-found.ensures _).0 set in
    let (low, fits, none) = c.loop-window.invariant in record {
      low = omega arith;
      whole = omega (arith, c.if-buf-from-lt32.false);
      is = is;
      before = λ k least lt same. elim (cases_lt k from) [
        | inl early ↦ none k least early same
        | inr late ↦
            let here : from + (k - from) ≡ k = omega arith in
            let bit = (c.hits-found.ensures (k - from)).1 (omega arith, subst (λ i. get_or b i 0 ≡ c.args.byte) (sym here) same) in
            absurd (let no = below (k - from) (omega arith) in omega arith)
      ];
    }

pub loop-window-preserved : goal.loop-window-preserved
loop-window-preserved c =
    let b = c.args.buf.now in
    let from = c.loop-window.from in
    let (low, fits, none) = c.loop-window.invariant in (
      omega arith,
      omega (arith, c.if-buf-from-lt32.false),
      λ k least lt same. elim (cases_lt k from) [
        | inl early ↦ none k least early same
        | inr late ↦
            let here : from + (k - from) ≡ k = omega arith in
            let bit = (c.hits-found.ensures (k - from)).1 (omega arith, subst (λ i. get_or b i 0 ≡ c.args.byte) (sym here) same) in
            absurd (let no = ap (λ m. bit_at m (k - from)) c.if-found-ne0.false ∙ bit_at-zero (k - from) in omega arith)
      ],
    )
