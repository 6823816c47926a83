use Rattle.infer_formats.proofs.Common.{◌≡◌, ℕ, ◌+◌, ◌-◌, ◌<◌, ◌≤◌, List, true, length, get_or, take, drop, arith, nat_tests, sym, subst, ap, ◌∙◌, FindsPlace, IsRun, Nowhere, Passes, part_reads}
use Rattle.memchr.specs.Find.{is_byte2}
use Rattle.infer_formats.specs.Markup.{IsPlainByte}
use Rattle.infer_formats.proofs.PartLemmas.{part_length}
use Rattle.infer_formats.proofs.markup.prolog.plain_end.Goals as goal

module _ (b : List ℕ) (s : ℕ) (within : s ≤ length b) where
  -- a byte that the search passed over is plain
  plain : (k : ℕ) → k ≤ length b - s → Nowhere (Passes (is_byte2 0x3E 0x5B) (take (length b - s) (drop s b))) 0 k
      → (j : ℕ) → s ≤ j → j < s + k → IsPlainByte (get_or b j 0)
  plain k high none j low lt =
      let same : s + (j - s) ≡ j = omega arith in
      let read = part_reads b s (length b) (j - s) (omega arith) ∙ ap (λ i. get_or b i 0) same in
      let passed = λ (is : is_byte2 0x3E 0x5B (get_or b j 0) ≡ true). none (j - s) (omega arith) (omega arith) (ap (is_byte2 0x3E 0x5B) read ∙ is) in
      ((λ e. passed (grind (arith, nat_tests))), (λ e. passed (grind (arith, nat_tests))))

  -- and one that it found is not
  found : (k : ℕ) → s + k < length b → Passes (is_byte2 0x3E 0x5B) (take (length b - s) (drop s b)) k → ¬ IsPlainByte (get_or b (s + k) 0)
  found k lt passes (no_close, no_bracket) =
      let is = ap (is_byte2 0x3E 0x5B) (sym (part_reads b s (length b) k lt)) ∙ passes in
      grind (arith, nat_tests)

pub returns-in_err-memchr2 : goal.returns-in_err-memchr2
returns-in_err-memchr2 c =
    let b = c.args.buf.now in
    let from = c.args.from in
    let long = part_length b from (length b) c.requires (omega arith) in
    subst (FindsPlace (IsRun IsPlainByte b from)) (sym c.from_residual.ensures)
    (λ to run.
    let order = run.order in
    let whole = run.whole in
    run.ends (plain b from c.requires (length b - from) (omega arith) (λ j low less. c.in_err-memchr2.ensures j low (omega arith)) to order (omega arith)))

pub returns : goal.returns
returns c =
    let b = c.args.buf.now in
    let from = c.args.from in
    let k = c.in_ok-memchr2.field-0 in
    let told = c.in_ok-memchr2.ensures.0 in
    let long = part_length b from (length b) c.requires (omega arith) in
    let high = told.high in record {
      order = omega arith;
      bytes = plain b from c.requires k (omega arith) told.before;
      whole = omega arith;
      ends = found b from c.requires k (omega arith) c.in_ok-memchr2.ensures.1;
    }
