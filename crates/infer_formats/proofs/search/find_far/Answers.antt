use Rattle.infer_formats.proofs.Common.{◌≡◌, ℕ, ◌-◌, ◌<◌, ◌≤◌, length, get_or, arith, subst, sym, MatchOption, IsNext}
use Rattle.infer_formats.proofs.PartLemmas.{part_has, part_lacks, part_length}
use Rattle.infer_formats.proofs.search.find_far.Goals as goal

pub returns-in_err-memchr : goal.returns-in_err-memchr
returns-in_err-memchr c =
    let b = c.args.buf.now in
    let start = c.args.start in
    let byte = c.args.byte in
    let long = part_length b start (length b) c.requires (omega arith) in
    subst (λ r. MatchOption r ((k : ℕ) → start ≤ k → k < length b → ¬ (get_or b k 0 ≡ byte)) (λ at. IsNext byte b start at)) (sym c.from_residual.ensures)
    (λ k low lt. part_lacks b start (length b) byte (length b - start) (omega arith) (λ j from less. c.in_err-memchr.ensures j from (omega arith)) k low (omega arith))

pub returns : goal.returns
returns c =
    let b = c.args.buf.now in
    let start = c.args.start in
    let k = c.in_ok-memchr.field-0 in
    let found = c.in_ok-memchr.ensures.0 in
    let long = part_length b start (length b) c.requires (omega arith) in
    let high = found.high in record {
      low = omega arith;
      whole = omega arith;
      is = part_has b start (length b) c.args.byte k (omega arith) c.in_ok-memchr.ensures.1;
      before = part_lacks b start (length b) c.args.byte k (omega arith) found.before;
    }
