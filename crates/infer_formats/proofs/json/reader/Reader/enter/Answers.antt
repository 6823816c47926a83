use Rattle.infer_formats.proofs.Common.{arith}
use Rattle.infer_formats.proofs.ReaderLemmas.{enters_no_more, enters_more, bits_fit}
use Rattle.infer_formats.proofs.json.reader.Reader.enter.Goals as goal

pub returns-then-self-eq-MOST_DEPTH : goal.returns-then-self-eq-MOST_DEPTH
returns-then-self-eq-MOST_DEPTH c ss v =
    enters_no_more c.args.self.now.depth c.args.self.now.kinds c.args.kind ss v c.if-self-eq-MOST_DEPTH.true

pub overflow_mul-self : goal.overflow_mul-self
overflow_mul-self c =
    let s = c.args.self.now in
    let fit = bits_fit s.depth s.kinds c.args.kind (omega arith) c.requires.nested.1.1 c.requires.kind in
    omega arith

pub overflow_add-self-2 : goal.overflow_add-self-2
overflow_add-self-2 c =
    let s = c.args.self.now in
    let fit = bits_fit s.depth s.kinds c.args.kind (omega arith) c.requires.nested.1.1 c.requires.kind in
    omega arith

pub returns : goal.returns
returns c =
    let s = c.args.self.now in
    let fit = bits_fit s.depth s.kinds c.args.kind (omega arith) c.requires.nested.1.1 c.requires.kind in (
      (omega arith, fit.0),
      λ e. absurd (omega arith),
      λ ss v. enters_more s.depth s.kinds c.args.kind ss v
          (omega arith) c.requires.kind,
    )
