use Rattle.infer_formats.proofs.Common.{drop, arith, Integer}
use Rattle.infer_formats.proofs.OnwardLemmas.{onward_cut}
use Rattle.infer_formats.proofs.json.reader.number_end.Goals as goal

pub returns : goal.returns
returns c = (
  Integer,
  onward_cut Integer Integer (drop c.args.at c.args.buf.now) c.args.buf.now c.loop-i.i
      (omega arith) c.loop-i.invariant,
)
