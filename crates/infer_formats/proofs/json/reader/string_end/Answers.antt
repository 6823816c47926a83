use Rattle.infer_formats.proofs.Common.{drop, arith, Chars}
use Rattle.infer_formats.proofs.OnwardLemmas.{onward_cut}
use Rattle.infer_formats.proofs.json.reader.string_end.Goals as goal

pub returns : goal.returns
returns c = (
  Chars,
  onward_cut Chars Chars (drop c.args.at c.args.buf.now) c.args.buf.now c.loop-i.i
      (omega arith) c.loop-i.invariant,
)
