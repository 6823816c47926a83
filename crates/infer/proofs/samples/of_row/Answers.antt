use Rattle.infer.proofs.Common.{◌∙◌}
use Rattle.infer.proofs.SampleLemmas.{spans_fit, spans_hold}
use Rattle.infer.proofs.samples.of_row.Goals as goal

pub returns-clause-is : goal.returns-clause-is
returns-clause-is c = λ d. c.of.ensures ∙ spans_hold c.samples.result.0.now c.samples.result.1.now c.samples.ensures.is c.args.i c.requires _ d

pub returns-clause-fits : goal.returns-clause-fits
returns-clause-fits c =
    rw c.of.ensures (spans_fit c.samples.result.0.now c.samples.result.1.now c.samples.ensures.is c.samples.ensures.short c.args.i c.requires _)
