use Rattle.infer_tool.proofs.Common.{ap, arith, refl, ◌∙◌, outcome_after, has_failed, inner, Known}
use Rattle.infer_lines.proofs.SaidLemmas.{keeps_unless_failed}
use Rattle.infer_tool.proofs.SampleLemmas.{never_sampled, sample-written, sampled}
use Rattle.infer.proofs.OrderLemmas.{some_row}
use Rattle.infer_tool.proofs.sample.run_sample.Goals as goal

pub returns-in-Some-sample-clause-none : goal.returns-in-Some-sample-clause-none
returns-in-Some-sample-clause-none g c = λ none.
    absurd (none c.in-Some.row (sampled c.args.extension.now c.in-Some.row c.in-Some.ensures (λ past. absurd (let h = c.in-Some-sample.ensures.none.1 past in cc))))

pub returns-in-Some-sample-clause-sample : goal.returns-in-Some-sample-clause-sample
returns-in-Some-sample-clause-sample g c = λ i has. (
  Known,
  c.failed_if.ensures ∙ ap (λ f. outcome_after f Known) c.has_failed.ensures,
  (
    refl,
    sample-written c.args.extension.now i c.in-Some.row c.in-Some-sample.count c.sample.new.out (has_failed c.write_all.new.self)
        (g.W.Write.contents (inner c.args.output.now.out)) (g.W.Write.contents (inner c.write_all.new.self))
        has c.in-Some.ensures c.in-Some-sample.ensures.holds c.write_all.ensures.bytes,
    keeps_unless_failed (has_failed c.args.output.now.err) (g.E.Write.contents (inner c.args.output.now.err)),
  ),
)

pub returns-in-None-clause-sample : goal.returns-in-None-clause-sample
returns-in-None-clause-sample g c = λ i has. absurd (never_sampled c.args.extension.now c.numbers.ensures.many i c.in-Some.row has c.in-Some.ensures (c.in-None.ensures.none.0 refl))

pub returns-in_default-clause-sample : goal.returns-in_default-clause-sample
returns-in_default-clause-sample g c = λ i has. absurd (c.in_default.ensures i some_row (omega arith) has.0.within (has.0.here some_row))
