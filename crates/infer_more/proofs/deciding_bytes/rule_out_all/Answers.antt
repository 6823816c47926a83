use Rattle.infer_more.proofs.Common.{IsLeast, IsTried, WidensAt, subst, sym}
use Rattle.infer_more.specs.Index.{led_rows, rows_of}
use Rattle.infer_more.proofs.RuledLemmas.{all_below, all_by_lead}
use Rattle.infer_more.proofs.deciding_bytes.rule_out_all.Goals as goal

pub returns-in-Some-clause-proves : goal.returns-in-Some-clause-proves
returns-in-Some-clause-proves c = λ b bytes agrees.
    let least = c.args.asked.now.least in
    let way = c.way_below.result.now in
    let told = c.rule_out_way.ensures.proves b bytes agrees in (
      told.0,
      subst (λ p. IsLeast (WidensAt p b) least least) (sym c.in-Some.is)
          (all_below c.in-Some.row way c.way_below.ensures.finds b bytes least (subst (λ p. IsLeast (IsTried p b (rows_of way b)) least least) c.in-Some.is told.1)),
    )

pub returns-in-None-clause-proves : goal.returns-in-None-clause-proves
returns-in-None-clause-proves c = λ b bytes agrees.
    let least = c.args.asked.now.least in
    let by_lead = c.all_by_lead.result in
    let told = c.rule_out_by_lead.ensures.proves b bytes agrees in (
      told.0,
      subst (λ p. IsLeast (WidensAt p b) least least) (sym c.in-None.is)
          (all_by_lead by_lead c.all_by_lead.ensures b bytes least (subst (λ p. IsLeast (IsTried p b (led_rows by_lead b)) least least) c.in-None.is told.1)),
    )
