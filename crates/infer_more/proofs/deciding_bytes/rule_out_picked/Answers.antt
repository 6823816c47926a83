use Rattle.infer_more.proofs.Common.{◌∙◌, IsLeast, IsTried, List, candidates, subst, sym}
use Rattle.infer_more.specs.declared.index.Entry.{Entry}
use Rattle.infer_more.proofs.RuledLemmas.{same_picked}
use Rattle.infer_more.proofs.deciding_bytes.rule_out_picked.Goals as goal

pub returns-in-Some-clause-proves : goal.returns-in-Some-clause-proves
returns-in-Some-clause-proves c = λ b bytes agrees.
    let told = c.rule_out_each.ensures.proves b bytes agrees in
    let asked = c.ask_byte.ensures.proves b bytes told.0 in
    let same = c.of.ensures ∙ (c.in-Some.ensures ∙ sym (same_picked c.args.asked.now.buf.now b c.args.index.now c.args.spot.now asked.1)) in (
      asked.0,
      subst (λ (xs : List Entry). IsLeast (IsTried c.args.asked.now.parent b (candidates b xs)) c.args.asked.now.least c.args.asked.now.least) same told.1,
    )
