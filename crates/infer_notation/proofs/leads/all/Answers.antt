use Rattle.infer_notation.proofs.Common.{rules}
use Rattle.infer_notation.proofs.LeadLemmas.{all_last}
use Rattle.infer_notation.proofs.leads.all.Goals as goal

pub returns : goal.returns
returns c =
    all_last c.args.bytes c.args.others c.in_ok-one.one c.in_ok-two.two c.in_ok-three.three c.with-4.result (search rules) c.in_ok-one.ensures c.in_ok-two.ensures c.in_ok-three.ensures c.with-4.ensures
