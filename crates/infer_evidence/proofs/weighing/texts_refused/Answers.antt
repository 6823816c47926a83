use Rattle.infer_evidence.proofs.Common.{arith, get_or}
use Rattle.infer_evidence.proofs.RangeLemmas.{in_a_row}
use Rattle.infer_evidence.proofs.PartLemmas.{not_within}
use Rattle.infer_evidence.proofs.weighing.texts_refused.Goals as goal

pub returns-clause-proves : goal.returns-clause-proves
returns-clause-proves c =
    λ b same k d lt h. not_within c.args.place (get_or c.args.texts.now k d).now c.args.buf.now b _ _ _ (c.longest-longest.ensures k d lt) c.min-place.ensures c.min-len.ensures same.1 (λ j low high. in_a_row c.args.buf.now b c.new.result c.new.ensures.step same.0 j (grind (arith, low, c.new.ensures)) (grind (arith, high, c.new.ensures))) (c.requires k d lt) h
