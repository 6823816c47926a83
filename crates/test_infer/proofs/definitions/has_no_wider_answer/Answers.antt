use Rattle.infer.specs.Triple.{triple_of}
use Rattle.infer_more.specs.Wider.{IsWiderAnswer}
use Rattle.test_infer.proofs.OneLemmas.{IsWiderAnswer-same, told_none}
use Rattle.test_infer.proofs.definitions.has_no_wider_answer.Goals as goal

pub returns : goal.returns
returns c =
    let b = c.args.buf.now in
    told_none (IsWiderAnswer b) (IsWiderAnswer-same b) triple_of c.get.result c.is_none.result c.get.ensures c.is_none.ensures
