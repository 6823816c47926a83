use Rattle.infer.specs.Rows.{custom_rows}
use Rattle.infer.specs.Triple.{triple_of}
use Rattle.infer_more.specs.Added.{IsAnswerWith}
use Rattle.test_infer.proofs.OneLemmas.{IsAnswerWith-same, told_none}
use Rattle.test_infer.proofs.definitions.has_no_answer_with.Goals as goal

pub returns : goal.returns
returns g c =
    let own = custom_rows c.args.infer.now in
    let b = c.args.buf.now in
    told_none (IsAnswerWith own b) (IsAnswerWith-same own b) triple_of c.get_with.result c.is_none.result c.get_with.ensures c.is_none.ensures
