use Rattle.std.proofs.Common.{[], refl}
use Rattle.infer_more.specs.Text.{IsTypesAnswer, found_shows}
use Rattle.test_infer.proofs.OneLemmas.{told_none}
use Rattle.test_infer.proofs.TypesLemmas.{IsTypesAnswer-same}
use Rattle.test_infer.proofs.definitions.has_no_answer_of_types.Goals as goal

pub returns : goal.returns
returns c =
    let b = c.args.buf.now in
    told_none (IsTypesAnswer [] b) (IsTypesAnswer-same [] b) found_shows c.get.result c.is_none.result (c.get.ensures [] refl) c.is_none.ensures
