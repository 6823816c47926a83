use Rattle.infer.specs.declared.table.rows.TheConstants.{ROW_COUNT}
use Rattle.infer_more.specs.Wider.{IsWider}
use Rattle.test_infer.proofs.OneLemmas.{IsWider-same, is_none, is_one}
use Rattle.test_infer.proofs.definitions.is_object.Goals as goal

pub returns-in-Some : goal.returns-in-Some
returns-in-Some c =
    let b = c.args.buf.now in
    let told = is_one (IsWider b) (IsWider-same b) ROW_COUNT c.in-Some.row c.in-Some.ensures.wider in
    record { wider = told; answer = told }

pub returns-in-None : goal.returns-in-None
returns-in-None c =
    let b = c.args.buf.now in
    let told = is_none (IsWider b) (IsWider-same b) ROW_COUNT c.in-None.ensures.wider in
    record { wider = told; answer = told }
