use Rattle.infer_formats.proofs.Common.{◌≤◌, length, arith, sym, eqb-true, nat_tests}
use Rattle.infer_formats.proofs.TokenLemmas.{json_nothing, on_shut}
use Rattle.infer_formats.proofs.json.may_begin.Goals as goal

pub returns-then-is_empty : goal.returns-then-is_empty
returns-then-is_empty c = json_nothing c.args.buf.now (eqb-true _ 0 (sym c.if-is_empty.ensures))

pub returns : goal.returns
returns c =
    let some : 1 ≤ length c.args.buf.now = grind (arith, nat_tests, c.if-is_empty.ensures) in
    on_shut c.args.buf.now c.begins_json.result some c.begins_json.ensures.1
