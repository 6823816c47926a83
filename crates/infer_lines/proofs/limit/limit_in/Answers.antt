use Rattle.std.proofs.Common.{◌≡◌, subst}
use Rattle.infer_lines.specs.Limit.{limit_in}
use Rattle.infer_lines.proofs.LimitLemmas.{limit_none, limit_told, limit_utf8}
use Rattle.infer_lines.proofs.limit.limit_in.Goals as goal

pub returns-in-Ok : goal.returns-in-Ok
returns-in-Ok c = subst (λ text. c.limit_of.result ≡ limit_in text) c.in-Ok.ensures.cases.0 (limit_told c.in-Ok.text.now c.limit_of.result c.limit_of.ensures)

pub returns-in-Err : goal.returns-in-Err
returns-in-Err c = limit_none c.args.word.now (λ n is. c.in-Err.ensures.cases.0 (limit_utf8 c.args.word.now n is))
