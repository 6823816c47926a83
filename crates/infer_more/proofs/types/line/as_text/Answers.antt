use Rattle.std.proofs.lemmas.Str.{IsUtf8-from_ascii}
use Rattle.infer_more.proofs.types.line.as_text.Goals as goal

pub returns-in-Err : goal.returns-in-Err
returns-in-Err c = λ ascii. absurd (c.in-Err.ensures.cases.0 (IsUtf8-from_ascii c.args.bytes.now ascii))
