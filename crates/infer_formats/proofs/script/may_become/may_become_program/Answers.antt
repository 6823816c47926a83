use Rattle.infer_formats.proofs.ScriptLemmas.{named_stays}
use Rattle.infer_formats.proofs.script.may_become.may_become_program.Goals as goal

pub returns-in-Some : goal.returns-in-Some
returns-in-Some c = λ reached. c.is_same.ensures.1 (named_stays c.args.buf.now _ c.args.name.now c.bare_name.ensures reached)
