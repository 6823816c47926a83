use Rattle.infer_formats.proofs.Common.{IsProgram, false≢true, subst, sym}
use Rattle.infer_formats.proofs.script.is_program.Goals as goal

pub returns-in-Some : goal.returns-in-Some
returns-in-Some c = (
  λ e. subst (λ n. IsProgram n c.args.buf.now) (c.is_same.ensures.0 e) c.in-Some.ensures.found,
  λ h. c.is_same.ensures.1 (sym (c.in-Some.ensures.only c.args.name.now h)),
)

pub returns-in-None : goal.returns-in-None
returns-in-None c = (λ e. absurd (false≢true e), λ h. absurd (c.in-None.ensures.found c.args.name.now h))
