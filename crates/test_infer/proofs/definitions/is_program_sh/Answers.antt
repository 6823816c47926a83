use Rattle.std.proofs.Common.{codes, subst, sym}
use Rattle.infer_formats.specs.Script.{IsProgram}
use Rattle.test_infer.proofs.definitions.is_program_sh.Goals as goal

pub returns-in-Some : goal.returns-in-Some
returns-in-Some c =
    let b = c.args.buf.now in (
      λ t. subst (λ n. IsProgram n b) (c.are_equal.ensures.0 t) c.in-Some.ensures.found,
      λ h. c.are_equal.ensures.1 (sym (c.in-Some.ensures.only (codes "sh") h)),
    )

pub returns-in-None : goal.returns-in-None
returns-in-None c = (λ t. absurd (cc), λ h. absurd (c.in-None.ensures.found (codes "sh") h))
