use Rattle.std.proofs.Common.{codes, subst, sym}
use Rattle.infer_formats.specs.Markup.{IsRootElement}
use Rattle.test_infer.proofs.definitions.is_root_svg.Goals as goal

pub returns-in-Some : goal.returns-in-Some
returns-in-Some c =
    let b = c.args.buf.now in
    let root = c.in-Some.root in (
      λ t. (root.rest.now, subst (λ n. IsRootElement n root.rest.now b) (c.are_equal.ensures.0 t) c.in-Some.ensures.found),
      λ h. c.are_equal.ensures.1 (sym (c.in-Some.ensures.only (codes "svg") h.0 h.1).0),
    )

pub returns-in-None : goal.returns-in-None
returns-in-None c = (λ t. absurd (cc), λ h. absurd (c.in-None.ensures.found (codes "svg") h.0 h.1))
