use Rattle.std.proofs.Common.{codes, sym, ◌∙◌}
use Rattle.infer.specs.Triple.{triple_of}
use Rattle.test_infer.proofs.OneLemmas.{told_label}
use Rattle.test_infer.proofs.definitions.is_labelled_png.Goals as goal

pub returns-in-Some : goal.returns-in-Some
returns-in-Some c =
    let shown = c.as_bytes.ensures.value ∙ c.mime_type.ensures in
    let told = told_label c.args.buf.now (codes "image/png") (triple_of c.in-Some.found) c.in-Some.ensures in
    (λ t. told.0 (sym shown ∙ c.are_equal.ensures.0 t), λ h. c.are_equal.ensures.1 (shown ∙ told.1 h))
