use Rattle.infer_more.proofs.Common.{ap, sym, subst, ◌∙◌, false≢true, Accepted, fields_listed}
use Rattle.infer_more.specs.Line.{Row}
use Rattle.infer_more.proofs.FieldLemmas.{says}
use Rattle.infer_more.proofs.types.line.answers.Goals as goal

pub returns-then-not-is_below : goal.returns-then-not-is_below
returns-then-not-is_below c = λ own e.
    let said = says (fields_listed c.args.fields) own e in
    let below = c.is_below.ensures said.parent said.is_parent in
    let parent = ap (λ (r : Row). r.parent) said.is in
    (λ f. absurd (false≢true f), λ (p, a). sym c.if-not-is_below.true ∙ below.1 (sym parent ∙ p))

pub returns : goal.returns
returns c = λ own e.
    let said = says (fields_listed c.args.fields) own e in
    let below = c.is_below.ensures said.parent said.is_parent in
    let parent = ap (λ (r : Row). r.parent) said.is in
    let signature = ap (λ (r : Row). r.signature) said.is in
    let known = c.accepts_known.ensures said.signature said.is_signature in (
      λ t. (parent ∙ below.0 c.if-not-is_below.false, subst (λ s. Accepted s c.args.buf.now) (sym signature) (known.0 t)),
      λ (p, a). known.1 (subst (λ s. Accepted s c.args.buf.now) signature a),
    )
