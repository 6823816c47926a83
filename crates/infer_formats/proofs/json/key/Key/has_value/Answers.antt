use Rattle.infer_formats.proofs.Common.{◌↔◌, IsTrue, subst, sym}
use Rattle.infer_formats.specs.FirstKey.{HasValue, StandsNext, in_quotes}
use Rattle.infer_formats.proofs.FirstKeyLemmas.{some_left}
use Rattle.infer_formats.proofs.json.key.Key.has_value.Goals as goal

pub returns : goal.returns
returns c =
    let v = c.args.value.now in
    let rest = c.args.self.now.rest.now in
    subst (λ r. IsTrue r ↔ HasValue v rest) (sym c.is_some.ensures) (some_left (StandsNext (in_quotes v) rest) c.past_quoted.result c.past_quoted.ensures)
