use Rattle.std.proofs.Common.{◌∙◌, ◌&&◌, ap, sym}
use Rattle.std.specs.Str.{bytes_eq}
use Rattle.mime_types.specs.Parameters.{is_valid}
use Rattle.mime_types.specs.Seen.{parameter_seen}
use Rattle.mime_types.specs.Text.{lower}
use Rattle.mime_types.proofs.FirstLemmas.{and_swapped, same_test}
use Rattle.mime_types.proofs.first.is_named.Goals as goal

pub returns-then-is_alike : goal.returns-then-is_alike
returns-then-is_alike c =
    let p = parameter_seen c.args.parameter.now in
    let same = sym c.if-is_alike.true ∙ same_test c.is_alike.result (lower c.args.parameter.now.name.now) (lower c.args.name.now) c.is_alike.ensures in
    c.is_valid.ensures ∙ (ap (λ b. b && is_valid p) same ∙ and_swapped (bytes_eq p.name (lower c.args.name.now)) (is_valid p))

pub returns-else-is_alike : goal.returns-else-is_alike
returns-else-is_alike c =
    let p = parameter_seen c.args.parameter.now in
    let same = sym c.if-is_alike.false ∙ same_test c.is_alike.result (lower c.args.parameter.now.name.now) (lower c.args.name.now) c.is_alike.ensures in
    c.if-is_alike.false ∙ (ap (λ b. b && is_valid p) same ∙ and_swapped (bytes_eq p.name (lower c.args.name.now)) (is_valid p))
