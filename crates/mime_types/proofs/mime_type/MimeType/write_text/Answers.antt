use Rattle.std.proofs.Common.{◌≡◌, arith, length, refl}
use Rattle.mime_types.specs.Groups.{essence}
use Rattle.mime_types.specs.Seen.{mime_of}
use Rattle.mime_types.specs.Serialize.{parameters_text}
use Rattle.mime_types.proofs.WroteLemmas.{then_wrote}
use Rattle.mime_types.proofs.mime_type.MimeType.write_text.Goals as goal

pub returns : goal.returns
returns c =
    let m = mime_of c.args.self.now in
    let same : length c.write_essence.new.out ≡ length c.args.out.now = omega arith in
    then_wrote (essence m.kind) (parameters_text m.parameters) _ refl c.write_essence.result c.args.out.now c.write_essence.new.out c.write_parameters.new.out 0
    c.in_ok-at.at c.write_parameters.result same c.in_ok-at.was c.write_essence.ensures c.write_parameters.ensures
