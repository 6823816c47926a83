use Rattle.std.proofs.Common.{◌≡◌, ◌∷◌, [], arith, length, refl}
use Rattle.mime_types.specs.Text.{lower}
use Rattle.mime_types.proofs.WroteLemmas.{then_wrote}
use Rattle.mime_types.proofs.mime_type.MimeType.write_essence.Goals as goal

pub returns : goal.returns
returns c =
    let type_name = lower c.args.self.now.type_name.now in
    let subtype = lower c.args.self.now.subtype.now in
    let one = c.write_lower.new.out in
    let two = c.write_byte.new.out in
    let all = c.write_lower-2.new.out in
    let o = c.write_lower-2.result in
    let same : length one ≡ length c.args.out.now = omega arith in
    let also : length two ≡ length one = omega arith in
    then_wrote type_name (0x2F ∷ subtype) _ refl c.write_lower.result c.args.out.now one all 0 c.in_ok-at.at o same c.in_ok-at.was c.write_lower.ensures
    (then_wrote (0x2F ∷ []) subtype _ refl c.write_byte.result one two all c.in_ok-at.at c.in_ok-at-2.at o also c.in_ok-at-2.was c.write_byte.ensures
    c.write_lower-2.ensures)
