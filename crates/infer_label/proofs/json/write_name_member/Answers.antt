use Rattle.std.proofs.Common.{subst, sym}
use Rattle.infer_label.specs.Writes.{Writes}
use Rattle.infer_label.proofs.NamesLemmas.{member_of_bytes, member_of_utf8}
use Rattle.infer_label.proofs.json.write_name_member.Goals as goal

pub returns-in-Ok : goal.returns-in-Ok
returns-in-Ok c =
    let (same, is) = c.in-Ok.ensures.cases in
    subst (Writes c.args.out.now c.write_utf8_member.new.out) (sym (member_of_utf8 c.args.name.now is)) c.write_utf8_member.ensures

pub returns-in-Err : goal.returns-in-Err
returns-in-Err c =
    let (not, place) = c.in-Err.ensures.cases in
    subst (Writes c.args.out.now c.write_hex_member.new.out) (sym (member_of_bytes c.args.name.now not)) c.write_hex_member.ensures
