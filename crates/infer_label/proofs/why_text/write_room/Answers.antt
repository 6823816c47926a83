use Rattle.std.proofs.Common.{◌≡◌, append-nil, codes, false, rules, subst, sym}
use Rattle.infer_label.specs.WhyText.{in_row, room_texts}
use Rattle.infer_label.specs.Writes.{Writes}
use Rattle.infer_label.proofs.WritesLemmas.{writes_both, writes_is}
use Rattle.infer_label.proofs.why_text.write_room.Goals as goal

pub returns-then-not-is_whole : goal.returns-then-not-is_whole
returns-then-not-is_whole c =
    let some : false ≡ c.args.is_whole = search rules in
    subst (λ b. Writes c.args.out.now c.write.new.self (in_row (codes "; ") c.args.before (room_texts b))) some
    (writes_both c.write_mark.ensures (writes_is (sym (append-nil (codes "and more than there is room for"))) c.write.ensures))
