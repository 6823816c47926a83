use Rattle.std.proofs.Common.{codes, false, refl, subst, ◌++◌}
use Rattle.infer_label.specs.Why.{why_listed}
use Rattle.infer_label.specs.Writes.{Writes}
use Rattle.infer_label.specs.WhyText.{in_row, length_texts, other_texts, own_texts, room_texts}
use Rattle.infer_label.proofs.WhyLemmas.{continued}
use Rattle.infer_label.proofs.why_text.write_reasons.Goals as goal

pub returns : goal.returns
returns c =
    let why = why_listed c.args.why.now in
    let own = own_texts why.reasons in
    let others = own ++ other_texts why.reasons in
    let length = others ++ length_texts why in
    let this = continued (codes "; ") false own (other_texts why.reasons) (c.write_own-before.ensures.texts, c.write_own-before.ensures.before)
    c.write_others-before.ensures.texts c.write_others-before.ensures.before in
    let then = continued (codes "; ") false others (length_texts why) this c.write_length-before.ensures.texts c.write_length-before.ensures.before in
    let room = subst (λ is. Writes c.write_length-before.new.out c.write_room.new.out (in_row (codes "; ") c.write_length-before.result (room_texts is))) c.is_whole.ensures c.write_room.ensures in
    (continued (codes "; ") false length (room_texts why.is_whole) then room refl).0
