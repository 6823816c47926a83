use Rattle.std.proofs.Common.{◌≡◌, ◌++◌, ◌∷◌, [], None, arith, length, refl, rules}
use Rattle.mime_types.specs.Seen.{value_seen}
use Rattle.mime_types.specs.Serialize.{value_text}
use Rattle.mime_types.specs.Text.{lower}
use Rattle.mime_types.proofs.WroteLemmas.{then_none, then_wrote}
use Rattle.mime_types.proofs.write.write_parameter.Goals as goal

pub returns-in_err-at-2 : goal.returns-in_err-at-2
returns-in_err-at-2 c =
    let name = lower c.args.parameter.now.name.now in
    let value = 0x3D ∷ value_text (value_seen c.args.parameter.now.value) in
    let one = c.write_byte.new.out in
    let two = c.write_lower.new.out in
    let o = c.from_residual-in_err-at-2.result in
    let none : o ≡ None = search rules in
    let same : length one ≡ length c.args.out.now = omega arith in
    then_wrote (0x3B ∷ []) (name ++ value) _ refl c.write_byte.result c.args.out.now one two c.args.at c.in_ok-at.at o same c.in_ok-at.was c.write_byte.ensures
    (then_none name value _ refl c.write_lower.result one two c.in_ok-at.at o (c.in_err-at-2.was {u = tt}) none c.write_lower.ensures)

pub returns-in_err-at-3 : goal.returns-in_err-at-3
returns-in_err-at-3 c =
    let name = lower c.args.parameter.now.name.now in
    let value = value_text (value_seen c.args.parameter.now.value) in
    let one = c.write_byte.new.out in
    let two = c.write_lower.new.out in
    let three = c.write_byte-2.new.out in
    let o = c.from_residual-in_err-at-3.result in
    let none : o ≡ None = search rules in
    let same : length one ≡ length c.args.out.now = omega arith in
    let also : length two ≡ length one = omega arith in
    then_wrote (0x3B ∷ []) (name ++ 0x3D ∷ value) _ refl c.write_byte.result c.args.out.now one three c.args.at c.in_ok-at.at o same c.in_ok-at.was c.write_byte.ensures
    (then_wrote name (0x3D ∷ value) _ refl c.write_lower.result one two three c.in_ok-at.at c.in_ok-at-2.at o also c.in_ok-at-2.was c.write_lower.ensures
    (then_none (0x3D ∷ []) value _ refl c.write_byte-2.result two three c.in_ok-at-2.at o (c.in_err-at-3.was {u = tt}) none c.write_byte-2.ensures))

pub returns : goal.returns
returns c =
    let name = lower c.args.parameter.now.name.now in
    let value = value_text (value_seen c.args.parameter.now.value) in
    let one = c.write_byte.new.out in
    let two = c.write_lower.new.out in
    let three = c.write_byte-2.new.out in
    let all = c.write_value.new.out in
    let o = c.write_value.result in
    let same : length one ≡ length c.args.out.now = omega arith in
    let also : length two ≡ length one = omega arith in
    let third : length three ≡ length two = omega arith in
    then_wrote (0x3B ∷ []) (name ++ 0x3D ∷ value) _ refl c.write_byte.result c.args.out.now one all c.args.at c.in_ok-at.at o same c.in_ok-at.was c.write_byte.ensures
    (then_wrote name (0x3D ∷ value) _ refl c.write_lower.result one two all c.in_ok-at.at c.in_ok-at-2.at o also c.in_ok-at-2.was c.write_lower.ensures
    (then_wrote (0x3D ∷ []) value _ refl c.write_byte-2.result two three all c.in_ok-at-2.at c.in_ok-at-3.at o third c.in_ok-at-3.was c.write_byte-2.ensures
    c.write_value.ensures))
