use Rattle.std.proofs.Common.{◌≡◌, ◌++◌, ◌∷◌, [], ℕ, List, None, arith, length, refl, rules}
use Rattle.mime_types.specs.Seen.{value_seen}
use Rattle.mime_types.specs.Serialize.{escaped}
use Rattle.mime_types.proofs.WroteLemmas.{then_none, then_wrote}
use Rattle.mime_types.proofs.write.write_quoted.Goals as goal

pub returns-in_err-at-2 : goal.returns-in_err-at-2
returns-in_err-at-2 c =
    let quote : List ℕ = 0x22 ∷ [] in
    let inside = escaped (value_seen c.args.value.now) in
    let one = c.write_byte.new.out in
    let two = c.write_escaped.new.out in
    let o = c.from_residual-in_err-at-2.result in
    let none : o ≡ None = search rules in
    let same : length one ≡ length c.args.out.now = omega arith in
    then_wrote quote (inside ++ quote) _ refl c.write_byte.result c.args.out.now one two c.args.at c.in_ok-at.at o same c.in_ok-at.was c.write_byte.ensures
    (then_none inside quote _ refl c.write_escaped.result one two c.in_ok-at.at o (c.in_err-at-2.was {u = tt}) none c.write_escaped.ensures)

pub returns : goal.returns
returns c =
    let quote : List ℕ = 0x22 ∷ [] in
    let inside = escaped (value_seen c.args.value.now) in
    let one = c.write_byte.new.out in
    let two = c.write_escaped.new.out in
    let all = c.write_byte-2.new.out in
    let o = c.write_byte-2.result in
    let same : length one ≡ length c.args.out.now = omega arith in
    let also : length two ≡ length one = omega arith in
    then_wrote quote (inside ++ quote) _ refl c.write_byte.result c.args.out.now one all c.args.at c.in_ok-at.at o same c.in_ok-at.was c.write_byte.ensures
    (then_wrote inside quote _ refl c.write_escaped.result one two all c.in_ok-at.at c.in_ok-at-2.at o also c.in_ok-at-2.was c.write_escaped.ensures
    c.write_byte-2.ensures)
