use Rattle.std.proofs.Common.{rules, Some}
use Rattle.infer_more.specs.Text.{found_shows}
use Rattle.infer_c.proofs.infer_types_get.Goals as goal

pub returns-in-Some : goal.returns-in-Some
returns-in-Some c = λ rows described.
    let answers = c.in-Some.ensures rows described in
    let fit = c.own_sizes.ensures c.args.text.now rows c.args.buf.now (Some (found_shows c.in-Some.found)) described answers in
    search rules
