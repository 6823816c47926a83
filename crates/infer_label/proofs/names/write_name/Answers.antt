use Rattle.std.proofs.Common.{subst, sym, ◌∙◌}
use Rattle.std.specs.List.{flat_map}
use Rattle.std.specs.Str.{chars}
use Rattle.infer_label.specs.Names.{char_shown}
use Rattle.infer_label.specs.Writes.{Writes}
use Rattle.infer_label.proofs.NamesLemmas.{name_of_bytes, name_of_chars, name_of_plain}
use Rattle.infer_label.proofs.names.write_name.Goals as goal

pub returns-then-is_plain : goal.returns-then-is_plain
returns-then-is_plain c =
    subst (Writes c.args.out.now c.write.new.self) (name_of_plain c.args.form c.args.name.now (sym c.is_plain.ensures ∙ c.if-is_plain.true)) c.write.ensures

pub returns-in-Ok : goal.returns-in-Ok
returns-in-Ok c =
    let (same, is) = c.in-Ok.ensures.cases in
    subst (Writes c.args.out.now c.write_chars.new.out) (sym (name_of_chars c.args.form c.args.name.now is))
    (subst (λ t. Writes c.args.out.now c.write_chars.new.out (flat_map (char_shown c.args.form) (chars t))) same c.write_chars.ensures)

pub returns-in-Err : goal.returns-in-Err
returns-in-Err c =
    let (not, place) = c.in-Err.ensures.cases in
    subst (Writes c.args.out.now c.write_bytes.new.out) (sym (name_of_bytes c.args.form c.args.name.now not)) c.write_bytes.ensures
