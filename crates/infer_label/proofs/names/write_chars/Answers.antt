use Rattle.std.proofs.Common.{subst, sym, ◌∙◌}
use Rattle.std.specs.List.{flat_map}
use Rattle.std.proofs.lemmas.Iterator.{YieldsList-from_chars}
use Rattle.std.proofs.lemmas.Iterator.Consumers.{YieldsList-end}
use Rattle.infer_label.specs.Names.{char_shown}
use Rattle.infer_label.specs.Writes.{Writes}
use Rattle.infer_label.proofs.NamesLemmas.{map-id}
use Rattle.infer_label.proofs.WritesLemmas.{flat_yielded, writes_both}
use Rattle.infer_label.proofs.names.write_chars.Goals as goal

pub loop-c-preserved : goal.loop-c-preserved
loop-c-preserved c =
    subst (Writes c.args.out.now c.write_char.new.out) (sym (flat_yielded (char_shown c.args.form) c.loop-c.yielded c.in-Some.c))
    (writes_both c.loop-c.invariant c.write_char.ensures)

pub returns : goal.returns
returns c =
    let all = YieldsList-end (YieldsList-from_chars c.args.text.now c.utf8.text cc) c.loop-c.yielded _ c.loop-c.yielded_by _ _ c.in-None.is c.next.ensures.steps in
    subst (λ l. Writes c.args.out.now c.loop-c.out (flat_map (char_shown c.args.form) l)) (sym (map-id c.loop-c.yielded) ∙ all.0) c.loop-c.invariant
