use Rattle.std.proofs.Common.{◌++◌, ◌%◌, ◌+◌, subst, sym, ◌∙◌, if◌then◌else◌}
use Rattle.infer_label.specs.Names.{code_shown}
use Rattle.infer_label.specs.Writes.{Writes}
use Rattle.infer_label.proofs.WritesLemmas.{writes_both}
use Rattle.infer_label.proofs.names.write_unseen.Goals as goal

pub returns-then-is_tag : goal.returns-then-is_tag
returns-then-is_tag c =
    subst (λ b. Writes c.args.out.now c.write_code-then-is_tag.new.out (if b then code_shown 0xDB40 ++ code_shown (0xDC00 + c.args.code % 1024) else code_shown c.args.code))
    (sym c.if-is_tag.true ∙ c.is_tag.ensures) (writes_both c.write_code.ensures c.write_code-then-is_tag.ensures)
