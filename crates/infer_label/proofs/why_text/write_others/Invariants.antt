use Rattle.std.proofs.Common.{take, codes}
use Rattle.std.specs.List.{flat_map}
use Rattle.infer_label.specs.WhyText.{is_other, text_if}
use Rattle.infer_label.proofs.WhyLemmas.{Continues, reason_in}
use Rattle.infer_label.proofs.why_text.write_others.Given as goal

-- those of the ranges so far were written
abbrev pub invariant-loop-range : goal.invariant-loop-range
invariant-loop-range l =
    Continues (codes "; ") l.initial.some l.initial.out l.out l.some
    (flat_map (λ r. text_if (is_other l.first_is_told (reason_in l.why r)) (reason_in l.why r)) (take l.range-index l.range-items))
