use Rattle.std.proofs.Common.{take, codes, false}
use Rattle.std.specs.List.{flat_map}
use Rattle.infer_label.specs.WhyText.{text_if}
use Rattle.infer_label.proofs.WhyLemmas.{Continues, reason_in}
use Rattle.infer_label.proofs.why_text.write_own.Given as goal

-- those of the ranges so far were written
abbrev pub invariant-loop-range : goal.invariant-loop-range
invariant-loop-range l =
    Continues (codes "; ") false l.initial.out l.out l.before
    (flat_map (λ r. text_if (reason_in l.why r).accepts (reason_in l.why r)) (take l.range-index l.range-items))
