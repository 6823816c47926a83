use Rattle.std.proofs.Common.{[], ◌∷◌, codes, false, take}
use Rattle.std.specs.List.{flat_map}
use Rattle.infer_label.specs.WhyJson.{range_object}
use Rattle.infer_label.proofs.WhyLemmas.{Continues, reason_in}
use Rattle.infer_label.proofs.why_json.write_ranges.Given as goal

-- those so far were written
abbrev pub invariant-loop-range : goal.invariant-loop-range
invariant-loop-range l =
    Continues (codes ",") false l.initial.out l.out l.before (flat_map (λ r. range_object (reason_in l.why r) ∷ []) (take l.range-index l.range-items))
