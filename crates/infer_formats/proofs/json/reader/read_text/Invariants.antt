-- what is due at the place
use Rattle.infer_formats.proofs.Common.{◌-◌, ◌≤◌, length, IsNested}
use Rattle.infer_formats.proofs.OnwardLemmas.{DueAt}
use Rattle.infer_formats.proofs.json.reader.read_text.Given as goal

abbrev pub invariant-loop-at : goal.invariant-loop-at
invariant-loop-at l =
    IsNested l.reader × (l.at ≤ length l.rest) × DueAt l.first l.rest l.due l.reader.depth l.reader.kinds l.at

abbrev pub decreases-loop-at : goal.decreases-loop-at
decreases-loop-at l = length l.rest - l.at
