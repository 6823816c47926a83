use Rattle.std.proofs.Common.{◌≡◌, ◌++◌, ℕ, List, length}
use Rattle.mime_types.specs.Extracted.{IsLastRun, IsLastView, said, texts}
use Rattle.mime_types.specs.Pieces.{pieces, pieces_left}
use Rattle.mime_types.proofs.extraction.last_run.Given as goal

-- the run is that of the pieces before those that are left
abbrev pub invariant-loop-piece : goal.invariant-loop-piece
invariant-loop-piece l = (done : List (List ℕ)) × (pieces l.value ≡ done ++ pieces_left l.left) × IsLastRun (said done) l.run × IsLastView (texts done) l.run

abbrev pub decreases-loop-piece : goal.decreases-loop-piece
decreases-loop-piece l = length (pieces_left l.left)
