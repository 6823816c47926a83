-- What was read so far stands at the front of the buffer.
use Rattle.infer.proofs.Common.{◌≡◌, ◌-◌, ◌≤◌, ◌↔◌, ℕ, List, None, length, take, Consumes, IsDue, fault_of, inner}
use Rattle.infer.proofs.read.head.fill.Given as goal

abbrev pub invariant-loop-room : goal.invariant-loop-room
invariant-loop-room g l = record {
  in_range : l.filled ≤ length l.out;
  no_fault : fault_of l.reader ≡ None;
  same : (b : List ℕ) → g.E.Enough.suffices l.enough b ↔ g.E.Enough.suffices l.initial.enough b;
  bytes : Consumes (g.R.Read.remaining (inner l.initial.reader)) (g.R.Read.remaining (inner l.reader)) (take l.filled l.out);
  due : IsDue l.piece (g.E.Enough.suffices l.initial.enough) (take l.filled l.out);
}

abbrev pub decreases-loop-room : goal.decreases-loop-room
decreases-loop-room g l = length l.initial.out - l.filled
