-- a front of the upper bound decides the claim
use Rattle.infer_evidence.proofs.Common.{◌-◌, ◌≤◌, length, take}
use Rattle.infer_evidence.proofs.front.shortest.Given as goal

abbrev pub invariant-loop-low : goal.invariant-loop-low
invariant-loop-low g l = record {
  within : l.high ≤ length l.buf;
  decided : g.C.Claim.decides l.claim (take l.high l.buf);
}

abbrev pub decreases-loop-low : goal.decreases-loop-low
decreases-loop-low g l = l.high - l.low
