use Rattle.infer_notation.proofs.Common.{◌≡◌, ◌<◌, false, get_or, length, IsRead, is_blank}
use Rattle.infer_notation.proofs.leads.fixed_lead.Given as goal

abbrev pub invariant-loop-rest : goal.invariant-loop-rest
invariant-loop-rest l = record {
  begins : 0 < length l.rest → is_blank (get_or l.rest 0 0) ≡ false;
  read : IsRead l.reading l.text l.rest;
}

abbrev pub decreases-loop-rest : goal.decreases-loop-rest
decreases-loop-rest l = length l.rest
