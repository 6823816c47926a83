-- the bytes so far are white
use Rattle.infer_deep.proofs.Common.{OnTrue, AllBelow, IsWhite}
use Rattle.infer_deep.proofs.text.all_spaces.Given as goal

abbrev pub invariant-loop-byte : goal.invariant-loop-byte
invariant-loop-byte g l = OnTrue l.all (AllBelow IsWhite l.block l.byte-index)
