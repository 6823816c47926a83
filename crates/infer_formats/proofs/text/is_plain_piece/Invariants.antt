-- whether the bytes so far are none of binary data
use Rattle.infer_formats.proofs.Common.{not, OnTrue, AllBelow, IsDataByte, IsPlainByte, SomeBelow}
use Rattle.infer_formats.proofs.text.is_plain_piece.Given as goal

abbrev pub invariant-loop-i : goal.invariant-loop-i
invariant-loop-i l = OnTrue l.all (AllBelow IsPlainByte l.piece l.i) × OnTrue (not l.all) (SomeBelow IsDataByte l.piece l.i)
