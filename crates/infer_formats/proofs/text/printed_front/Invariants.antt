-- the blocks so far have no byte of binary data
use Rattle.infer_formats.proofs.Common.{◌*◌, AllBelow, IsPlainByte}
use Rattle.infer_formats.proofs.text.printed_front.Given as goal

abbrev pub invariant-loop-k : goal.invariant-loop-k
invariant-loop-k l = AllBelow IsPlainByte l.buf (256 * l.k)
