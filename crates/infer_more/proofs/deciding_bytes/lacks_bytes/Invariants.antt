-- each so far is one of bytes that the buffer lacks
use Rattle.infer_more.specs.Evidence.{LacksBytes}
use Rattle.std.specs.List.{AllWithin}
use Rattle.infer_more.proofs.deciding_bytes.lacks_bytes.Given as goal

abbrev pub invariant-loop-alternative : goal.invariant-loop-alternative
invariant-loop-alternative l = AllWithin (LacksBytes l.buf) l.signature 0 l.alternative-index
