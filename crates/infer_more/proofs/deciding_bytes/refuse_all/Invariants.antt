-- whoever agrees so far lacks the bytes of each so far
use Rattle.infer_evidence.specs.Evidence.{IsOf}
use Rattle.infer_more.specs.Evidence.{LacksBytes, Proves}
use Rattle.std.specs.List.{AllWithin}
use Rattle.infer_more.proofs.deciding_bytes.refuse_all.Given as goal

abbrev pub invariant-loop-alternative : goal.invariant-loop-alternative
invariant-loop-alternative l = record {
  proves : Proves l.fn.evidence l.evidence l.buf (λ c. AllWithin (LacksBytes c) l.signature 0 l.alternative-index);
  inside : IsOf l.fn.evidence l.buf → IsOf l.evidence l.buf;
}
