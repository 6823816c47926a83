use Rattle.infer_sniff.proofs.Common.{◌++◌, arith, length-take}
use Rattle.infer_sniff.proofs.KeptLemmas.{room_left}
use Rattle.infer_sniff.proofs.sniffer.Sniffer.push.Goals as goal

pub invariant_of-self-2 : goal.invariant_of-self-2
invariant_of-self-2 g c = grind (arith, length-take 8192 (c.self.inside.bytes.items ++ c.args.piece.now))

pub returns-then-not-keep-clause-room : goal.returns-then-not-keep-clause-room
returns-then-not-keep-clause-room g c = grind (arith, room_left 8192)

pub returns-clause-room : goal.returns-clause-room
returns-clause-room g c = grind (arith, room_left 8192)
