-- The bytes so far were passed on, and the sniffer keeps the first 8192 of them.
use Rattle.infer.proofs.Common.{◌-◌, length}
use Rattle.infer_uses.proofs.RelayLemmas.{Relays}
use Rattle.infer_uses.proofs.relay.pass.Given as goal

abbrev pub invariant-loop-sniffer : goal.invariant-loop-sniffer
invariant-loop-sniffer g l =
    Relays (g.R.Read.remaining l.initial.from) (g.R.Read.remaining l.from) (g.W.Write.contents l.initial.to) (g.W.Write.contents l.to) l.sniffer

abbrev pub decreases-loop-sniffer : goal.decreases-loop-sniffer
decreases-loop-sniffer g l = 8192 - length l.sniffer
