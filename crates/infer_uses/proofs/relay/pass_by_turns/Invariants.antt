-- The bytes so far were passed on, at least one a turn, and the sniffer keeps the first 8192 of them.
use Rattle.infer.proofs.Common.{◌≤◌, length}
use Rattle.infer_uses.proofs.RelayLemmas.{Relays}
use Rattle.infer_uses.proofs.relay.pass_by_turns.Given as goal

abbrev pub invariant-loop : goal.invariant-loop
invariant-loop g l = record {
  passed : Relays (g.R.Read.remaining l.initial.from) (g.R.Read.remaining l.from) (g.W.Write.contents l.initial.to) (g.W.Write.contents l.to) l.sniffer;
  some : l.counter ≤ length l.sniffer;
}
