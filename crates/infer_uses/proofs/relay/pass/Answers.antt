use Rattle.infer.proofs.Common.{ap, arith, inl, inr, length, rules}
use Rattle.infer_uses.proofs.RelayLemmas.{labelled, nothing_more, nothing_passed, one_more_passed, settled_if_final}
use Rattle.infer_uses.proofs.relay.pass.Goals as goal
use Rattle.infer_uses.proofs.relay.pass.Goals.{then-loop-sniffer-test+else-not-is_final, else-loop-sniffer-test, then-loop-sniffer-test+then-not-is_final+in_ok-count+then-count-eq0}

pub loop-sniffer-init : goal.loop-sniffer-init
loop-sniffer-init g c = nothing_passed _ _ _ c.in_ok-sniffer.ensures

pub loop-sniffer-smaller : goal.loop-sniffer-smaller
loop-sniffer-smaller g c =
    let room = c.push.ensures.room in
    let kept = ap length c.kept.ensures.bytes in
    let test = c.loop-sniffer-test.true in
    let some = c.if-count-eq0.false in
    let few = c.in_ok-count.ensures.bound in
    search rules

pub loop-sniffer-preserved : goal.loop-sniffer-preserved
loop-sniffer-preserved g c =
    one_more_passed _ _ _ _ _ _ _ _ _ c.loop-sniffer.invariant c.in_ok-count.ensures.bytes.0 c.in_ok-write_all.ensures.bytes c.push.ensures.kept

pub returns : goal.returns
returns g c = elim c.loop-sniffer-test.branch [
  | else-loop-sniffer-test w ↦
      let kept = ap length c.kept.ensures.bytes in
      rw w.from-is (labelled _ _ _ _ _ _ _ c.loop-sniffer.invariant c.verdict-2.ensures.verdict c.found.ensures
      (inr (inl (let full = w.loop-sniffer-test.false in omega arith))))
  | then-loop-sniffer-test+else-not-is_final w ↦
      rw w.from-is (labelled _ _ _ _ _ _ _ c.loop-sniffer.invariant c.verdict-2.ensures.verdict c.found.ensures
      (inr (inr (settled_if_final _ _ w.verdict.ensures.verdict (w.is_final.ensures.0 w.if-not-is_final.false)))))
  | then-loop-sniffer-test+then-not-is_final+in_ok-count+then-count-eq0 w ↦
      let read = w.in_ok-count.ensures.bytes in
      rw w.from-is (labelled _ _ _ _ _ _ _ (nothing_more _ _ _ _ _ _ _ c.loop-sniffer.invariant read.0 (search rules))
      c.verdict-2.ensures.verdict c.found.ensures (inl (read.1 (search rules) (search rules))))
]
