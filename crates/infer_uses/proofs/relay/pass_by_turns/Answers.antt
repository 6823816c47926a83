use Rattle.infer.proofs.Common.{arith, inl, inr, rules, subst}
use Rattle.infer_sniff.specs.Verdicts.{IsVerdict}
use Rattle.infer_uses.proofs.RelayLemmas.{labelled, nothing_passed, one_more_passed, settled_if_final}
use Rattle.infer_uses.proofs.relay.pass_by_turns.Goals as goal
use Rattle.infer_uses.proofs.relay.pass_by_turns.Goals.{else-loop-test, then-loop-test+in_ok-count+in_ok-write_all+then-is_final, then-is_final-via-then-is_final, then-is_final-via-else-is_final+then-count-eq0}

pub loop-init : goal.loop-init
loop-init g c = record { passed = nothing_passed _ _ _ c.in_ok-sniffer.ensures; some = omega arith }

pub loop-preserved : goal.loop-preserved
loop-preserved g c = record {
  passed = one_more_passed _ _ _ _ _ _ _ _ _ c.loop.invariant.passed c.in_ok-count.ensures.bytes.0 c.in_ok-write_all.ensures.bytes c.push.ensures.kept;
  some =
      let before = c.loop.invariant.some in
      let room = c.push.ensures.room in
      let few = c.in_ok-count.ensures.bound in
      let test = c.loop-test.true in
      let some = c.if-count-eq0.false in
      search rules;
}

pub returns : goal.returns
returns g c = elim c.loop-test.branch [
  | else-loop-test w ↦
      let verdict = subst (λ b. IsVerdict b c.verdict.result) w.sniffer-is c.verdict.ensures.verdict in
      let some = c.loop.invariant.some in
      rw (w.from-is, w.to-is) (labelled _ _ _ _ _ _ _ c.loop.invariant.passed verdict c.found.ensures
      (inr (inl (let full = w.loop-test.false in omega arith))))
  | then-loop-test+in_ok-count+in_ok-write_all+then-is_final w ↦
      let verdict = subst (λ b. IsVerdict b c.verdict.result) w.sniffer-is c.verdict.ensures.verdict in
      let read = w.in_ok-count.ensures.bytes in
      let passed = one_more_passed _ _ _ _ _ _ _ _ _ c.loop.invariant.passed read.0 w.in_ok-write_all.ensures.bytes w.push.ensures.kept in
      rw (w.from-is, w.to-is) (labelled _ _ _ _ _ _ _ passed verdict c.found.ensures (elim w.then-is_final.branch [
        | then-is_final-via-then-is_final v ↦ inr (inr (settled_if_final _ _ w.push.ensures.verdict (w.is_final.ensures.0 v.if-is_final.true)))
        | then-is_final-via-else-is_final+then-count-eq0 v ↦ inl (read.1 (let none = v.if-count-eq0.true in search rules) (search rules))
      ]))
]
