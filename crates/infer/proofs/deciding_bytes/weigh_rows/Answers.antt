use Rattle.infer.proofs.Common.{◌≡◌, ◌∙◌, ◌+◌, ◌≤◌, Accepts, IfSome, IsFirstAmong, RowHas, Some, arith, get_or, signature_of, subst, sym}
use Rattle.infer.proofs.AskLemmas.{found_among}
use Rattle.infer_evidence.proofs.ListLemmas.{none_more}
use Rattle.infer.proofs.EvidenceLemmas.{most_more, most_upto, none_of_all, refuted_by, refuted_too, same_number}
use Rattle.infer.specs.Evidence.{IsHeld, most_of, most_of_all}
use Rattle.infer.proofs.deciding_bytes.weigh_rows.Goals as goal

-- the row that is held is this one
here : (c : goal.Then-eq) → c.args.held ≡ Some (get_or c.args.rows.now c.loop-row.row-index 0)
here c = same_number c.args.held _ (sym c.eq.ensures ∙ c.if-eq.true)

held : (c : goal.Then-eq) → IsHeld c.args.evidence.now c.args.buf.now (get_or c.args.rows.now c.loop-row.row-index 0)
held c = subst (λ o. IfSome o (IsHeld c.args.evidence.now c.args.buf.now)) (here c) c.requires

pub returns-then-eq-clause-first : goal.returns-then-eq-clause-first
returns-then-eq-clause-first c =
    subst (IsFirstAmong (RowHas (Accepts c.args.buf.now)) c.args.rows.now) (sym (here c))
    (found_among (RowHas (Accepts c.args.buf.now)) c.args.rows.now c.loop-row.row-index 0 c.loop-row-test.true (held c).0 c.loop-row.invariant.refused)

pub returns-then-eq-clause-proves : goal.returns-then-eq-clause-proves
returns-then-eq-clause-proves c = λ b bytes agrees.
    let before = c.loop-row.invariant.proves b bytes agrees in (
      before.0,
      subst (IsFirstAmong (RowHas (Accepts b)) c.args.rows.now) (sym (here c))
          (found_among (RowHas (Accepts b)) c.args.rows.now c.loop-row.row-index 0 c.loop-row-test.true ((held c).1 b bytes before.0) before.1),
    )

pub returns-then-eq-clause-few : goal.returns-then-eq-clause-few
returns-then-eq-clause-few c = let before = c.loop-row.invariant.few in let most = most_upto c.args.rows.now c.loop-row.row-index in omega (arith, before, most)

pub returns-then-eq-clause-fewer : goal.returns-then-eq-clause-fewer
returns-then-eq-clause-fewer c =
    let before = c.loop-row.invariant.few in
    let more = most_more c.args.rows.now c.loop-row.row-index c.loop-row-test.true in
    let most = most_upto c.args.rows.now (c.loop-row.row-index + 1) in
    let less : c.loop-row.evidence.count + most_of (signature_of (get_or c.args.rows.now c.loop-row.row-index 0)) ≤ c.args.evidence.now.count + most_of_all c.args.rows.now = grind (arith, before, more, most) in
    subst (λ o. IfSome o (λ i. o ≡ Some i → c.loop-row.evidence.count + most_of (signature_of i) ≤ c.args.evidence.now.count + most_of_all c.args.rows.now)) (sym (here c)) (λ same. less)

pub returns-then-weigh_row-clause-first : goal.returns-then-weigh_row-clause-first
returns-then-weigh_row-clause-first c =
    found_among (RowHas (Accepts c.args.buf.now)) c.args.rows.now c.loop-row.row-index 0 c.loop-row-test.true (c.weigh_row.ensures.answer.0 c.if-weigh_row.true)
    c.loop-row.invariant.refused

pub returns-then-weigh_row-clause-proves : goal.returns-then-weigh_row-clause-proves
returns-then-weigh_row-clause-proves c = λ b bytes agrees.
    let told = c.weigh_row.ensures.proves b bytes agrees in
    let before = c.loop-row.invariant.proves b bytes told.0 in (
      before.0,
      found_among (RowHas (Accepts b)) c.args.rows.now c.loop-row.row-index 0 c.loop-row-test.true (told.1.1 (c.weigh_row.ensures.answer.0 c.if-weigh_row.true)) before.1,
    )

pub returns-then-weigh_row-clause-few : goal.returns-then-weigh_row-clause-few
returns-then-weigh_row-clause-few c =
    let before = c.loop-row.invariant.few in
    let now = c.weigh_row.ensures.few in
    let more = most_more c.args.rows.now c.loop-row.row-index c.loop-row-test.true in
    let most = most_upto c.args.rows.now (c.loop-row.row-index + 1) in
    grind (arith, before, now, more, most)

pub loop-row-preserved : goal.loop-row-preserved
loop-row-preserved c =
    let here = refuted_by c.if-weigh_row.false c.weigh_row.ensures.answer in record {
      refused = none_more (RowHas (Accepts c.args.buf.now)) _ _ _ c.loop-row-test.true c.loop-row.invariant.refused here;
      proves = λ b bytes agrees.
          let told = c.weigh_row.ensures.proves b bytes agrees in
          let before = c.loop-row.invariant.proves b bytes told.0 in
          (before.0, none_more (RowHas (Accepts b)) _ _ _ c.loop-row-test.true before.1 (refuted_too told.1 here));
      inside = λ of. c.weigh_row.ensures.inside (c.loop-row.invariant.inside of);
      few = let before = c.loop-row.invariant.few in
          let now = c.weigh_row.ensures.few in
          let more = most_more c.args.rows.now c.loop-row.row-index c.loop-row-test.true in
          grind (arith, before, now, more);
    }

pub returns-clause-first : goal.returns-clause-first
returns-clause-first c = none_of_all (RowHas (Accepts c.args.buf.now)) _ c.loop-row.row-index (grind arith) c.loop-row.invariant.refused

pub returns-clause-proves : goal.returns-clause-proves
returns-clause-proves c = λ b bytes agrees.
    let before = c.loop-row.invariant.proves b bytes agrees in
    (before.0, none_of_all (RowHas (Accepts b)) c.args.rows.now c.loop-row.row-index (grind arith) before.1)

pub returns-clause-few : goal.returns-clause-few
returns-clause-few c = let before = c.loop-row.invariant.few in let most = most_upto c.args.rows.now c.loop-row.row-index in omega (arith, before, most)
