use Rattle.infer.proofs.Common.{◌∙◌, ◌+◌, AllWithin, AllWithin-more, HasGiven, IsAsked, RowHas, Takes, IsFirstAmong, None, Some, arith, get_or, subst, sym, false≢true}
use Rattle.infer.proofs.AskLemmas.{candidate_asked, candidate_passed, candidate_row, candidates_asked, found_among, none_among, placed, room_left, takes_both}
use Rattle.infer.proofs.ListLemmas.{HoldsAt-read}
use Rattle.infer.proofs.candidates.asker.walk.Goals.{else-is_asked-via-then-is_asked+else-ask, else-is_asked-via-else-is_asked}
use Rattle.infer.proofs.candidates.asker.walk.Goals as goal

pub ask-requires-clause-row : goal.ask-requires-clause-row
ask-requires-clause-row g c =
    candidate_row c.args.wanted _ _ (c.candidates_of-row-items.ensures.rows _ c.first.ensures) _ 0 c.loop-row-test.true

pub ask-requires-clause-room : goal.ask-requires-clause-room
ask-requires-clause-room g c = (
  _,
  c.loop-row.invariant.asked,
  room_left _ _ (placed c.args.wanted _ _ (c.candidates_of-row-items.ensures.rows _ c.first.ensures)) _ _ c.loop-row-test.true,
)

pub returns-then-ask-clause-first : goal.returns-then-ask-clause-first
returns-then-ask-clause-first g c =
    let P = RowHas (Takes (HasGiven c.args.wanted) (g.A.Ask.buffer c.args.asker.now)) in
    let accepts = (rw c.loop-row.invariant.kept at c.ask.ensures.answer).0 c.if-ask.true in
    let here = (takes_both (HasGiven c.args.wanted) _ _).1 (c.is_asked.ensures.0 c.if-is_asked.true, accepts) in
    let rows = c.candidates_of-row-items.result.now in
    subst (λ cs. IsFirstAmong P cs (Some (get_or rows c.loop-row.row-index 0))) (c.candidates_of-row-items.ensures.rows _ c.first.ensures)
    (found_among P rows c.loop-row.row-index 0 c.loop-row-test.true here c.loop-row.invariant.refused)

pub returns-then-ask-clause-asked : goal.returns-then-ask-clause-asked
returns-then-ask-clause-asked g c =
    let same = c.candidates_of-row-items.ensures.rows _ c.first.ensures in
    subst (g.A.Ask.has_asked _) (candidate_asked c.args.wanted _ _ same _ 0 c.loop-row-test.true (c.is_asked.ensures.0 c.if-is_asked.true)
    ∙ candidates_asked c.args.wanted _ _ same _ 0 c.loop-row-test.true)
    (c.ask.ensures.asked _ c.loop-row.invariant.asked)

pub loop-row-preserved : goal.loop-row-preserved
loop-row-preserved g c =
    let P = RowHas (Takes (HasGiven c.args.wanted) (g.A.Ask.buffer c.args.asker.now)) in
    let rows = c.candidates_of-row-items.result.now in
    let same = c.candidates_of-row-items.ensures.rows _ c.first.ensures in
    let refused : ¬ P (get_or rows c.loop-row.row-index 0) → AllWithin (λ i. ¬ P i) rows 0 (c.loop-row.row-index + 1)
    = λ not. AllWithin-more (λ i. ¬ P i) rows 0 c.loop-row.row-index c.loop-row.invariant.refused
    (HoldsAt-read (λ i. ¬ P i) rows c.loop-row.row-index 0 c.loop-row-test.true not) in
    elim c.else-is_asked.branch [
      | else-is_asked-via-then-is_asked+else-ask w ↦
          let answer = rw c.loop-row.invariant.kept at w.ask.ensures.answer in
          record {
            kept = rw w.asker-is (w.ask.ensures.kept ∙ c.loop-row.invariant.kept);
            refused = refused (λ h. false≢true (sym w.if-ask.false ∙ answer.1 ((takes_both (HasGiven c.args.wanted) _ _).0 h).1));
            asked = rw w.asker-is (subst (g.A.Ask.has_asked _) (candidate_asked c.args.wanted _ _ same _ 0 c.loop-row-test.true (c.is_asked.ensures.0 w.if-is_asked.true))
                (w.ask.ensures.asked _ c.loop-row.invariant.asked));
          }
      | else-is_asked-via-else-is_asked w ↦
          let not : ¬ RowHas (IsAsked (HasGiven c.args.wanted)) (get_or rows c.loop-row.row-index 0) = λ h. false≢true (sym w.if-is_asked.false ∙ c.is_asked.ensures.1 h) in
          record {
            kept = rw w.asker-is c.loop-row.invariant.kept;
            refused = refused (λ h. not ((takes_both (HasGiven c.args.wanted) _ _).0 h).0);
            asked = rw w.asker-is (subst (g.A.Ask.has_asked _) (candidate_passed c.args.wanted _ _ same _ 0 c.loop-row-test.true not) c.loop-row.invariant.asked);
          }
    ]

pub returns-clause-first : goal.returns-clause-first
returns-clause-first g c =
    let P = RowHas (Takes (HasGiven c.args.wanted) (g.A.Ask.buffer c.args.asker.now)) in
    subst (λ rows. IsFirstAmong P rows None) (c.candidates_of-row-items.ensures.rows _ c.first.ensures)
    (none_among P c.candidates_of-row-items.result.now (λ k d low lt. c.loop-row.invariant.refused k d low (omega (arith, lt, c.loop-row-test.false))))
