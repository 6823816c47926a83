use Rattle.std.proofs.Common.{◌≡◌, ◌+◌, ◌∷◌, ◌<◌, [], MatchOption, arith, length, option_map, subst, sym, ◌∙◌}
use Rattle.infer_more.specs.Text.{lines_of}
use Rattle.infer_more.proofs.AnswerLineLemmas.{Later, at_end, at_line, line_described, past_line, told_here, told_not}
use Rattle.infer_more.proofs.TextLemmas.{some_lines}
use Rattle.infer_more.proofs.types.find_line.Goals as goal

pub returns-then-is_some : goal.returns-then-is_some
returns-then-is_some c = λ described.
    let l = c.loop-after in
    let extension = option_map (λ e. e.now) c.args.extension in
    let b = c.args.buf.now in
    let all = lines_of c.args.text.now in
    let rest = c.loop-after.rest.now in
    let line = c.next_line.result.0.now in
    let lines = some_lines (lines_of rest) line c.next_line.result.1 (length rest) c.next_line.ensures in
    let told = line_described rest line lines.0 lines.1 (l.invariant.described described) in
    let here = told_here extension b line told.0 told.1 c.answer_of.result (sym c.is_some.ensures ∙ c.if-is_some.true) c.answer_of.ensures in
    at_line extension b l.number all line lines.0 (subst (Later extension b l.number all) lines.1 (l.invariant.later described)) here

pub returns-in-None : goal.returns-in-None
returns-in-None c = λ described.
    let l = c.loop-after in
    let extension = option_map (λ e. e.now) c.args.extension in
    let b = c.args.buf.now in
    let all = lines_of c.args.text.now in
    let rest = c.loop-after.rest.now in
    let line = c.next_line.result.0.now in
    let is = subst (λ o. MatchOption o (lines_of rest ≡ line ∷ []) (λ r. (lines_of rest ≡ line ∷ lines_of r.now) × (length r.now < length rest))) c.in-None.is c.next_line.ensures in
    let told = line_described rest line [] is (l.invariant.described described) in
    let not = told_not extension b line told.0 told.1 c.answer_of.result (sym c.is_some.ensures ∙ c.if-is_some.false) c.answer_of.ensures in
    at_end extension b (l.number + 1) all (past_line extension b l.number all line [] (subst (Later extension b l.number all) is (l.invariant.later described)) not)

pub loop-after-preserved : goal.loop-after-preserved
loop-after-preserved c =
    let l = c.loop-after in
    let extension = option_map (λ e. e.now) c.args.extension in
    let b = c.args.buf.now in
    let all = lines_of c.args.text.now in
    let rest = c.loop-after.rest.now in
    let line = c.next_line.result.0.now in
    let more = c.in-Some.more.now in
    let is = subst (λ o. MatchOption o (lines_of rest ≡ line ∷ []) (λ r. (lines_of rest ≡ line ∷ lines_of r.now) × (length r.now < length rest))) c.in-Some.is c.next_line.ensures in
    record {
      few = (let few = l.invariant.few in let less = is.1 in omega arith);
      described = λ described. (line_described rest line (lines_of more) is.0 (l.invariant.described described)).2;
      later = λ described.
          let told = line_described rest line (lines_of more) is.0 (l.invariant.described described) in
          let not = told_not extension b line told.0 told.1 c.answer_of.result (sym c.is_some.ensures ∙ c.if-is_some.false) c.answer_of.ensures in
          past_line extension b l.number all line (lines_of more) (subst (Later extension b l.number all) is.0 (l.invariant.later described)) not;
    }
