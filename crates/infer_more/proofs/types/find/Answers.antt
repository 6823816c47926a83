use Rattle.infer_more.proofs.Common.{◌≡◌, ◌∷◌, ◌<◌, [], None, Some, MatchOption, length, option_map, subst, Answers, found_shows, lines_of}
use Rattle.infer_more.proofs.TextLemmas.{answer_here, answer_later, answer_none, some_lines}
use Rattle.infer_more.proofs.types.find.Goals as goal

pub returns-in-Some : goal.returns-in-Some
returns-in-Some c = λ rows e.
    let inv = c.loop-found.invariant rows e in
    let P = Answers (option_map (λ e. e.now) c.args.extension) c.args.buf.now in
    let x = found_shows c.in-Some.found in
    let rest = c.loop-found.rest.now in
    let line = c.next_line.result.0.now in
    let lines = some_lines (lines_of rest) line c.next_line.result.1 (length rest) c.next_line.ensures in
    inv.2 (Some x) (answer_here P rest line lines.0 inv.0 x lines.1 inv.1 c.in-Some.ensures)

pub loop-found-preserved : goal.loop-found-preserved
loop-found-preserved c = λ rows e.
    let inv = c.loop-found.invariant rows e in
    let P = Answers (option_map (λ e. e.now) c.args.extension) c.args.buf.now in
    let rest = c.loop-found.rest.now in
    let line = c.next_line.result.0.now in
    let is = subst (λ o. MatchOption o (lines_of rest ≡ line ∷ []) (λ r. (lines_of rest ≡ line ∷ lines_of r.now) × (length r.now < length rest))) c.in-Some-after.is c.next_line.ensures in
    let later = answer_later P rest line (lines_of c.in-Some-after.more.now) inv.0 is.0 inv.1 c.in_default.ensures in
    (later.0, later.1, λ t h. inv.2 t (later.2 t h))

pub returns-in-None : goal.returns-in-None
returns-in-None c = λ rows e.
    let inv = c.loop-found.invariant rows e in
    let P = Answers (option_map (λ e. e.now) c.args.extension) c.args.buf.now in
    let rest = c.loop-found.rest.now in
    let line = c.next_line.result.0.now in
    let is = subst (λ o. MatchOption o (lines_of rest ≡ line ∷ []) (λ r. (lines_of rest ≡ line ∷ lines_of r.now) × (length r.now < length rest))) c.in-None.is c.next_line.ensures in
    let later = answer_later P rest line [] inv.0 is inv.1 c.in_default.ensures in
    inv.2 None (later.2 None (answer_none P later.0 later.1))
