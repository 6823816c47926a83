use Rattle.infer_more.proofs.Common.{◌+◌, ◌++◌, Some, drop, option_map, Answers, found_shows}
use Rattle.infer_more.proofs.EntryLemmas.{entry_at, lines_in}
use Rattle.infer_more.proofs.TextLemmas.{first_in, later_in}
use Rattle.infer_more.proofs.types.entries.first_of.Goals as goal

pub returns-in-Some : goal.returns-in-Some
returns-in-Some c = λ lines rows e.
    let inv = c.loop-entry.invariant lines rows e in
    let es = c.args.entries.now in
    let i = c.loop-entry.entry-index in
    let P = Answers (option_map (λ e. e.now) c.args.extension) c.args.buf.now in
    let x = found_shows c.in-Some.found in
    let at = entry_at es i c.entry-item.result lines inv.0 c.loop-entry-test.true c.entry-item.is inv.1 in
    inv.2 (Some x) (first_in P c.entry-item.result.line.now (lines_in (drop (i + 1) es) ++ lines) inv.0 x at c.in-Some.ensures)

pub loop-entry-preserved : goal.loop-entry-preserved
loop-entry-preserved c = λ lines rows e.
    let inv = c.loop-entry.invariant lines rows e in
    let es = c.args.entries.now in
    let i = c.loop-entry.entry-index in
    let P = Answers (option_map (λ e. e.now) c.args.extension) c.args.buf.now in
    let at = entry_at es i c.entry-item.result lines inv.0 c.loop-entry-test.true c.entry-item.is inv.1 in
    let later = later_in P c.entry-item.result.line.now (lines_in (drop (i + 1) es) ++ lines) inv.0 at c.in_default.ensures in
    (later.0, later.1, λ t h. inv.2 t (later.2 t h))
