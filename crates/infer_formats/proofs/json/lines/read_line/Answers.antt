use Rattle.infer_formats.proofs.LineLemmas.{by_first, line_cut, line_whole, line_wrong, none_left}
use Rattle.infer_formats.proofs.json.lines.read_line.Goals as goal

pub returns-in-empty : goal.returns-in-empty
returns-in-empty c = none_left c.args.buf.now c.in-empty.len_below

pub returns-in-Some : goal.returns-in-Some
returns-in-Some c =
    line_whole _ c.in-Whole.n c.args.buf.now _ _
    (by_first c.args.buf.now c.in-len1-up.len_at_least) c.in-Whole.ensures.1 c.in-Some.ensures

pub returns-in-None : goal.returns-in-None
returns-in-None c =
    line_wrong _ c.in-Whole.n c.args.buf.now _
    (by_first c.args.buf.now c.in-len1-up.len_at_least) c.in-Whole.ensures.1 c.in-None.ensures

pub returns-in-Cut : goal.returns-in-Cut
returns-in-Cut c =
    let (n, d, k, left_so) = c.in-Cut.ensures in
    line_cut _ c.args.buf.now _ n d k (by_first c.args.buf.now c.in-len1-up.len_at_least) left_so
