use Rattle.infer_formats.proofs.Common.{refl}
use Rattle.infer_formats.proofs.LineLemmas.{empty_read, lines_cut, lines_end, lines_then, lines_wrong, some_left}
use Rattle.infer_formats.proofs.json.lines.begins_line.Goals as goal

pub loop-rest-preserved : goal.loop-rest-preserved
loop-rest-preserved c =
    let s = c.loop-rest.rest.now in
    let some = some_left s c.is_empty.result c.is_empty.ensures c.loop-rest-test.true in (
      lines_then c.args.buf.now s c.in-Whole.next.now c.loop-rest.invariant some c.in-Whole.ensures.0,
      c.in-Whole.ensures.2,
    )

pub returns-in-Cut : goal.returns-in-Cut
returns-in-Cut c =
    let s = c.loop-rest.rest.now in
    let some = some_left s c.is_empty.result c.is_empty.ensures c.loop-rest-test.true in
    (λ is. lines_cut c.args.buf.now s c.loop-rest.invariant some c.in-Cut.ensures.0, λ can. refl)

pub returns-in-Wrong : goal.returns-in-Wrong
returns-in-Wrong c =
    let s = c.loop-rest.rest.now in
    let some = some_left s c.is_empty.result c.is_empty.ensures c.loop-rest-test.true in (
      λ is. absurd (cc),
      λ can. absurd
          (lines_wrong c.args.buf.now s c.loop-rest.invariant some c.in-Wrong.ensures.0 can),
    )

pub returns : goal.returns
returns c =
    let s = c.loop-rest.rest.now in (
      λ is. lines_end c.args.buf.now s c.loop-rest.invariant
          ((empty_read s c.is_empty.result c.is_empty.ensures).0 c.loop-rest-test.false),
      λ can. refl,
    )
