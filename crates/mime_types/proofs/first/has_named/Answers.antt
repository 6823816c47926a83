use Rattle.std.proofs.Common.{◌≡◌, ◌∙◌, ◌||◌, ◌+◌, ap, arith, sym, false, true, option_map, option_to_list}
use Rattle.std.specs.List.{list_any}
use Rattle.mime_types.specs.Parameters.{is_named}
use Rattle.mime_types.specs.Seen.{parameter_seen}
use Rattle.mime_types.specs.Segment.{written_by}
use Rattle.mime_types.specs.Text.{lower}
use Rattle.mime_types.proofs.SegmentLemmas.{segment_is}
use Rattle.mime_types.proofs.WrittenLemmas.{all_left, next_left, next_test, none_written, passes_more}
use Rattle.mime_types.proofs.FirstLemmas.{or_true}
use Rattle.mime_types.proofs.first.has_named.Goals as goal

pub loop-i-init : goal.loop-i-init
loop-i-init c = (sym (all_left c.args.tail.now), ap (list_any (is_named (lower c.args.name.now))) (none_written c.args.tail.now))

pub returns-then-writes_named : goal.returns-then-writes_named
returns-then-writes_named c =
    let test = is_named (lower c.args.name.now) in
    let o = option_map parameter_seen c.first_segment-segment.result.written in
    let here : list_any test (option_to_list o) ≡ true = sym c.writes_named.ensures ∙ c.if-writes_named.true in
    let passes = next_test c.loop-i.i c.args.tail.now c.loop-i.rest.now o c.first_segment-segment.result.rest.now c.loop-i.invariant.0
    (segment_is c.first_segment-segment.result c.loop-i.rest.now c.first_segment-segment.ensures) test ∙ (ap (λ b. list_any test (written_by c.loop-i.i c.args.tail.now) || b) here ∙ or_true (list_any test (written_by c.loop-i.i c.args.tail.now))) in
    sym (passes_more test (c.loop-i.i + 1) c.args.count c.args.tail.now (omega arith) passes)

pub loop-i-preserved : goal.loop-i-preserved
loop-i-preserved c =
    let test = is_named (lower c.args.name.now) in
    let o = option_map parameter_seen c.first_segment-segment.result.written in
    let r = c.first_segment-segment.result.rest.now in
    let here : list_any test (option_to_list o) ≡ false = sym c.writes_named.ensures ∙ c.if-writes_named.false in (
      sym (next_left c.loop-i.i c.args.tail.now c.loop-i.rest.now o r c.loop-i.invariant.0 (segment_is c.first_segment-segment.result c.loop-i.rest.now c.first_segment-segment.ensures)),
      next_test c.loop-i.i c.args.tail.now c.loop-i.rest.now o r c.loop-i.invariant.0 (segment_is c.first_segment-segment.result c.loop-i.rest.now c.first_segment-segment.ensures) test
          ∙ (ap (λ b. b || list_any test (option_to_list o)) c.loop-i.invariant.1 ∙ here),
    )

pub returns : goal.returns
returns c =
    let test = is_named (lower c.args.name.now) in
    let same : c.loop-i.i ≡ c.args.count = omega arith in
    sym c.loop-i.invariant.1 ∙ ap (λ n. list_any test (written_by n c.args.tail.now)) same
