use mir.Val.{bool_byte}
use Rattle.std.proofs.Common.{◌≡◌, ◌∙◌, ◌<◌, ap, arith, length, option_map, refl}
use Rattle.std.proofs.lemmas.Bool.{false≢true}
use Rattle.std.proofs.lemmas.Bool.Decides.{nat_tests}
use Rattle.mime_types.specs.Seen.{parameter_seen}
use Rattle.mime_types.proofs.SegmentLemmas.{segment_is}
use Rattle.mime_types.proofs.WrittenLemmas.{first_counts, first_leaves, none_left}
use Rattle.mime_types.proofs.write.has_few.Goals as goal

pub returns-then-count-gt-MOST_PARAMETERS : goal.returns-then-count-gt-MOST_PARAMETERS
returns-then-count-gt-MOST_PARAMETERS c =
    let rest = c.loop-rest.rest.now in
    let some : 0 < length rest = grind (arith, nat_tests, c.is_empty.ensures, c.loop-rest-test.true) in
    let counts = first_counts c.first_segment-segment.result rest c.first_segment-segment.ensures some in
    let one = c.from-count.ensures ∙ ap bool_byte c.is_some.ensures in
    (λ no. absurd (false≢true no), λ few. absurd (omega (arith, c.loop-rest.invariant.0, c.if-count-gt-MOST_PARAMETERS.true, counts, one, few)))

pub loop-rest-smaller : goal.loop-rest-smaller
loop-rest-smaller c =
    let rest = c.loop-rest.rest.now in
    let segment = c.first_segment-segment.result in
    let some : 0 < length rest = grind (arith, nat_tests, c.is_empty.ensures, c.loop-rest-test.true) in
    first_leaves rest (option_map parameter_seen segment.written) segment.rest.now (segment_is segment rest c.first_segment-segment.ensures) some

pub loop-rest-preserved : goal.loop-rest-preserved
loop-rest-preserved c =
    let rest = c.loop-rest.rest.now in
    let some : 0 < length rest = grind (arith, nat_tests, c.is_empty.ensures, c.loop-rest-test.true) in
    let counts = first_counts c.first_segment-segment.result rest c.first_segment-segment.ensures some in
    let one = c.from-count.ensures ∙ ap bool_byte c.is_some.ensures in
    (omega (arith, c.loop-rest.invariant.0, counts, one), omega (arith, c.if-count-gt-MOST_PARAMETERS.false))

pub returns : goal.returns
returns c =
    let rest = c.loop-rest.rest.now in
    let none : length rest ≡ 0 = grind (arith, nat_tests, c.is_empty.ensures, c.loop-rest-test.false) in
    (λ yes. omega (arith, c.loop-rest.invariant.0, c.loop-rest.invariant.1, ap length (none_left rest none)), λ few. refl)
