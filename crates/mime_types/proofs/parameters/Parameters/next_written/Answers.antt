use Rattle.std.proofs.Common.{ap, arith, sym, option_map}
use Rattle.mime_types.specs.Seen.{parameter_seen}
use Rattle.mime_types.proofs.SegmentLemmas.{segment_is}
use Rattle.mime_types.proofs.WrittenLemmas.{first_leaves, first_written, next_left, next_written}
use Rattle.mime_types.proofs.parameters.Parameters.next_written.Goals as goal

pub invariant_of-self-clause-place : goal.invariant_of-self-clause-place
invariant_of-self-clause-place c =
    let s = c.args.self.now in
    next_left s.count s.tail.now s.rest.now (option_map parameter_seen c.first_segment-segment.result.written) c.first_segment-segment.result.rest.now
    (sym s.place) (segment_is c.first_segment-segment.result s.rest.now c.first_segment-segment.ensures)

pub invariant_of-self-clause-bound : goal.invariant_of-self-clause-bound
invariant_of-self-clause-bound c =
    let s = c.args.self.now in
    let less = first_leaves s.rest.now (option_map parameter_seen c.first_segment-segment.result.written) c.first_segment-segment.result.rest.now
    (segment_is c.first_segment-segment.result s.rest.now c.first_segment-segment.ensures) c.requires in
    let within = s.bound in
    omega arith

pub returns-clause-shorter : goal.returns-clause-shorter
returns-clause-shorter c =
    let s = c.args.self.now in
    first_leaves s.rest.now (option_map parameter_seen c.first_segment-segment.result.written) c.first_segment-segment.result.rest.now
    (segment_is c.first_segment-segment.result s.rest.now c.first_segment-segment.ensures) c.requires

pub returns-clause-stands : goal.returns-clause-stands
returns-clause-stands c = ap (λ s. s.parameter) c.first_segment-segment.ensures

pub returns-clause-later : goal.returns-clause-later
returns-clause-later c =
    let s = c.args.self.now in
    first_written s.rest.now (option_map parameter_seen c.first_segment-segment.result.written) c.first_segment-segment.result.rest.now
    (segment_is c.first_segment-segment.result s.rest.now c.first_segment-segment.ensures) c.requires

pub returns-clause-earlier : goal.returns-clause-earlier
returns-clause-earlier c =
    let s = c.args.self.now in
    next_written s.count s.tail.now s.rest.now (option_map parameter_seen c.first_segment-segment.result.written) c.first_segment-segment.result.rest.now
    (sym s.place) (segment_is c.first_segment-segment.result s.rest.now c.first_segment-segment.ensures)
