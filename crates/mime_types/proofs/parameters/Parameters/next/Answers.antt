use Rattle.std.proofs.Common.{◌≡◌, ◌∙◌, ap, arith, subst, sym, length, true, false}
use Rattle.std.proofs.lemmas.Bool.Decides.{nat_tests}
use Rattle.mime_types.specs.Parameters.{StandsFirst, is_first}
use Rattle.mime_types.specs.Seen.{parameter_seen, written_seen}
use Rattle.mime_types.specs.Segment.{stands, written, written_by}
use Rattle.mime_types.proofs.FirstLemmas.{none_counts, step_counts, step_skips}
use Rattle.mime_types.proofs.WrittenLemmas.{none_left}
use Rattle.mime_types.proofs.parameters.Parameters.next.Goals as goal

pub returns-then-is_first-clause-left : goal.returns-then-is_first-clause-left
returns-then-is_first-clause-left c =
    let s = c.loop-count.self in
    let n = c.next_written.new.self in
    let e = written_by s.count s.tail.now in
    let p = parameter_seen c.in-Some.found in
    let first : is_first e p ≡ true
    = ap (λ t. is_first (written_by s.count t) p) (sym c.in-Some.ensures.tail) ∙ (sym c.is_first.ensures ∙ c.if-is_first.true) in
    sym c.loop-count.invariant.0
    ∙ step_counts e (written_by n.count n.tail.now) (written s.rest.now) (written n.rest.now) p c.in-Some.ensures.later c.in-Some.ensures.earlier first

pub returns-then-is_first-clause-stands : goal.returns-then-is_first-clause-stands
returns-then-is_first-clause-stands c =
    let s = c.loop-count.self in
    let p = parameter_seen c.in-Some.found in
    let first : is_first (written_by s.count s.tail.now) p ≡ true
    = ap (λ t. is_first (written_by s.count t) p) (sym c.in-Some.ensures.tail) ∙ (sym c.is_first.ensures ∙ c.if-is_first.true) in
    subst (λ t. StandsFirst t (written_seen c.in-Some.found)) c.loop-count.invariant.1
    (s.count, ap (λ r. (stands r).parameter) s.place ∙ sym c.in-Some.ensures.stands, first)

pub returns-then-is_first-clause-text : goal.returns-then-is_first-clause-text
returns-then-is_first-clause-text c = c.in-Some.ensures.tail ∙ c.loop-count.invariant.1

pub loop-count-preserved-else-is_first : goal.loop-count-preserved-else-is_first
loop-count-preserved-else-is_first c =
    let s = c.loop-count.self in
    let n = c.next_written.new.self in
    let e = written_by s.count s.tail.now in
    let p = parameter_seen c.in-Some.found in
    let first : is_first e p ≡ false
    = ap (λ t. is_first (written_by s.count t) p) (sym c.in-Some.ensures.tail) ∙ (sym c.is_first.ensures ∙ c.if-is_first.false) in (
      sym (step_skips e (written_by n.count n.tail.now) (written s.rest.now) (written n.rest.now) p c.in-Some.ensures.later c.in-Some.ensures.earlier first)
          ∙ c.loop-count.invariant.0,
      c.in-Some.ensures.tail ∙ c.loop-count.invariant.1,
    )

pub returns-clause-left : goal.returns-clause-left
returns-clause-left c =
    let s = c.loop-count.self in
    let none : length s.rest.now ≡ 0 = grind (arith, nat_tests, c.is_empty.ensures, c.loop-count-test.false) in
    let nothing = none_counts (written_by s.count s.tail.now) (written s.rest.now) (written s.rest.now) (written s.rest.now) (none_left s.rest.now none) in
    (sym c.loop-count.invariant.0 ∙ nothing, nothing)
