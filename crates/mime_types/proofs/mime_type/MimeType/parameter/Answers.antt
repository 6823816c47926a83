use Rattle.std.proofs.Common.{◌≡◌, ◌∙◌, ◌<◌, ◌+◌, ◌||◌, [], ap, arith, length, option_map, option_to_list, refl, sym}
use Rattle.std.proofs.lemmas.Bool.Decides.{nat_tests}
use Rattle.std.specs.List.{list_any}
use Rattle.std.specs.Option.{option_or}
use Rattle.mime_types.specs.Named.{first_value}
use Rattle.mime_types.specs.Parameters.{is_named}
use Rattle.mime_types.specs.Seen.{parameter_seen, written_seen}
use Rattle.mime_types.specs.Segment.{stands, written, written_by}
use Rattle.mime_types.specs.Text.{lower}
use Rattle.mime_types.proofs.NamedLemmas.{first_named, name_is, none_named, value_first, value_kept, value_none}
use Rattle.mime_types.proofs.SegmentLemmas.{segment_is}
use Rattle.mime_types.proofs.WrittenLemmas.{all_left, first_leaves, next_left, next_test, none_written}
use Rattle.mime_types.proofs.mime_type.MimeType.parameter.Goals as goal

pub loop-rest-init : goal.loop-rest-init
loop-rest-init c =
    (refl, 0, sym (all_left c.args.self.now.tail.now), ap (list_any (is_named (lower c.args.name.now))) (none_written c.args.self.now.tail.now))

pub returns-in-Some-clause-says : goal.returns-in-Some-clause-says
returns-in-Some-clause-says c =
    let name = lower c.args.name.now in
    let tail = c.args.self.now.tail.now in
    let rest = c.loop-rest.rest.now in
    let segment = c.first_segment-segment.result in
    let some : 0 < length rest = grind (arith, nat_tests, c.is_empty.ensures, c.loop-rest-test.true) in
    let is = segment_is segment rest c.first_segment-segment.ensures in
    ap (λ f. option_or f (first_value name (written segment.rest.now))) c.in-Some.ensures.says
    ∙ (sym (value_first name rest (option_map parameter_seen segment.written) segment.rest.now is some)
    ∙ (c.loop-rest.invariant.0 ∙ sym (value_kept name [] (written tail) refl)))

pub returns-in-Some-clause-stands : goal.returns-in-Some-clause-stands
returns-in-Some-clause-stands c =
    let name = lower c.args.name.now in
    let tail = c.args.self.now.tail.now in
    let (_, n, here, none) = c.loop-rest.invariant in
    let (found, is, named, same) = c.in-Some.ensures.stands in
    let there = ap (λ r. (stands r).parameter) (sym here) ∙ (sym (ap (λ s. s.parameter) c.first_segment-segment.ensures) ∙ ap (option_map written_seen) is) in (
      written_seen found,
      (n, there, first_named name (written_by n tail) (parameter_seen found) named none),
      name_is name (parameter_seen found) named,
      ap (λ v. v.text.now) same,
      ap (λ v. v.is_quoted) same,
    )

pub loop-rest-smaller : goal.loop-rest-smaller
loop-rest-smaller c =
    let rest = c.loop-rest.rest.now in
    let segment = c.first_segment-segment.result in
    let some : 0 < length rest = grind (arith, nat_tests, c.is_empty.ensures, c.loop-rest-test.true) in
    first_leaves rest (option_map parameter_seen segment.written) segment.rest.now (segment_is segment rest c.first_segment-segment.ensures) some

pub loop-rest-preserved : goal.loop-rest-preserved
loop-rest-preserved c =
    let name = lower c.args.name.now in
    let tail = c.args.self.now.tail.now in
    let rest = c.loop-rest.rest.now in
    let segment = c.first_segment-segment.result in
    let some : 0 < length rest = grind (arith, nat_tests, c.is_empty.ensures, c.loop-rest-test.true) in
    let o = option_map parameter_seen segment.written in
    let is = segment_is segment rest c.first_segment-segment.ensures in
    let (same, n, here, none) = c.loop-rest.invariant in (
      ap (λ f. option_or f (first_value name (written segment.rest.now))) c.in_default.ensures.says
          ∙ (sym (value_first name rest o segment.rest.now is some) ∙ same),
      n + 1,
      sym (next_left n tail rest o segment.rest.now here is),
      next_test n tail rest o segment.rest.now here is (is_named name)
          ∙ (ap (λ b. b || list_any (is_named name) (option_to_list o)) none ∙ none_named name o c.in_default.ensures.says),
    )

pub returns-clause-says : goal.returns-clause-says
returns-clause-says c =
    let name = lower c.args.name.now in
    let tail = c.args.self.now.tail.now in
    let none : length c.loop-rest.rest.now ≡ 0 = grind (arith, nat_tests, c.is_empty.ensures, c.loop-rest-test.false) in
    sym (value_none name c.loop-rest.rest.now none) ∙ (c.loop-rest.invariant.0 ∙ sym (value_kept name [] (written tail) refl))
