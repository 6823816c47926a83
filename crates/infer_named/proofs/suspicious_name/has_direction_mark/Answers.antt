use Rattle.std.proofs.Common.{◌≡◌, ◌+◌, ◌∙◌, true, ap, arith, drop, length, sym}
use Rattle.std.proofs.lemmas.List.{take_rest}
use Rattle.infer_named.specs.Odd.{begins_with_mark}
use Rattle.infer_named.proofs.OddLemmas.{none_left, none_past}
use Rattle.infer_named.proofs.suspicious_name.has_direction_mark.Goals as goal

pub loop-step-preserved : goal.loop-step-preserved
loop-step-preserved c =
    let i = c.loop-step.invariant in
    let at = c.in-Some.ensures.0 in
    let high = at.high in
    let long = ap length (take_rest c.args.name.now c.loop-step.from) in
    (omega arith, none_past c.args.name.now c.loop-step.from i.1 c.in-Some.step at.before c.if-begins_with_mark.ensures)

pub returns-then-begins_with_mark : goal.returns-then-begins_with_mark
returns-then-begins_with_mark c =
    let at = c.loop-step.from + c.in-Some.step in
    let high = c.in-Some.ensures.0.high in
    let found : begins_with_mark (drop at c.args.name.now) ≡ true
    = ap begins_with_mark (sym (take_rest c.args.name.now at)) ∙ sym c.if-begins_with_mark.ensures in
    (λ is. (at, omega arith, found), λ has. cc)

pub returns : goal.returns
returns c =
    let i = c.loop-step.invariant in
    let none = none_left c.args.name.now c.loop-step.from i.1 c.in_default.ensures i.0 in
    (λ is. absurd (cc), λ (k, lt, has). absurd (none k lt has))
