use Rattle.std.proofs.Common.{◌≡◌, ◌∙◌, None, Some, ap, arith, length, rules}
use Rattle.mime_types.specs.Left.{left}
use Rattle.mime_types.specs.Seen.{parameter_seen}
use Rattle.mime_types.specs.Serialize.{parameter_text, parameters_text}
use Rattle.mime_types.proofs.WroteLemmas.{text_first, text_none, then_none, then_wrote, within_room, wrote_rest}
use Rattle.mime_types.proofs.write.write_parameters.Goals as goal

pub returns-in_err-end : goal.returns-in_err-end
returns-in_err-end c =
    let p = parameter_seen c.in-Some.parameter in
    let whole = text_first (left c.loop-parameter.left) (left c.next.new.self) p c.in-Some.ensures.left in
    let out = c.write_parameter.new.out in
    let none : c.from_residual.result ≡ None = search rules in
    c.loop-parameter.invariant.all out c.from_residual.result
    (then_none (parameter_text p) (parameters_text (left c.next.new.self)) _ whole c.write_parameter.result c.loop-parameter.out out c.loop-parameter.end
    c.from_residual.result (c.in_err-end.was {u = tt}) none c.write_parameter.ensures)

pub loop-parameter-preserved : goal.loop-parameter-preserved
loop-parameter-preserved c =
    let p = parameter_seen c.in-Some.parameter in
    let whole = text_first (left c.loop-parameter.left) (left c.next.new.self) p c.in-Some.ensures.left in
    let out = c.write_parameter.new.out in
    let same : length out ≡ length c.loop-parameter.out = omega arith in
    record {
      within = within_room c.loop-parameter.out out c.loop-parameter.end c.in_ok-end.end (parameter_text p) c.write_parameter.result same c.in_ok-end.was c.write_parameter.ensures;
      all = λ d o rest. c.loop-parameter.invariant.all d o
          (then_wrote (parameter_text p) (parameters_text (left c.next.new.self)) _ whole c.write_parameter.result c.loop-parameter.out out d c.loop-parameter.end
          c.in_ok-end.end o same c.in_ok-end.was c.write_parameter.ensures rest);
    }

pub returns : goal.returns
returns c =
    c.loop-parameter.invariant.all c.loop-parameter.out (Some c.loop-parameter.end)
    (wrote_rest c.loop-parameter.out c.loop-parameter.end (parameters_text (left c.loop-parameter.left)) c.loop-parameter.invariant.within
    (ap parameters_text c.in_default.ensures.left.0 ∙ text_none))
