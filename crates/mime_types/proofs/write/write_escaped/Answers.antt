use Rattle.std.proofs.Common.{◌≡◌, ◌∙◌, ◌∷◌, [], None, Some, ap, arith, length, rules, sym}
use Rattle.mime_types.specs.Seen.{value_seen}
use Rattle.mime_types.specs.Serialize.{escaped}
use Rattle.mime_types.proofs.WroteLemmas.{escaped_one, then_none, then_wrote, within_room, wrote_rest}
use Rattle.mime_types.proofs.write.write_escaped.Goals as goal

pub returns-in_err-end : goal.returns-in_err-end
returns-in_err-end c =
    let out = c.write_escaped_byte.new.out in
    let after = value_seen c.in-Some.rest in
    let whole = escaped_one c.in-Some.byte after ∙ ap escaped (sym c.in-Some.ensures.0) in
    let none : c.from_residual.result ≡ None = search rules in
    c.loop-byte.invariant.all out c.from_residual.result
    (then_none (escaped (c.in-Some.byte ∷ [])) (escaped after) _ whole c.write_escaped_byte.result c.loop-byte.out out c.loop-byte.end c.from_residual.result
    (c.in_err-end.was {u = tt}) none c.write_escaped_byte.ensures)

pub loop-byte-preserved : goal.loop-byte-preserved
loop-byte-preserved c =
    let out = c.write_escaped_byte.new.out in
    let one = escaped (c.in-Some.byte ∷ []) in
    let after = value_seen c.in-Some.rest in
    let whole = escaped_one c.in-Some.byte after ∙ ap escaped (sym c.in-Some.ensures.0) in
    let same : length out ≡ length c.loop-byte.out = omega arith in
    record {
      within = within_room c.loop-byte.out out c.loop-byte.end c.in_ok-end.end one c.write_escaped_byte.result same c.in_ok-end.was c.write_escaped_byte.ensures;
      all = λ d o rest. c.loop-byte.invariant.all d o
          (then_wrote one (escaped after) _ whole c.write_escaped_byte.result c.loop-byte.out out d c.loop-byte.end c.in_ok-end.end o same c.in_ok-end.was
          c.write_escaped_byte.ensures rest);
    }

pub returns : goal.returns
returns c =
    c.loop-byte.invariant.all c.loop-byte.out (Some c.loop-byte.end)
    (wrote_rest c.loop-byte.out c.loop-byte.end (escaped (value_seen c.loop-byte.left)) c.loop-byte.invariant.within (ap escaped c.in_default.ensures))
