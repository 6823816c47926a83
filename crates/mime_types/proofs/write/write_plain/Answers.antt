use Rattle.std.proofs.Common.{◌≡◌, ◌∷◌, [], Some, arith, length, sym}
use Rattle.mime_types.specs.Seen.{value_seen}
use Rattle.mime_types.proofs.WroteLemmas.{then_wrote, within_room, wrote_rest}
use Rattle.mime_types.proofs.write.write_plain.Goals as goal

pub loop-byte-preserved : goal.loop-byte-preserved
loop-byte-preserved c =
    let out = c.write_byte.new.out in
    let one = c.in-Some.byte ∷ [] in
    let same : length out ≡ length c.loop-byte.out = omega arith in
    record {
      within = within_room c.loop-byte.out out c.loop-byte.end c.in_ok-end.end one c.write_byte.result same c.in_ok-end.was c.write_byte.ensures;
      all = λ d o rest. c.loop-byte.invariant.all d o
          (then_wrote one (value_seen c.in-Some.rest) _ (sym c.in-Some.ensures.0) c.write_byte.result c.loop-byte.out out d c.loop-byte.end c.in_ok-end.end o same
          c.in_ok-end.was c.write_byte.ensures rest);
    }

pub returns : goal.returns
returns c =
    c.loop-byte.invariant.all c.loop-byte.out (Some c.loop-byte.end)
    (wrote_rest c.loop-byte.out c.loop-byte.end (value_seen c.loop-byte.left) c.loop-byte.invariant.within c.in_default.ensures)
