use Rattle.std.proofs.Common.{◌≡◌, ◌∙◌, ◌+◌, ◌∷◌, [], suc, Some, ap, arith, drop, drop-cons, get_or, length, sym}
use Rattle.std.proofs.lemmas.List.{drop_all}
use Rattle.mime_types.specs.Text.{lower}
use Rattle.mime_types.proofs.WroteLemmas.{then_wrote, within_room, wrote_rest}
use Rattle.mime_types.proofs.write.write_lower.Goals as goal

pub loop-byte-preserved : goal.loop-byte-preserved
loop-byte-preserved c =
    let t = c.args.text.now in
    let i = c.loop-byte.byte-index in
    let out = c.write_byte.new.out in
    let one = c.to_ascii_lowercase.result ∷ [] in
    let after = lower (drop (i + 1) t) in
    let next : i + 1 ≡ suc i = omega arith in
    let whole : c.to_ascii_lowercase.result ∷ after ≡ lower (drop i t) =
    ap (λ x. x ∷ after) c.to_ascii_lowercase.ensures.value
    ∙ (ap (λ n. lower (get_or t i 0 ∷ drop n t)) next ∙ ap lower (sym (drop-cons t i 0 c.loop-byte-test.true))) in
    let same : length out ≡ length c.loop-byte.out = omega arith in
    record {
      within = within_room c.loop-byte.out out c.loop-byte.end c.in_ok-end.end one c.write_byte.result same c.in_ok-end.was c.write_byte.ensures;
      all = λ d o rest. c.loop-byte.invariant.all d o
          (then_wrote one after _ whole c.write_byte.result c.loop-byte.out out d c.loop-byte.end c.in_ok-end.end o same c.in_ok-end.was c.write_byte.ensures
          rest);
    }

pub returns : goal.returns
returns c =
    c.loop-byte.invariant.all c.loop-byte.out (Some c.loop-byte.end)
    (wrote_rest c.loop-byte.out c.loop-byte.end (lower (drop c.loop-byte.byte-index c.args.text.now)) c.loop-byte.invariant.within
    (ap lower (drop_all c.loop-byte.byte-index c.args.text.now c.loop-byte-test.false)))
