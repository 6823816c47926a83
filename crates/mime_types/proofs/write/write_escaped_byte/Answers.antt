use Rattle.std.proofs.Common.{◌≡◌, ◌∷◌, [], arith, length, refl, subst, sym}
use Rattle.mime_types.specs.Serialize.{escaped}
use Rattle.mime_types.proofs.WroteLemmas.{then_wrote}
use Rattle.mime_types.proofs.write.write_escaped_byte.Goals as goal
use Rattle.mime_types.proofs.write.write_escaped_byte.Goals.{then-byte-eq34-via-then-byte-eq34, then-byte-eq34-via-else-byte-eq34+then-byte-eq92}

pub returns-then-byte-eq34 : goal.returns-then-byte-eq34
returns-then-byte-eq34 c =
    let x = c.args.byte in
    let whole : 0x5C ∷ x ∷ [] ≡ escaped (x ∷ []) =
    elim c.then-byte-eq34.branch [
      | then-byte-eq34-via-then-byte-eq34 w ↦ subst (λ y. 0x5C ∷ y ∷ [] ≡ escaped (y ∷ [])) (sym w.if-byte-eq34.true) refl
      | then-byte-eq34-via-else-byte-eq34+then-byte-eq92 w ↦ subst (λ y. 0x5C ∷ y ∷ [] ≡ escaped (y ∷ [])) (sym w.if-byte-eq92.true) refl
    ] in
    let out = c.write_byte.new.out in
    let same : length out ≡ length c.args.out.now = omega arith in
    then_wrote (0x5C ∷ []) (x ∷ []) (escaped (x ∷ [])) whole c.write_byte.result c.args.out.now out c.write_byte-then-byte-eq34.new.out c.args.at c.in_ok-at.at
    c.write_byte-then-byte-eq34.result same c.in_ok-at.was c.write_byte.ensures c.write_byte-then-byte-eq34.ensures
