use Rattle.infer_more.proofs.Common.{[], ◌∷◌, IsTrue, sym, subst, MayBecome, alternative_listed, Fits}
use Rattle.infer_formats.specs.Relation.{IsSound}
use Rattle.infer_more.specs.Listed.{bytes_listed, relation_at}
use Rattle.infer_more.specs.Open.{is_sound}
use Rattle.infer_more.specs.declared.row_data.Alternative.{Alternative}
use Rattle.infer_more.proofs.OpenLemmas.{binary_open, bytes_open, sound_relation}
use Rattle.infer_more.proofs.more_bytes.may_fit.Goals as goal

pub may_fit-requires : goal.may_fit-requires
may_fit-requires c =
    subst IsSound (sym c.relation_at.ensures) (sound_relation (relation_at c.in-Related.number) (subst (λ (a : Alternative). IsTrue (is_sound (alternative_listed a))) c.in-Related.is c.requires))

pub returns-in-Bytes : goal.returns-in-Bytes
returns-in-Bytes c =
    let open_it = bytes_open c.open.ensures (bytes_listed c.in-Bytes.bytes) (subst (λ (a : Alternative). IsTrue (is_sound (alternative_listed a))) c.in-Bytes.is c.requires)
    c.args.buf.now _ c.may_have_bytes.ensures in
    record {
      may = λ h. open_it.1 (subst (λ (a : Alternative). MayBecome (Fits (alternative_listed a)) c.args.buf.now) c.in-Bytes.is h);
      exact = λ fixed t. subst (λ (a : Alternative). MayBecome (Fits (alternative_listed a)) c.args.buf.now) (sym c.in-Bytes.is) (open_it.0 t);
    }

pub returns-in-BinaryBytes : goal.returns-in-BinaryBytes
returns-in-BinaryBytes c =
    let open_it = binary_open c.open.ensures (bytes_listed c.in-BinaryBytes.bytes) (subst (λ (a : Alternative). IsTrue (is_sound (alternative_listed a))) c.in-BinaryBytes.is c.requires)
    c.args.buf.now (c.growth.ensures (bytes_listed c.in-BinaryBytes.bytes ∷ [])) _ c.may_have_bytes-in-BinaryBytes.ensures in
    record {
      may = λ h. open_it.1 (subst (λ (a : Alternative). MayBecome (Fits (alternative_listed a)) c.args.buf.now) c.in-BinaryBytes.is h);
      exact = λ fixed t. subst (λ (a : Alternative). MayBecome (Fits (alternative_listed a)) c.args.buf.now) (sym c.in-BinaryBytes.is) (open_it.0 t);
    }
