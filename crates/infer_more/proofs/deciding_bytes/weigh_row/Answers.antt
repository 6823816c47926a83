use Rattle.infer_more.proofs.Common.{Accepted, List, arith, false≢true, refl, signature_listed, subst}
use Rattle.infer_more.proofs.OutlineLemmas.{buffer_of}
use Rattle.infer_formats.specs.Markup.{DecidesByRoot}
use Rattle.infer_evidence.specs.Weighed.{HasParts}
use Rattle.infer_more.specs.Evidence.{HasPiece}
use Rattle.infer_more.specs.declared.row_data.Alternative.{Alternative}
use Rattle.infer_more.specs.declared.row_data.Piece.{Piece}
use Rattle.infer_more.proofs.EvidenceLemmas.{alike_at, has_some, lacks_all, root_told_at}
use Rattle.infer_more.proofs.deciding_bytes.weigh_row.Goals as goal

pub returns-in-Some-clause-answer : goal.returns-in-Some-clause-answer
returns-in-Some-clause-answer c =
    let held = c.in-Some.ensures in
    let here = has_some c.by_place.ensures c.args.buf.now c.alternatives_of-signature.result.now c.in-Some.bytes.now held.1 held.0 in
    (λ yes. subst (λ (xs : List Alternative). Accepted (signature_listed xs) c.args.buf.now) c.alternatives_of-signature.ensures here, λ h. refl)

pub returns-in-Some-clause-proves : goal.returns-in-Some-clause-proves
returns-in-Some-clause-proves c = λ b bytes agrees.
    let held = c.in-Some.ensures in
    let own = c.alternatives_of-signature.result.now in
    let here = has_some c.by_place.ensures c.args.buf.now own c.in-Some.bytes.now held.1 held.0 in
    let told = c.accept.ensures.proves b agrees in
    let has = subst (λ (pieces : List Piece). HasParts HasPiece b c.in-Some.bytes.now.least pieces) c.pieces_of.ensures told.1 in
    let there = has_some c.by_place.ensures b own c.in-Some.bytes.now held.1 has in (
      told.0,
      alike_at c.args.i _ c.args.buf.now b c.requires.listed (
        λ h. subst (λ (xs : List Alternative). Accepted (signature_listed xs) c.args.buf.now) c.alternatives_of-signature.ensures here,
        λ h. subst (λ (xs : List Alternative). Accepted (signature_listed xs) b) c.alternatives_of-signature.ensures there,
      ),
    )

pub returns-then-lacks_bytes-clause-answer : goal.returns-then-lacks_bytes-clause-answer
returns-then-lacks_bytes-clause-answer c =
    let none = lacks_all c.by_place.ensures c.args.buf.now c.alternatives_of-signature.result.now (c.lacks_bytes.ensures c.if-lacks_bytes.true) in (
      λ yes. absurd (false≢true yes),
      λ h. absurd (subst (λ (xs : List Alternative). ¬ Accepted (signature_listed xs) c.args.buf.now) c.alternatives_of-signature.ensures none h),
    )

pub returns-then-lacks_bytes-clause-proves : goal.returns-then-lacks_bytes-clause-proves
returns-then-lacks_bytes-clause-proves c = λ b bytes agrees.
    let told = c.refuse_all.ensures.proves b bytes agrees in
    let own = c.alternatives_of-signature.result.now in
    let none = lacks_all c.by_place.ensures c.args.buf.now own (c.lacks_bytes.ensures c.if-lacks_bytes.true) in
    let none_there = lacks_all c.by_place.ensures b own told.1 in (
      told.0,
      alike_at c.args.i _ c.args.buf.now b c.requires.listed (
        λ h. absurd (subst (λ (xs : List Alternative). ¬ Accepted (signature_listed xs) b) c.alternatives_of-signature.ensures none_there h),
        λ h. absurd (subst (λ (xs : List Alternative). ¬ Accepted (signature_listed xs) c.args.buf.now) c.alternatives_of-signature.ensures none h),
      ),
    )

pub ask_front-requires : goal.ask_front-requires
ask_front-requires c =
    let told = subst (λ (xs : List Alternative). DecidesByRoot c.args.read.now.root (Accepted (signature_listed xs)) c.in-Some-accepts_root.accepts)
    c.alternatives_of-signature.ensures c.in-Some-accepts_root.ensures in
    root_told_at c.args.i _ c.args.read.now c.args.buf.now c.in-Some-accepts_root.accepts c.requires.listed
    (buffer_of c.args.buf.now (λ i. omega (arith, c.type_inv.buf i))) c.requires.rooted told
