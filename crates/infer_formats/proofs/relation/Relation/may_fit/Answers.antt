use Rattle.infer_formats.proofs.Common.{Fits, MayBecome, grown_agrees, png_header, relation_listed, subst}
use Rattle.infer_formats.proofs.relation.Relation.may_fit.Goals as goal

pub returns-in-FirstKeyWith : goal.returns-in-FirstKeyWith
returns-in-FirstKeyWith c = λ may.
    c.may_have_first_key_with.ensures (subst (λ r. MayBecome (Fits (relation_listed r)) c.args.buf.now) c.in-FirstKeyWith.is may)

pub returns-else-may_stand_at : goal.returns-else-may_stand_at
returns-else-may_stand_at c = λ may.
    let (more, bytes, (front, chunks)) = subst (λ r. MayBecome (Fits (relation_listed r)) c.args.buf.now) c.in-Animated.is may in
    c.may_stand_at-in-Animated.ensures.1 (grown_agrees c.args.buf.now more png_header 0 front)
