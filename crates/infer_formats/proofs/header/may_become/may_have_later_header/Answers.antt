use Rattle.infer_formats.proofs.Common.{AgreesAt, inl, inr, arith, subst, sym}
use Rattle.infer_formats.proofs.HeaderLemmas.{header_known}
use Rattle.infer_formats.proofs.header.may_become.may_have_later_header.Goals as goal

pub returns-then-not-is_between : goal.returns-then-not-is_between
returns-then-not-is_between c = λ may.
    elim (header_known c.args.text.now c.args.far c.args.low c.args.high c.args.buf.now may).1 [
      | inl short ↦ absurd (omega arith)
      | inr (agrees, number) ↦ absurd (grind arith)
    ]

pub returns : goal.returns
returns c = λ may.
    elim (header_known c.args.text.now c.args.far c.args.low c.args.high c.args.buf.now may).1 [
      | inl short ↦ absurd (omega arith)
      | inr (agrees, number) ↦ c.may_stand_at-2.ensures.1 (subst (AgreesAt c.args.buf.now c.args.text.now) (sym c.le32-later.ensures) agrees)
    ]
