use Rattle.infer_formats.proofs.Common.{◌∙◌, IsTrue, false≢true, inl, inr, sym}
use Rattle.infer_formats.proofs.BeginsLemmas.{begins_known}
use Rattle.infer_formats.proofs.begins.may_become.may_begin.Goals as goal

pub returns-then-may_stand_at : goal.returns-then-may_stand_at
returns-then-may_stand_at c = λ h. c.if-may_stand_at.true

pub returns-then-may_stand_at-2 : goal.returns-then-may_stand_at-2
returns-then-may_stand_at-2 c = λ h. elim (begins_known c.args.text.now c.args.buf.now h) as (λ k. IsTrue c.may_stand_at-then-may_stand_at-2.result) [
  | inl first ↦ absurd (false≢true (sym c.if-may_stand_at.false ∙ c.may_stand_at.ensures.1 first))
  | inr after ↦ c.may_stand_at-then-may_stand_at-2.ensures.1 after.1
]

pub returns-else-may_stand_at-2 : goal.returns-else-may_stand_at-2
returns-else-may_stand_at-2 c = λ h. elim (begins_known c.args.text.now c.args.buf.now h) as (λ k. IsTrue c.may_stand_at-else-may_stand_at.result) [
  | inl first ↦ absurd (false≢true (sym c.if-may_stand_at.false ∙ c.may_stand_at.ensures.1 first))
  | inr after ↦ c.may_stand_at-else-may_stand_at.ensures.1 after.0
]
