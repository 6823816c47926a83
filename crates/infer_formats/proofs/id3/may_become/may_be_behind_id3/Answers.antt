use Rattle.infer_formats.proofs.Common.{◌+◌, ◌∙◌, IsTrue, arith, inl, inr, lt-ltb, subst, sym}
use Rattle.infer_deep.specs.Open.{AgreesAt}
use Rattle.infer_formats.proofs.Id3Lemmas.{after_known}
use Rattle.infer_formats.proofs.id3.may_become.may_be_behind_id3.Goals as goal

pub returns-then-not-may_stand_at : goal.returns-then-not-may_stand_at
returns-then-not-may_stand_at c = λ h. sym c.if-not-may_stand_at.true ∙ c.may_stand_at.ensures.1 (after_known c.args.text.now c.args.buf.now h).0

pub returns-then-buf-lt-HEADER_SIZE : goal.returns-then-buf-lt-HEADER_SIZE
returns-then-buf-lt-HEADER_SIZE c = λ h. lt-ltb _ 10 c.if-buf-lt-HEADER_SIZE.true

pub returns-else-buf-lt-HEADER_SIZE : goal.returns-else-buf-lt-HEADER_SIZE
returns-else-buf-lt-HEADER_SIZE c = λ h. elim (after_known c.args.text.now c.args.buf.now h).1 as (λ k. IsTrue c.may_stand_at-else-buf-lt-HEADER_SIZE.result) [
  | inl short ↦ absurd (let long = c.if-buf-lt-HEADER_SIZE.false in omega arith)
  | inr stands ↦ c.may_stand_at-else-buf-lt-HEADER_SIZE.ensures.1 (subst (λ n. AgreesAt c.args.buf.now c.args.text.now (10 + n)) (sym c.tag_size.ensures.size) stands)
]
