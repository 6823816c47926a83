use Rattle.infer_formats.proofs.Common.{arith}
use Rattle.infer_formats.proofs.ZipLemmas.{none_past, none_left}
use Rattle.infer_formats.specs.Zip.{IsEntryNamed}
use Rattle.infer_formats.proofs.zip.has_named.Goals as goal

pub loop-step-preserved : goal.loop-step-preserved
loop-step-preserved c =
    let i = c.loop-step.invariant in
    let high = c.in-Some.ensures.0.high in (
      omega arith,
      none_past c.args.buf.now (IsEntryNamed c.args.name.now c.args.buf.now) (λ p is. is.0) c.loop-step.from i.1 _ c.in-Some.ensures.0.before
          (λ there. let e = c.is_entry_named.ensures.1 there in absurd (cc)),
    )

pub returns : goal.returns
returns c =
    let i = c.loop-step.invariant in
    let none = none_left c.args.buf.now (IsEntryNamed c.args.name.now c.args.buf.now) (λ p is. is.0) c.loop-step.from i.1 c.in_default.ensures i.0 in
    (λ is. absurd (cc), λ (p, there). absurd (none p there))
