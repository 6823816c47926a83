use Rattle.infer_formats.proofs.Common.{arith, IsFolderEntry}
use Rattle.infer_formats.proofs.ZipLemmas.{none_to, none_past, none_left}
use Rattle.infer_formats.proofs.zip.first_folder.Goals as goal

pub returns-then-is_folder_entry : goal.returns-then-is_folder_entry
returns-then-is_folder_entry c = (
  c.is_folder_entry.ensures.0 c.if-is_folder_entry.true,
  none_to c.args.buf.now (IsFolderEntry c.args.buf.now) (λ p is. is.0) c.loop-step.from c.loop-step.invariant.1 _ c.in-Some.ensures.0.before,
)

pub loop-step-preserved : goal.loop-step-preserved
loop-step-preserved c =
    let i = c.loop-step.invariant in
    let high = c.in-Some.ensures.0.high in (
      omega arith,
      none_past c.args.buf.now (IsFolderEntry c.args.buf.now) (λ p is. is.0) c.loop-step.from i.1 _ c.in-Some.ensures.0.before
          (λ there. let e = c.is_folder_entry.ensures.1 there in absurd (cc)),
    )

pub returns : goal.returns
returns c =
    let i = c.loop-step.invariant in
    none_left c.args.buf.now (IsFolderEntry c.args.buf.now) (λ p is. is.0) c.loop-step.from i.1 c.in_default.ensures i.0
