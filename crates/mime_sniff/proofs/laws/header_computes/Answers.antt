use Rattle.std.proofs.Common.{◌≡◌, arith, subst, sym, take-take}
use Rattle.mime_sniff.specs.Computed.{Answers}
use Rattle.mime_sniff.specs.Standard.{header}
use Rattle.mime_sniff.proofs.laws.header_computes.Goals as goal

pub returns : goal.returns
returns c s b t =
    let again : header (header b) ≡ header b = take-take 1445 1445 b (omega arith) in (
      λ (q, asked, h). (q, asked, subst (λ x. Answers q x t) again h),
      λ (q, asked, h). (q, asked, subst (λ x. Answers q x t) (sym again) h),
    )
