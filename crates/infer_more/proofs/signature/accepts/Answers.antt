use Rattle.infer_more.proofs.Common.{◌<◌, length, refl, arith, false≢true, alternative_listed, Fits}
use Rattle.infer_more.specs.Row.{is_closed_alternative}
use Rattle.infer_more.proofs.ListLemmas.{passed_by}
use Rattle.infer_more.proofs.OpenLemmas.{none_more, none_of, some_accepted, some_at}
use Rattle.infer_more.proofs.signature.accepts.Goals as goal

pub fits-requires : goal.fits-requires
fits-requires c =
    let lt : c.loop-alternative.alternative-index < length c.args.signature.now = omega arith in
    passed_by is_closed_alternative alternative_listed c.args.signature.now c.loop-alternative.alternative-index _ lt c.requires

pub loop-alternative-preserved : goal.loop-alternative-preserved
loop-alternative-preserved c =
    none_more alternative_listed (λ a. Fits a c.args.buf.now) c.args.signature.now c.loop-alternative.alternative-index _ (omega arith) c.loop-alternative.invariant
    (λ fits. false≢true (c.if-fits.ensures.1 fits))

pub returns-then-fits : goal.returns-then-fits
returns-then-fits c =
    let lt : c.loop-alternative.alternative-index < length c.args.signature.now = omega arith in (
      λ e. (some_accepted c.args.buf.now c.args.signature.now).0
          (some_at alternative_listed (λ a. Fits a c.args.buf.now) c.args.signature.now c.loop-alternative.alternative-index _ lt (c.if-fits.ensures.0 refl)),
      λ h. refl,
    )

pub returns : goal.returns
returns c = (
  λ e. absurd (false≢true e),
  λ h. absurd (none_of alternative_listed (λ a. Fits a c.args.buf.now) c.args.signature.now c.loop-alternative.alternative-index (omega arith) c.loop-alternative.invariant
      ((some_accepted c.args.buf.now c.args.signature.now).1 h)),
)
