use Rattle.infer_more.proofs.Common.{◌<◌, length, refl, arith, false≢true, MayBecome, alternative_listed, Fits}
use Rattle.infer_more.specs.Open.{is_fixed, is_sound}
use Rattle.infer_more.proofs.ListLemmas.{passed_by}
use Rattle.infer_more.proofs.OpenLemmas.{none_more, none_of, some_at, some_fits}
use Rattle.infer_more.proofs.more_bytes.may_become_accepted.Goals as goal

pub may_fit-requires : goal.may_fit-requires
may_fit-requires c =
    let lt : c.loop-alternative.alternative-index < length c.args.signature.now = omega arith in
    passed_by is_sound alternative_listed c.args.signature.now c.loop-alternative.alternative-index _ lt c.requires

pub loop-alternative-preserved : goal.loop-alternative-preserved
loop-alternative-preserved c =
    let b = c.args.buf.now in
    none_more alternative_listed (λ a. MayBecome (Fits a) b) c.args.signature.now c.loop-alternative.alternative-index _ (omega arith) c.loop-alternative.invariant
    (λ may. false≢true (c.if-may_fit.ensures.may may))

pub returns-then-may_fit-clause-exact : goal.returns-then-may_fit-clause-exact
returns-then-may_fit-clause-exact c = λ fixed e.
    let b = c.args.buf.now in
    let lt : c.loop-alternative.alternative-index < length c.args.signature.now = omega arith in
    (some_fits b c.args.signature.now).0 (some_at alternative_listed (λ a. MayBecome (Fits a) b) c.args.signature.now c.loop-alternative.alternative-index _ lt
    (c.if-may_fit.ensures.exact (passed_by is_fixed alternative_listed c.args.signature.now c.loop-alternative.alternative-index _ lt fixed) refl))

pub returns-clause-may : goal.returns-clause-may
returns-clause-may c = λ h.
    let b = c.args.buf.now in
    absurd (none_of alternative_listed (λ a. MayBecome (Fits a) b) c.args.signature.now c.loop-alternative.alternative-index (omega arith) c.loop-alternative.invariant ((some_fits b c.args.signature.now).1 h))
