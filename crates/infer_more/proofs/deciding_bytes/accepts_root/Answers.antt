use Rattle.infer_more.proofs.Common.{◌<◌, ◌≤◌, Fits, alternative_listed, arith, length}
use Rattle.infer_more.proofs.OpenLemmas.{some_accepted, some_more, some_of}
use Rattle.infer_more.proofs.EvidenceLemmas.{root_of_either, root_of_none, root_of_same}
use Rattle.infer_more.proofs.deciding_bytes.accepts_root.Goals as goal

pub loop-alternative-init : goal.loop-alternative-init
loop-alternative-init c = root_of_none c.args.root.now

pub loop-alternative-preserved : goal.loop-alternative-preserved
loop-alternative-preserved c =
    let lt : c.loop-alternative.alternative-index < length c.args.signature.now = omega arith in
    root_of_either c.args.root.now _ _ _ _ _
    (λ b. some_more alternative_listed (λ a. Fits a b) c.args.signature.now c.loop-alternative.alternative-index _ lt)
    c.loop-alternative.invariant c.in_ok-accepts.ensures

pub returns : goal.returns
returns c =
    let past : length c.args.signature.now ≤ c.loop-alternative.alternative-index = omega arith in
    root_of_same c.args.root.now _ _ c.loop-alternative.accepts
    (λ b.
    let all = some_accepted b c.args.signature.now in
    let some = some_of alternative_listed (λ a. Fits a b) c.args.signature.now c.loop-alternative.alternative-index past in
    (λ h. some.0 (all.1 h), λ s. all.0 (some.1 s)))
    c.loop-alternative.invariant
