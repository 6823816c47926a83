use Rattle.std.proofs.Common.{rules}
use Rattle.std.proofs.lemmas.Iterator.Search.{all_from_yields_List}
use Rattle.infer_deep.proofs.Common.{tests, YieldsList-from_slice}
use Rattle.infer_evidence.proofs.Common.{◌≡◌, ◌∙◌, list_all, part_listed, sym}
use Rattle.infer_evidence.proofs.ListedLemmas.{list_all_map}
use Rattle.infer_sig.specs.Open.{may_have}
use Rattle.infer_evidence.proofs.more_bytes.may_fit.Goals as goal

pub returns : goal.returns
returns c =
    let each : c.all.result ≡ list_all (λ part. may_have c.args.buf.now (part_listed part)) c.args.alternative.now.parts.now =
    all_from_yields_List _ _ _ c.all.result c.all.ensures.ran (YieldsList-from_slice c.args.alternative.now.parts.now c.iter.ensures.rest) (λ x b q k. search (rules, tests)) in
    each ∙ sym (list_all_map (may_have c.args.buf.now) part_listed c.args.alternative.now.parts.now)
