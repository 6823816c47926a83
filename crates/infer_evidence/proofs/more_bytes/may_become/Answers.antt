use Rattle.std.proofs.Common.{rules}
use Rattle.std.proofs.lemmas.Iterator.Search.{any_from_yields_List}
use Rattle.infer_deep.proofs.Common.{tests, YieldsList-from_slice}
use Rattle.infer_evidence.proofs.Common.{◌≡◌, ◌∙◌, list_any, alternative_listed, sym}
use Rattle.infer_evidence.proofs.ListedLemmas.{list_any_map}
use Rattle.infer_sig.specs.Open.{may_fit}
use Rattle.infer_evidence.proofs.more_bytes.may_become.Goals as goal

pub returns : goal.returns
returns c =
    let some : c.any.result ≡ list_any (λ a. may_fit c.args.buf.now (alternative_listed a)) c.args.signature.now =
    any_from_yields_List _ _ _ c.any.result c.any.ensures.ran (YieldsList-from_slice c.args.signature.now c.iter.ensures.rest) (λ x b q k. search (rules, tests)) in
    some ∙ sym (list_any_map (may_fit c.args.buf.now) alternative_listed c.args.signature.now)
