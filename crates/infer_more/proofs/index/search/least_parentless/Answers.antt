use Rattle.infer_more.proofs.Common.{arith}
use Rattle.infer_more.proofs.FoundLemmas.{least_before_texts, least_with_texts}
use Rattle.infer_more.proofs.IndexLemmas.{both_left}
use Rattle.infer_more.proofs.OutlineLemmas.{buffer_of}
use Rattle.infer_more.proofs.index.search.least_parentless.Goals as goal

pub law_finds_parentless-requires-clause-each : goal.law_finds_parentless-requires-clause-each
law_finds_parentless-requires-clause-each c = c.without_parent-index.ensures

pub law_finds_parentless-requires-clause-named : goal.law_finds_parentless-requires-clause-named
law_finds_parentless-requires-clause-named c = c.named_without_parent-names.ensures

pub least_text-requires : goal.least_text-requires
least_text-requires c = c.without_parent-index.ensures.texts

pub least_by_name-least-requires-clause-roots : goal.least_by_name-least-requires-clause-roots
least_by_name-least-requires-clause-roots c = both_left _ _ c.named_without_parent-names.ensures.roots

pub least_by_name-least-requires-clause-keys : goal.least_by_name-least-requires-clause-keys
least_by_name-least-requires-clause-keys c = both_left _ _ c.named_without_parent-names.ensures.keys

pub returns-then-least-from : goal.returns-then-least-from
returns-then-least-from c =
    let b = c.args.buf.now in
    least_before_texts c.without_parent-index.result c.named_without_parent-names.result.now c.law_finds_parentless.ensures b (buffer_of b (λ i. omega (arith, c.type_inv.buf i))) _ _ c.without_parent-index.ensures.texts (omega (arith, c.from.ensures)) c.least_in_quarters-tried.ensures c.least_by_name-least.ensures

pub returns : goal.returns
returns c =
    let b = c.args.buf.now in
    least_with_texts c.without_parent-index.result c.named_without_parent-names.result.now c.law_finds_parentless.ensures b (buffer_of b (λ i. omega (arith, c.type_inv.buf i))) _ _ _ c.least_in_quarters-tried.ensures c.least_by_name-least.ensures c.least_text.ensures
