use Rattle.mime_sniff.specs.Standard.{documents, markup}
use Rattle.mime_sniff.proofs.GrowthLemmas.{settle_both}
use Rattle.mime_sniff.proofs.settled.of_scriptable.Goals as goal

pub returns : goal.returns
returns c = settle_both c.args.header.now markup documents _ _ _ c.or_else.ensures c.of_markup.ensures c.of_documents.ensures
