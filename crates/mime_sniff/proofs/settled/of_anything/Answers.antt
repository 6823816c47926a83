use Rattle.mime_sniff.specs.Standard.{scriptable, unscripted}
use Rattle.mime_sniff.proofs.GrowthLemmas.{settle_both}
use Rattle.mime_sniff.proofs.settled.of_anything.Goals as goal

pub returns : goal.returns
returns c = settle_both c.args.header.now scriptable unscripted _ _ _ c.or_else.ensures c.of_scriptable.ensures c.of_unscripted.ensures
