use Rattle.infer_more.proofs.FoundLemmas.{all_parentless}
use Rattle.infer_more.proofs.index.law_finds_parentless.Goals as goal

pub returns : goal.returns
returns c = all_parentless c.by_place.ensures c.leads.ensures c.args.index.now c.args.names.now c.requires.each c.requires.named
