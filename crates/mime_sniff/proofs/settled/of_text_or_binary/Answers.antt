use Rattle.std.proofs.Common.{[], ◌∷◌}
use Rattle.mime_sniff.specs.Standard.{marks, text_rule}
use Rattle.mime_sniff.proofs.GrowthLemmas.{settle_both}
use Rattle.mime_sniff.proofs.settled.of_text_or_binary.Goals as goal

pub returns : goal.returns
returns c = settle_both c.args.header.now marks (text_rule ∷ []) _ _ _ c.or_else.ensures c.of_marks.ensures c.of_text.ensures
