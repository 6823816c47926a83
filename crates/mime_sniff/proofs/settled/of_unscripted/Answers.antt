use Rattle.std.proofs.Common.{[], ◌∷◌, ◌++◌}
use Rattle.mime_sniff.specs.Standard.{archives, media, text_rule, texts}
use Rattle.mime_sniff.specs.Table.{images}
use Rattle.mime_sniff.proofs.GrowthLemmas.{settle_both}
use Rattle.mime_sniff.proofs.settled.of_unscripted.Goals as goal

pub returns : goal.returns
returns c =
    settle_both c.args.header.now texts (images ++ (media ++ (archives ++ text_rule ∷ []))) _ _ _ c.or_else.ensures c.of_texts.ensures c.of_after_texts.ensures
