use Rattle.std.proofs.Common.{[], ◌∷◌, ◌++◌}
use Rattle.mime_sniff.specs.Standard.{archives, media, text_rule}
use Rattle.mime_sniff.specs.Table.{images}
use Rattle.mime_sniff.proofs.GrowthLemmas.{settle_both}
use Rattle.mime_sniff.proofs.settled.of_after_texts.Goals as goal

pub returns : goal.returns
returns c =
    let b = c.args.header.now in
    let after_media = settle_both b archives (text_rule ∷ []) _ _ _ c.or_else.ensures c.of_archives.ensures c.of_text.ensures in
    let after_images = settle_both b media (archives ++ text_rule ∷ []) _ _ _ c.or_else-after_images.ensures c.of_media.ensures after_media in
    settle_both b images (media ++ (archives ++ text_rule ∷ [])) _ _ _ c.or_else-2.ensures c.of_images.ensures after_images
