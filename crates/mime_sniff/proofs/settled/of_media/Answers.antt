use Rattle.std.proofs.Common.{[], ◌∷◌}
use Rattle.mime_sniff.specs.Standard.{mp3_rule, mp4_rule, webm_rule}
use Rattle.mime_sniff.specs.Table.{sounds}
use Rattle.mime_sniff.proofs.GrowthLemmas.{settle_both}
use Rattle.mime_sniff.proofs.settled.of_media.Goals as goal

pub returns : goal.returns
returns c =
    let b = c.args.header.now in
    let after_mp4 = settle_both b (webm_rule ∷ []) (mp3_rule ∷ []) _ _ _ c.or_else-after_mp4.ensures c.of_webm.ensures c.of_mp3.ensures in
    let after_sounds = settle_both b (mp4_rule ∷ []) (webm_rule ∷ mp3_rule ∷ []) _ _ _ c.or_else.ensures c.of_mp4.ensures after_mp4 in
    settle_both b sounds (mp4_rule ∷ webm_rule ∷ mp3_rule ∷ []) _ _ _ c.or_else-2.ensures c.of_sounds.ensures after_sounds
