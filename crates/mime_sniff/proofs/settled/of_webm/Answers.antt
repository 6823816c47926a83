use Rattle.std.proofs.Common.{[], ◌∷◌, ◌++◌, None}
use Rattle.mime_sniff.specs.Rule.{Accepts}
use Rattle.mime_sniff.specs.Standard.{webm_rule}
use Rattle.mime_sniff.proofs.FirstLemmas.{finds_here, finds_later, finds_none}
use Rattle.mime_sniff.proofs.GrowthLemmas.{agrees_before, webm_grown}
use Rattle.mime_sniff.proofs.settled.of_webm.Goals as goal

pub returns-then-is_webm : goal.returns-then-is_webm
returns-then-is_webm c more =
    finds_here (Accepts (c.args.header.now ++ more)) webm_rule [] (webm_grown c.args.header.now more (c.is_webm.ensures.0 c.if-is_webm.true))

pub returns : goal.returns
returns c more =
    finds_later (Accepts (c.args.header.now ++ more)) webm_rule [] None
    (λ is. let t = c.may_stand_at.ensures.1 (agrees_before c.args.header.now more (0x1A ∷ 0x45 ∷ 0xDF ∷ 0xA3 ∷ []) 0 is.0) in cc)
    (finds_none (Accepts (c.args.header.now ++ more)))
