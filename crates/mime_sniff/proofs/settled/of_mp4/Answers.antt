use Rattle.std.proofs.Common.{[], ◌++◌, codes, None}
use Rattle.mime_sniff.specs.Rule.{Accepts}
use Rattle.mime_sniff.specs.Standard.{mp4_rule}
use Rattle.mime_sniff.proofs.FirstLemmas.{finds_here, finds_later, finds_none}
use Rattle.mime_sniff.proofs.GrowthLemmas.{agrees_before, mp4_grown}
use Rattle.mime_sniff.proofs.settled.of_mp4.Goals as goal

pub returns-then-is_mp4_of_any_box : goal.returns-then-is_mp4_of_any_box
returns-then-is_mp4_of_any_box c more =
    finds_here (Accepts (c.args.header.now ++ more)) mp4_rule [] (mp4_grown c.args.header.now more (c.is_mp4_of_any_box.ensures.0 c.if-is_mp4_of_any_box.true))

pub returns : goal.returns
returns c more =
    finds_later (Accepts (c.args.header.now ++ more)) mp4_rule [] None
    (λ is. let t = c.may_stand_at.ensures.1 (agrees_before c.args.header.now more (codes "ftyp") 4 is.kind) in cc)
    (finds_none (Accepts (c.args.header.now ++ more)))
