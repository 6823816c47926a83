use Rattle.std.proofs.Common.{[], ◌++◌, None}
use Rattle.mime_sniff.specs.Rule.{Accepts}
use Rattle.mime_sniff.specs.Standard.{mp3_rule}
use Rattle.mime_sniff.proofs.FirstLemmas.{finds_here, finds_later, finds_none}
use Rattle.mime_sniff.proofs.GrowthLemmas.{header_before, mp3_grown}
use Rattle.mime_sniff.proofs.settled.of_mp3.Goals as goal

pub returns-then-is_mp3 : goal.returns-then-is_mp3
returns-then-is_mp3 c more =
    finds_here (Accepts (c.args.header.now ++ more)) mp3_rule [] (mp3_grown c.args.header.now more (c.is_mp3.ensures.0 c.if-is_mp3.true))

pub returns : goal.returns
returns c more =
    finds_later (Accepts (c.args.header.now ++ more)) mp3_rule [] None
    (λ is. let t = c.may_begin_header.ensures.1 (header_before c.args.header.now more is.first) in cc)
    (finds_none (Accepts (c.args.header.now ++ more)))
