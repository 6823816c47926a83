use Rattle.std.proofs.Common.{arith, codes}
use Rattle.mime_sniff.proofs.TagLemmas.{html_stays, no_html_comes}
use Rattle.mime_sniff.proofs.settled.of_html.Goals as goal

pub returns-then-is_html : goal.returns-then-is_html
returns-then-is_html c = html_stays c.args.text.now (λ i. omega (arith, c.type_inv.text i)) c.requires (codes "text/html") (c.is_html.ensures.0 c.if-is_html.true)

pub returns : goal.returns
returns c =
    no_html_comes c.args.text.now (λ i. omega (arith, c.type_inv.text i)) c.requires (codes "text/html")
    (λ h. let t = c.may_become_html.ensures.1 h in cc)
