use Rattle.std.proofs.Common.{arith}
use Rattle.mime_sniff.specs.Rule.{FitsRule}
use Rattle.mime_sniff.specs.Table.{tag_rules, xml_rules}
use Rattle.mime_sniff.proofs.FirstLemmas.{finds_left, finds_right}
use Rattle.mime_sniff.proofs.TagLemmas.{finds_html, finds_no_html}
use Rattle.mime_sniff.proofs.markup.of_tag.Goals as goal

pub returns-then-is_html : goal.returns-then-is_html
returns-then-is_html c =
    let html = c.args.html.now in
    finds_left (FitsRule c.args.text.now) (tag_rules html) (xml_rules c.args.xml.now) html
    (finds_html c.args.text.now (λ i. omega (arith, c.type_inv.text i)) c.requires html (c.is_html.ensures.0 c.if-is_html.true))

pub returns : goal.returns
returns c =
    let html = c.args.html.now in
    finds_right (FitsRule c.args.text.now) (tag_rules html) (xml_rules c.args.xml.now) _
    (finds_no_html c.args.text.now (λ i. omega (arith, c.type_inv.text i)) c.requires html (λ h. let t = c.is_html.ensures.1 h in cc))
    (rw c.xml_rows.ensures at c.first_type.ensures)
