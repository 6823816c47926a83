use Rattle.std.proofs.Common.{◌<◌, IfSome, arith, codes, length, option_map, subst}
use Rattle.std.proofs.lemmas.Bool.Decides.{nat_tests}
use Rattle.mime_sniff.specs.Growth.{FitForGood}
use Rattle.mime_sniff.specs.Standard.{markup}
use Rattle.mime_sniff.specs.Table.{tag_rules, xml_rules}
use Rattle.mime_sniff.proofs.GrowthLemmas.{settle_markup}
use Rattle.mime_sniff.proofs.RuleLemmas.{bytes_after}
use Rattle.mime_sniff.proofs.TagLemmas.{fit_both, markup_is}
use Rattle.mime_sniff.proofs.settled.of_markup.Goals as goal

pub returns : goal.returns
returns c =
    let text = c.after_white_space-text.result.now in
    let spaces = c.after_white_space-text.ensures in
    let some : 0 < length text = grind (arith, nat_tests, c.is_empty.ensures, c.if-is_empty.false) in
    settle_markup c.args.header.now text spaces.skips spaces.stops (bytes_after c.args.header.now text spaces.skips (λ i. omega (arith, c.type_inv.header i)) 0) some markup
    c.or_else.result (markup_is (codes "text/html") (codes "text/xml"))
    (fit_both text (tag_rules (codes "text/html")) (xml_rules (codes "text/xml")) c.of_html.result c.settled_type.result c.or_else.result c.or_else.ensures
    c.of_html.ensures
    (subst (λ rules. IfSome c.settled_type.result (λ told. FitForGood text rules (option_map (λ t. t.now) told))) c.xml_rows.ensures c.settled_type.ensures))
