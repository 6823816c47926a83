use Rattle.std.proofs.Common.{arith}
use Rattle.std.proofs.lemmas.Bool.Decides.{nat_tests}
use Rattle.mime_sniff.specs.Table.{markup_rules}
use Rattle.mime_sniff.proofs.RuleLemmas.{bytes_after, finds_markup, finds_no_markup}
use Rattle.mime_sniff.proofs.TagLemmas.{markup_is}
use Rattle.mime_sniff.proofs.markup.of_markup.Goals as goal
use Rattle.mime_sniff.proofs.markup.of_markup.Goals.{then-is_empty-via-then-is_empty, then-is_empty-via-else-is_empty+then-text-ne60}

pub returns-then-is_empty : goal.returns-then-is_empty
returns-then-is_empty c =
    let text = c.after_white_space-text.result.now in
    let spaces = c.after_white_space-text.ensures in
    let bytes = bytes_after c.args.header.now text spaces.skips (λ i. omega (arith, c.type_inv.header i)) in
    finds_no_markup c.args.header.now text spaces.skips spaces.stops (bytes 0) (markup_rules c.args.html.now c.args.xml.now) (markup_is c.args.html.now c.args.xml.now)
    (λ some first. elim c.then-is_empty.branch [
      | then-is_empty-via-then-is_empty w ↦ grind (arith, nat_tests, c.is_empty.ensures, w.if-is_empty.true, some)
      | then-is_empty-via-else-is_empty+then-text-ne60 w ↦ absurd (omega (arith, w.if-text-ne60.true, first))
    ])

pub returns : goal.returns
returns c =
    let text = c.after_white_space-text.result.now in
    let spaces = c.after_white_space-text.ensures in
    let bytes = bytes_after c.args.header.now text spaces.skips (λ i. omega (arith, c.type_inv.header i)) in
    finds_markup c.args.header.now text spaces.skips spaces.stops (bytes 0) (markup_rules c.args.html.now c.args.xml.now) _ (markup_is c.args.html.now c.args.xml.now)
    c.of_tag.ensures
