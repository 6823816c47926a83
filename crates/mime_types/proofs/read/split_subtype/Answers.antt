use Rattle.std.proofs.Common.{◌∙◌, [], ap, cond, sym}
use Rattle.std.proofs.lemmas.Bool.{false≢true}
use Rattle.mime_types.specs.Parse.{after_semicolon_first, subtype_before}
use Rattle.mime_types.specs.Text.{trim_start}
use Rattle.mime_types.proofs.TokenLemmas.{no_subtype_told, subtype_told}
use Rattle.mime_types.proofs.read.split_subtype.Goals as goal

pub returns-in-Some-clause-subtype : goal.returns-in-Some-clause-subtype
returns-in-Some-clause-subtype c =
    let is = c.in-Some.ensures ∙ ap after_semicolon_first (c.trim_start.ensures ∙ ap trim_start c.split_tokens.ensures.after) in
    c.split_tokens.ensures.tokens ∙ (subtype_told c.args.text.now c.in-Some.tail.now is).0

pub returns-in-Some-clause-tail : goal.returns-in-Some-clause-tail
returns-in-Some-clause-tail c token =
    let is = c.in-Some.ensures ∙ ap after_semicolon_first (c.trim_start.ensures ∙ ap trim_start c.split_tokens.ensures.after) in
    (subtype_told c.args.text.now c.in-Some.tail.now is).1

pub returns-in-None-clause-subtype : goal.returns-in-None-clause-subtype
returns-in-None-clause-subtype c =
    let is = c.in-None.ensures ∙ ap after_semicolon_first (c.trim_start.ensures ∙ ap trim_start c.split_tokens.ensures.after) in
    sym (ap (λ b. cond b (subtype_before c.args.text.now) []) (no_subtype_told c.args.text.now is))

pub returns-in-None-clause-tail : goal.returns-in-None-clause-tail
returns-in-None-clause-tail c token =
    let is = c.in-None.ensures ∙ ap after_semicolon_first (c.trim_start.ensures ∙ ap trim_start c.split_tokens.ensures.after) in
    absurd (false≢true (sym (no_subtype_told c.args.text.now is) ∙ token))
