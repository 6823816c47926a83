use Rattle.std.proofs.Common.{◌∙◌, ap, inl, inr, sym}
use Rattle.mime_types.specs.Parse.{after_slash_first}
use Rattle.mime_types.specs.Text.{after_tokens, tokens_before}
use Rattle.mime_types.proofs.ReadLemmas.{no_tokens, not_said, parsed, said}
use Rattle.mime_types.proofs.read.parse.Goals as goal
use Rattle.mime_types.proofs.read.parse.Goals.{then-is_empty-via-else-is_empty+then-is_empty-2, then-is_empty-via-then-is_empty}

pub returns-then-is_empty-clause-says : goal.returns-then-is_empty-clause-says
returns-then-is_empty-clause-says c m =
    let t = c.args.text.now in
    let a = c.split_tokens.ensures.tokens ∙ ap tokens_before c.trim.ensures in
    let b = c.after_slash.ensures ∙ ap after_slash_first (c.split_tokens.ensures.after ∙ ap after_tokens c.trim.ensures) in
    elim c.then-is_empty.branch [
      | then-is_empty-via-then-is_empty w ↦ not_said t (no_tokens t _ _ _ a b c.split_subtype.ensures.subtype (inl (sym w.if-is_empty.ensures))) m
      | then-is_empty-via-else-is_empty+then-is_empty-2 w ↦ not_said t (no_tokens t _ _ _ a b c.split_subtype.ensures.subtype (inr (sym w.if-is_empty-2.ensures))) m
    ]

pub invariant_of-result : goal.invariant_of-result
invariant_of-result c =
    let t = c.args.text.now in
    let a = c.split_tokens.ensures.tokens ∙ ap tokens_before c.trim.ensures in
    let b = c.after_slash.ensures ∙ ap after_slash_first (c.split_tokens.ensures.after ∙ ap after_tokens c.trim.ensures) in
    let it = said t _ _ _ a b c.split_subtype.ensures.subtype _ c.split_subtype.ensures.tail (sym c.if-is_empty.ensures) (sym c.if-is_empty-2.ensures) in
    record { type_token = it.type_token; subtype_token = it.subtype_token }

pub returns-clause-says : goal.returns-clause-says
returns-clause-says c m =
    let t = c.args.text.now in
    let a = c.split_tokens.ensures.tokens ∙ ap tokens_before c.trim.ensures in
    let b = c.after_slash.ensures ∙ ap after_slash_first (c.split_tokens.ensures.after ∙ ap after_tokens c.trim.ensures) in
    let it = said t _ _ _ a b c.split_subtype.ensures.subtype _ c.split_subtype.ensures.tail (sym c.if-is_empty.ensures) (sym c.if-is_empty-2.ensures) in
    parsed t _ _ _ it.type_is it.subtype_is it.tail_is it.type_token it.subtype_token m

pub returns-clause-names : goal.returns-clause-names
returns-clause-names c =
    let t = c.args.text.now in
    let a = c.split_tokens.ensures.tokens ∙ ap tokens_before c.trim.ensures in
    let b = c.after_slash.ensures ∙ ap after_slash_first (c.split_tokens.ensures.after ∙ ap after_tokens c.trim.ensures) in
    let it = said t _ _ _ a b c.split_subtype.ensures.subtype _ c.split_subtype.ensures.tail (sym c.if-is_empty.ensures) (sym c.if-is_empty-2.ensures) in
    (it.type_is, it.subtype_is)

pub returns-clause-tail : goal.returns-clause-tail
returns-clause-tail c =
    let t = c.args.text.now in
    let a = c.split_tokens.ensures.tokens ∙ ap tokens_before c.trim.ensures in
    let b = c.after_slash.ensures ∙ ap after_slash_first (c.split_tokens.ensures.after ∙ ap after_tokens c.trim.ensures) in
    let it = said t _ _ _ a b c.split_subtype.ensures.subtype _ c.split_subtype.ensures.tail (sym c.if-is_empty.ensures) (sym c.if-is_empty-2.ensures) in
    it.tail_is
