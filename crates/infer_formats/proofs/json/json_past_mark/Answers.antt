use Rattle.infer_formats.proofs.LineLemmas.{by_first}
use Rattle.infer_formats.proofs.TokenLemmas.{json_cut, json_empty, json_unbegun, json_whole, json_wrong}
use Rattle.infer_formats.proofs.json.json_past_mark.Goals as goal

pub returns-in-Whole : goal.returns-in-Whole
returns-in-Whole c =
    let s = c.past_blanks-text.result.now in
    json_whole c.args.buf.now s _ _ c.past_blanks-text.ensures (by_first s c.in-len1-up.len_at_least) _ _
    (c.is_bracket.ensures.0 c.if-not-is_bracket.false) c.in-Whole.ensures c.json_before.ensures

pub returns-in-Cut : goal.returns-in-Cut
returns-in-Cut c =
    let s = c.past_blanks-text.result.now in
    json_cut c.args.buf.now s _ _ c.past_blanks-text.ensures (by_first s c.in-len1-up.len_at_least) _
    (c.is_bracket.ensures.0 c.if-not-is_bracket.false) c.in-Cut.ensures c.json_after.ensures

pub returns-in-Wrong : goal.returns-in-Wrong
returns-in-Wrong c =
    let s = c.past_blanks-text.result.now in
    json_wrong c.args.buf.now s _ _ c.past_blanks-text.ensures (by_first s c.in-len1-up.len_at_least) c.in-Wrong.ensures

pub returns-then-not-is_bracket : goal.returns-then-not-is_bracket
returns-then-not-is_bracket c =
    let s = c.past_blanks-text.result.now in
    json_unbegun c.args.buf.now s _ _ c.past_blanks-text.ensures (by_first s c.in-len1-up.len_at_least)
    (λ o. let is = c.is_bracket.ensures.1 o in absurd (cc))

pub returns-in_default : goal.returns-in_default
returns-in_default c = json_empty c.args.buf.now c.past_blanks-text.result.now c.past_blanks-text.ensures c.in_default.len_below
