use Rattle.mime_sniff.proofs.GoLemmas.{by_between, by_earlier, by_later, by_markup, by_mp4, by_none, by_text}
use Rattle.mime_sniff.proofs.go.first_rule.Goals as goal

pub returns-in-Some : goal.returns-in-Some
returns-in-Some c = by_markup c.args.header.now c.in-Some.found.now c.in-Some.ensures

pub returns-in-Some-of_earlier : goal.returns-in-Some-of_earlier
returns-in-Some-of_earlier c = by_earlier c.args.header.now c.in_default.ensures c.in-Some-of_earlier.found.now c.in-Some-of_earlier.ensures

pub returns-then-is_mp4 : goal.returns-then-is_mp4
returns-then-is_mp4 c = by_mp4 c.args.header.now c.in_default.ensures c.in_default-of_earlier.ensures (c.is_mp4.ensures.0 c.if-is_mp4.true)

pub returns-in-Some-of_between : goal.returns-in-Some-of_between
returns-in-Some-of_between c =
    by_between c.args.header.now c.in_default.ensures c.in_default-of_earlier.ensures (λ is. let t = c.is_mp4.ensures.1 is in cc)
    c.in-Some-of_between.found.now c.in-Some-of_between.ensures

pub returns-in-Some-of_later : goal.returns-in-Some-of_later
returns-in-Some-of_later c =
    by_later c.args.header.now c.in_default.ensures c.in_default-of_earlier.ensures (λ is. let t = c.is_mp4.ensures.1 is in cc)
    c.in_default-of_between.ensures c.in-Some-of_later.found.now c.in-Some-of_later.ensures

pub returns-then-is_binary : goal.returns-then-is_binary
returns-then-is_binary c =
    by_none c.args.header.now c.in_default.ensures c.in_default-of_earlier.ensures (λ is. let t = c.is_mp4.ensures.1 is in cc)
    c.in_default-of_between.ensures c.in_default-of_later.ensures (c.is_binary.ensures.0 c.if-is_binary.true)

pub returns : goal.returns
returns c =
    by_text c.args.header.now c.in_default.ensures c.in_default-of_earlier.ensures (λ is. let t = c.is_mp4.ensures.1 is in cc)
    c.in_default-of_between.ensures c.in_default-of_later.ensures (λ is. let t = c.is_binary.ensures.1 is in cc)
