use Rattle.mime_sniff.proofs.WebmLemmas.{named_at, named_nowhere}
use Rattle.mime_sniff.proofs.webm.names_webm.Goals as goal

pub returns-then-buf-at-ne0 : goal.returns-then-buf-at-ne0
returns-then-buf-at-ne0 c =
    let named = named_at c.args.buf.now c.args.place c.loop-at.at c.loop-at.invariant c.loop-at.auto.at c.if-buf-at-ne0.true in
    (λ x. named.0 (c.is_named_at.ensures.0 x), λ x. c.is_named_at.ensures.1 (named.1 x))

pub returns : goal.returns
returns c = (λ x. absurd (cc), λ named. absurd (named_nowhere c.args.buf.now c.args.place c.loop-at.at c.loop-at.invariant c.loop-at-test.false named))
