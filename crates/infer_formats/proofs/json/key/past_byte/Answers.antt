use Rattle.infer_formats.proofs.Common.{arith}
use Rattle.infer_formats.proofs.FirstKeyLemmas.{byte_elsewhere, byte_here}
use Rattle.infer_formats.proofs.json.key.past_byte.Goals as goal

pub returns-in-empty : goal.returns-in-empty
returns-in-empty c = λ left h.
    let (some, first) = byte_elsewhere c.args.byte c.args.buf.now c.past_blanks.result.now c.requires c.past_blanks.ensures left h in
    let none = c.in-empty.len_below in absurd (omega arith)

pub returns-then-first-byte : goal.returns-then-first-byte
returns-then-first-byte c =
    byte_here c.args.byte c.args.buf.now c.past_blanks.result.now c.requires c.past_blanks.ensures c.in-len1-up.len_at_least c.if-first-byte.true

pub returns-else-first-byte : goal.returns-else-first-byte
returns-else-first-byte c = λ left h.
    let (some, first) = byte_elsewhere c.args.byte c.args.buf.now c.past_blanks.result.now c.requires c.past_blanks.ensures left h in
    absurd (c.if-first-byte.false first)
