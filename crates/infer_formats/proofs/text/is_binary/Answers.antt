use Rattle.infer_formats.proofs.Common.{drop, length, take, ◌-◌}
use Rattle.infer_formats.proofs.TextLemmas.{binary_rest}
use Rattle.infer_formats.proofs.text.is_binary.Goals as goal

pub returns : goal.returns
returns c =
    let n = c.printed_front.result in
    let left = take (length c.args.buf.now - n) (drop n c.args.buf.now) in
    let outer = binary_rest c.args.buf.now n c.printed_front.ensures.within c.printed_front.ensures.free in
    let inner = binary_rest left c.plain_front.result c.plain_front.ensures.within c.plain_front.ensures.free in
    (λ is. outer.0 (inner.0 (c.has_data.ensures.0 is)), λ binary. c.has_data.ensures.1 (inner.1 (outer.1 binary)))
