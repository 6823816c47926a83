use Rattle.infer_formats.proofs.Common.{◌≡◌, arith, get_or, subst}
use Rattle.infer_formats.proofs.SubsetLemmas.{after_within, only_close}
use Rattle.infer_formats.proofs.markup.prolog.subset_close.Goals as goal
use Rattle.infer_formats.proofs.markup.prolog.subset_close.Goals.{then-close-buf-via-then-close-buf, then-close-buf-via-else-close-buf+then-buf-close-ne62}

pub returns-then-close-buf : goal.returns-then-close-buf
returns-then-close-buf c = λ close after.
    let b = c.args.buf.now in
    let end = c.spaces_end-close.ensures in
    let low = end.low in
    let same = only_close b c.args.bracket c.in_ok-end.end c.spaces_end-close.result close c.in_ok-end.ensures (omega arith) end.spaces end.ends after in
    let within = after_within b c.args.bracket close after in
    elim c.then-close-buf.branch [
      | then-close-buf-via-then-close-buf w ↦ let far = w.if-close-buf.true in omega arith
      | then-close-buf-via-else-close-buf+then-buf-close-ne62 w ↦
          w.if-buf-close-ne62.true (subst (λ k. get_or b k 0 ≡ 0x3E) same after.4)
    ]
