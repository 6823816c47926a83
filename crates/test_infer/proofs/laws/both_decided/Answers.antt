use Rattle.std.proofs.Common.{subst, sym, arith}
use Rattle.infer.specs.Buffer.{IsBuffer}
use Rattle.infer.specs.Decided.{IsDecided}
use Rattle.test_infer.proofs.BufferLemmas.{IsBuffer-bytes, IsBuffer-rest}
use Rattle.test_infer.proofs.laws.both_decided.Goals as goal

pub returns : goal.returns
returns c = λ decided.
    let more = c.requires.0 in
    let bytes : IsBuffer c.args.long.now = IsBuffer-bytes c.args.long.now (λ i. omega (arith, c.type_inv.long i)) in
    let rest = IsBuffer-rest c.args.short.now more (subst IsBuffer c.requires.1 bytes) in
    let lasts = c.later.ensures.lasts c.args.short.now more rest (c.is_decided.ensures.exact.0 decided) in
    c.is_decided-2.ensures.exact.1 (subst IsDecided (sym c.requires.1) lasts)
