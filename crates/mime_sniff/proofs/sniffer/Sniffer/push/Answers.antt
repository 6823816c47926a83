use Rattle.std.proofs.Common.{◌≡◌, ◌∙◌, ◌+◌, ◌-◌, ◌≤◌, ◌++◌, ap, arith, length, rules, sym, take}
use Rattle.std.proofs.lemmas.List.{length-take-le, take_min}
use Rattle.std.proofs.lemmas.Slice.{take-put_mid}
use Rattle.mime_sniff.proofs.SnifferLemmas.{kept_of}
use Rattle.mime_sniff.proofs.sniffer.Sniffer.push.Goals as goal

pub returns : goal.returns
returns c =
    let piece = c.args.piece.now in
    let old = c.args.self.now in
    let len = c.self.inside.len in
    let count = c.min-count.result in
    let few : len ≤ 1445 = search rules in
    let whole : length c.self.inside.bytes ≡ 1445 = search rules in
    let is : take len c.self.inside.bytes ≡ old = search rules in
    let long : length old ≡ len = ap length (sym is) ∙ length-take-le len c.self.inside.bytes (omega (arith, few, whole)) in
    let part : c.copy_from_slice.new.self ≡ take count piece = search rules in
    let part_is : take count piece ≡ take (1445 - length old) piece =
    ap (λ n. take n piece) c.min-count.ensures ∙ (take_min (1445 - len) piece ∙ ap (λ n. take (1445 - n) piece) (sym long)) in
    let size : length c.copy_from_slice.new.self ≡ count = search rules in
    take-put_mid len _ c.self.inside.bytes c.copy_from_slice.new.self (len + count) (omega (arith, size)) (omega (arith, few, whole))
    ∙ (ap (λ s. s ++ c.copy_from_slice.new.self) is ∙ (ap (λ s. old ++ s) (part ∙ part_is) ∙ sym (kept_of old piece (omega (arith, long, few)))))
