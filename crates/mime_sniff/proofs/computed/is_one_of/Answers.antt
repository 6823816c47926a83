use Rattle.std.proofs.Common.{◌≡◌, ◌↔◌, Any, IsTrue, arith, rules}
use Rattle.mime_types.proofs.AnyLemmas.{Any-map}
use Rattle.mime_sniff.proofs.computed.is_one_of.Goals as goal

pub returns : goal.returns
returns c =
    let some : IsTrue c.any.result ↔ Any (λ text. c.args.value.now ≡ text.now) c.args.texts.now = search rules in
    grind (arith, some, Any-map (λ t. t.now) (λ text. c.args.value.now ≡ text) c.args.texts.now c.args.value)
