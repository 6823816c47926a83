use Rattle.std.proofs.Common.{◌≡◌, ◌↔◌, Any, IsTrue, arith, rules}
use Rattle.mime_types.specs.Text.{lower}
use Rattle.mime_types.proofs.AnyLemmas.{Any-map}
use Rattle.mime_types.proofs.groups.is_one_of.Goals as goal

pub returns : goal.returns
returns c =
    let some : IsTrue c.any.result ↔ Any (λ word. lower c.args.text.now ≡ lower word.now) c.args.words.now = search rules in
    grind (arith, some, Any-map (λ t. t.now) (λ word. lower c.args.text.now ≡ lower word) c.args.words.now c.args.text)
