use Rattle.infer_deep.proofs.Common.{arith, rules, IsTrue, Any, ◌↔◌, BeginsWithTag}
use Rattle.infer_deep.proofs.AnyLemmas.{Any-map}
use Rattle.infer_deep.proofs.text.begins_with_some_tag.Goals as goal

pub returns : goal.returns
returns c =
    let some : IsTrue c.any.result ↔ Any (λ tag. BeginsWithTag tag.now c.args.buf.now) c.args.tags.now = search rules in
    grind (arith, some, Any-map (λ t. t.now) (λ tag. BeginsWithTag tag c.args.buf.now) c.args.tags.now c.args.buf)
