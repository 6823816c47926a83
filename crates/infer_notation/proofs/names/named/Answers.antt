use Rattle.infer_notation.proofs.Common.{[], ap, arith, get_or, length, map, ◌∙◌, sym, length-drop, named_in, token_listed, Nothing}
use Rattle.std.proofs.lemmas.List.{take_all}
use Rattle.infer_formats.specs.declared.relation.Relation.TheVariants.{SharedObject}
use Rattle.infer_notation.proofs.RelationLemmas.{named_here, named_later, named_nowhere}
use Rattle.infer_notation.proofs.names.named.Goals as goal

pub loop-name-init : goal.loop-name-init
loop-name-init c = ap (λ ns. named_in ns (map token_listed c.args.tokens.now)) c.names-name-items.ensures

pub returns-then-begins_with : goal.returns-then-begins_with
returns-then-begins_with c =
    let n = length (get_or c.names-name-items.result.now c.loop-name.name-index (record { ref_ptr = (0, 0); now = [] }, Nothing SharedObject)).0.now in
    named_here c.names-name-items.result.now c.loop-name.name-index _ c.args.tokens.now c.loop-name-test.true (sym c.begins_with.ensures.value ∙ c.if-begins_with.true) _ (take_all _ _ (omega (arith, length-drop n c.args.tokens.now))) ∙ c.loop-name.invariant

pub loop-name-preserved : goal.loop-name-preserved
loop-name-preserved c =
    named_later c.names-name-items.result.now c.loop-name.name-index _ c.args.tokens.now c.loop-name-test.true (sym c.begins_with.ensures.value ∙ c.if-begins_with.false) ∙ c.loop-name.invariant

pub returns : goal.returns
returns c = named_nowhere c.names-name-items.result.now c.loop-name.name-index c.args.tokens.now c.loop-name-test.false ∙ c.loop-name.invariant
