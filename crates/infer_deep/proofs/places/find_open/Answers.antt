use Rattle.std.proofs.lemmas.Iterator.{first_from_Range}
use Rattle.infer_deep.proofs.Common.{arith, rules, tests, AgreesAt}
use Rattle.infer_deep.proofs.OpenLemmas.{first_open_from_first, first_open_of_find}
use Rattle.infer_deep.proofs.places.find_open.Goals as goal

pub returns-in-Some : goal.returns-in-Some
returns-in-Some g c = first_open_from_first _ _ _ _ _ c.in-Some.ensures

pub returns : goal.returns
returns g c =
    let P = AgreesAt c.args.buf.now c.args.text.now in
    first_open_of_find c.args.buf.now c.args.text.now c.args.start c.args.end c.max-first.result c.min-last.result c.in_default.ensures
    (omega arith) (omega arith) (omega arith) (omega arith) c.find-2.result
    (first_from_Range _ _ _ c.find-2.result P (λ k. ¬ P k) c.find-2.ensures.ran (λ i q called. search (rules, tests)) (λ i q called. search (rules, tests)))
