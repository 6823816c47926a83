use Rattle.infer_more.proofs.Common.{IsTrue, [], ◌++◌, ◌-◌, ◌∙◌, ap, length, max, subst, sym, arith, list_all, length-take-le, zeros, alternative_listed, is_inside, model, parent_sample, parts_of, SAMPLE_SIZE}
use Rattle.std.proofs.Common.{slice_get}
use Rattle.infer_more.proofs.WrittenLemmas.{counted_further, least_fits, roomy, written_further}
use Rattle.infer_more.proofs.samples.of_row.Goals as goal

pub model_length-requires : goal.model_length-requires
model_length-requires c =
    least_fits c.args.row.now c.in_ok-alternative.alternative.now c.prolog-prolog.result.now (c.in_ok-alternative.ensures.value ∙ ap (λ l. slice_get l 0) c.alternatives_of.ensures) c.prolog-prolog.ensures c.requires

pub put_model-requires-clause-least : goal.put_model-requires-clause-least
put_model-requires-clause-least c =
    least_fits c.args.row.now c.in_ok-alternative.alternative.now c.prolog-prolog.result.now (c.in_ok-alternative.ensures.value ∙ ap (λ l. slice_get l 0) c.alternatives_of.ensures) c.prolog-prolog.ensures c.requires

pub put_model-requires-clause-room : goal.put_model-requires-clause-room
put_model-requires-clause-room c =
    let p = parent_sample c.args.row.now.parent in
    let a = c.in_ok-alternative.alternative.now in
    let h = roomy c.args.row.now a c.prolog-prolog.result.now c.max-n.result c.parent.new.out [] (c.in_ok-alternative.ensures.value ∙ ap (λ l. slice_get l 0) c.alternatives_of.ensures) c.prolog-prolog.ensures c.requires
    (c.max-n.ensures ∙ ap (λ n. max n c.model_length.result) c.parent.ensures.counted ∙ ap (max (length p)) c.model_length.ensures)
    (c.parent.ensures.written ∙ ap (λ n. p ++ zeros (SAMPLE_SIZE - n)) c.parent.ensures.counted) in
    let taken = length-take-le c.max-n.result c.parent.new.out (let long = c.parent.array_long in let le = h.0 in omega arith) in
    subst (λ n. IsTrue (list_all (is_inside n) (parts_of (model c.prolog-prolog.result.now (alternative_listed a))))) (sym taken) h.1

pub returns-clause-counted : goal.returns-clause-counted
returns-clause-counted c =
    let p = parent_sample c.args.row.now.parent in
    counted_further c.args.row.now c.in_ok-alternative.alternative.now c.prolog-prolog.result.now c.max-n.result c.parent.new.out c.put_model.new.out
    (c.in_ok-alternative.ensures.value ∙ ap (λ l. slice_get l 0) c.alternatives_of.ensures) c.prolog-prolog.ensures c.requires
    (c.max-n.ensures ∙ ap (λ n. max n c.model_length.result) c.parent.ensures.counted ∙ ap (max (length p)) c.model_length.ensures)
    (c.parent.ensures.written ∙ ap (λ n. p ++ zeros (SAMPLE_SIZE - n)) c.parent.ensures.counted)
    c.put_model.ensures

pub returns-clause-written : goal.returns-clause-written
returns-clause-written c =
    let p = parent_sample c.args.row.now.parent in
    written_further c.args.row.now c.in_ok-alternative.alternative.now c.prolog-prolog.result.now c.max-n.result c.parent.new.out c.put_model.new.out
    (c.in_ok-alternative.ensures.value ∙ ap (λ l. slice_get l 0) c.alternatives_of.ensures) c.prolog-prolog.ensures c.requires
    (c.max-n.ensures ∙ ap (λ n. max n c.model_length.result) c.parent.ensures.counted ∙ ap (max (length p)) c.model_length.ensures)
    (c.parent.ensures.written ∙ ap (λ n. p ++ zeros (SAMPLE_SIZE - n)) c.parent.ensures.counted)
    c.put_model.ensures c.args.out.now
