use Rattle.infer.proofs.Common.{rules, tests, sym, ap, ◌∙◌, Some, option_map, YieldsList-from_slice, first_from_find, AnyAccepts, custom_row, custom_rows, triple_of}
use Rattle.infer.proofs.RowLemmas.{answer_of_find}
use Rattle.infer.proofs.caller.infer.Infer.get_added.Goals as goal

pub returns-in_err-row : goal.returns-in_err-row
returns-in_err-row g c =
    answer_of_find custom_row (AnyAccepts c.args.buf.now) c.custom.result.now (custom_rows c.args.self.now) c.custom.ensures c.find.result
    (first_from_find _ _ c.find.result (λ r. AnyAccepts c.args.buf.now (custom_row r)) (λ r. ¬ AnyAccepts c.args.buf.now (custom_row r)) c.find.ensures.ran
    (YieldsList-from_slice c.custom.result.now c.iter.ensures.rest) (λ x q k. search (rules, tests)) (λ x q k. search (rules, tests)))
    _ (ap (option_map triple_of) c.from_residual.ensures ∙ sym (ap (option_map (λ x. (custom_row x.now).shows)) c.in_err-row.was))

pub returns : goal.returns
returns g c =
    answer_of_find custom_row (AnyAccepts c.args.buf.now) c.custom.result.now (custom_rows c.args.self.now) c.custom.ensures c.find.result
    (first_from_find _ _ c.find.result (λ r. AnyAccepts c.args.buf.now (custom_row r)) (λ r. ¬ AnyAccepts c.args.buf.now (custom_row r)) c.find.ensures.ran
    (YieldsList-from_slice c.custom.result.now c.iter.ensures.rest) (λ x q k. search (rules, tests)) (λ x q k. search (rules, tests)))
    _ (ap Some c.file_type.ensures ∙ sym (ap (option_map (λ x. (custom_row x.now).shows)) c.in_ok-row.was))
