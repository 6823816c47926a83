use Rattle.infer.proofs.Common.{◌≡◌, ◌<◌, Option, None, Some, ap, length, refl, rules, sym, ◌∙◌, slice_get, option_map, slice_get-get_or, BuiltIn, Row, shows, table}
use Rattle.std.proofs.lemmas.Option.{slice_get-map}
use Rattle.infer_more.specs.Ended.{ended_listed, ended_shown}
use Rattle.infer_c.proofs.texts.at.Goals as goal

ended_row : (o : Option (Row BuiltIn)) → option_map ended_shown (option_map shows o) ≡ option_map (λ (r : Row BuiltIn). ended_shown r.shows) o
ended_row None = refl
ended_row (Some r) = refl

-- what is read of the list is what the table shows there
pub returns : goal.returns
returns c =
    let pairs = c.pairs.result.now in
    let within : c.args.i < length pairs = search rules in
    ap (option_map ended_shown) (c.numbers.ensures.built_in c.args.i c.requires) ∙ ended_row (slice_get table c.args.i)
    ∙ sym (slice_get-map (λ (r : Row BuiltIn). ended_shown r.shows) table c.args.i)
    ∙ ap (λ l. slice_get l c.args.i) (sym c.pairs.ensures.listed) ∙ slice_get-map ended_listed pairs c.args.i
    ∙ ap (λ o. option_map ended_listed o) (slice_get-get_or pairs c.args.i _ within)
