use Rattle.std.proofs.Common.{◌++◌, ap, option_to_list, subst, sym}
use Rattle.mime_types.specs.Seen.{IsViewOf}
use Rattle.mime_types.proofs.extraction.extended.Goals as goal

pub returns-in-Some-clause-view : goal.returns-in-Some-clause-view
returns-in-Some-clause-view c ts is =
    let (text, view) = c.in-Some.ensures.view in
    (ts, c.args.piece.now, ap (λ o. ts ++ option_to_list o) text, subst (IsViewOf c.args.piece.now) (sym c.continued.ensures.last) view)
