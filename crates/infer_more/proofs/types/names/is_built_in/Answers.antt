use Rattle.infer_more.proofs.Common.{refl, bytes_eq-Decides, list_any, table, is_built_in}
use Rattle.std.proofs.lemmas.Bool.Decides.{Decides-by_or, same_from_decides}
use Rattle.std.specs.Str.{bytes_eq}
use Rattle.infer.specs.Questions.{HasExtension}
use Rattle.infer_more.proofs.types.names.is_built_in.Goals as goal

pub returns : goal.returns
unfolding is_built_in
returns c =
    let e = c.args.extension.now in
    let listed = Decides-by_or (λ r. bytes_eq r.shows.extension e) (HasExtension e) (list_any (λ r. bytes_eq r.shows.extension e)) (λ r. bytes_eq-Decides r.shows.extension e) refl (λ _ _. refl) table in
    same_from_decides _ _ c.is_supported.ensures listed
