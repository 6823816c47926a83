use Rattle.infer_formats.proofs.Common.{inl, inr}
use Rattle.infer_formats.proofs.TokenLemmas.{none_starts, token_starts}
use Rattle.infer_formats.proofs.json.token.begins_token.Goals as goal

pub returns-in-Some : goal.returns-in-Some
returns-in-Some c =
    let starts = token_starts c.args.first c.in-Some.token c.args.rest.now c.in-Some.ensures in (
      λ is. inr (starts.1 (c.begins_whole.ensures.0 is)),
      λ d. elim d [
        | inl mark ↦ (let is = c.is_structural.ensures.1 mark in absurd (cc))
        | inr whole ↦ c.begins_whole.ensures.1 (starts.0 whole)
      ],
    )

pub returns-in-None : goal.returns-in-None
returns-in-None c =
    let none =
    none_starts c.args.first c.args.rest.now c.in-None.ensures
    (λ mark. (let is = c.is_structural.ensures.1 mark in absurd (cc))) in (
      λ is. absurd (cc),
      λ d. elim d [
        | inl mark ↦ (let is = c.is_structural.ensures.1 mark in absurd (cc))
        | inr whole ↦ absurd (none whole)
      ],
    )
