use Rattle.infer.proofs.Common.{[], ◌<◌, ◌∙◌, ap, arith, get_or, length, sym}
use Rattle.std.proofs.lemmas.List.{get_or-map}
use Rattle.infer.proofs.GroupLemmas.{few_candidates, group_of, grouped}
use Rattle.infer.specs.Groups.{groups}
use Rattle.infer.proofs.candidates.dispatch.candidates_at.Goals as goal

pub bounds-groups-from : goal.bounds-groups-from
bounds-groups-from c = let same = c.from-2.ensures ∙ ap group_of c.from.ensures in let in_group = grouped c.args.first (omega arith) in grind (arith, c.groups.ensures.many)

pub returns-clause-rows : goal.returns-clause-rows
returns-clause-rows c =
    let same = c.from-2.ensures ∙ ap group_of c.from.ensures in
    let in_group = grouped c.args.first (omega arith) in
    let within : c.from-2.result < length c.groups.result.now = grind (arith, c.groups.ensures.many) in
    sym (get_or-map (λ rows. rows.now) c.groups.result.now c.from-2.result _ [] within)
    ∙ ap (λ all. get_or all c.from-2.result []) c.groups.ensures.listed ∙ ap (λ group. get_or groups group []) same ∙ in_group.1

pub returns-clause-few : goal.returns-clause-few
returns-clause-few c = let same = returns-clause-rows c in let few = few_candidates c.args.first (omega arith) in grind (arith)
