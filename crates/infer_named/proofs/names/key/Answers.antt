use Rattle.std.proofs.Common.{None, Some, option_map, refl, subst}
use Rattle.infer_named.specs.Listed.{key_listed}
use Rattle.infer_named.specs.Names.{IsStemKey}
use Rattle.infer_named.specs.Table.{keys}
use Rattle.infer_named.proofs.names.key.Goals as goal

pub returns-in-Some : goal.returns-in-Some
returns-in-Some c = (Some _, c.in-Some.ensures, refl)

pub returns-in-None : goal.returns-in-None
returns-in-None c =
    let found = option_map (λ k. key_listed k.now) c.key_of_stem.result in
    (None, c.in-None.ensures, (c.base.result.now, c.base.ensures, subst (λ s. IsStemKey keys s found) c.stem.ensures c.key_of_stem.ensures))
