use Rattle.std.proofs.Common.{◌+◌, ◌∙◌, ◌&&◌, ap, ap₂, drop, subst, sym}
use Rattle.std.proofs.lemmas.List.{take_rest}
use Rattle.infer_named.proofs.VersionLemmas.{by_letter, no_letter}
use Rattle.infer_named.specs.Names.{IsVersioned, is_version}
use Rattle.infer_named.proofs.names.is_versioned.Goals as goal

pub returns-then-ends_in : goal.returns-then-ends_in
returns-then-ends_in c =
    let version = sym (c.is_version.ensures ∙ ap is_version (take_rest c.args.stem.now (c.in-Some.end + 1))) in
    subst (IsVersioned c.args.stem.now) (ap₂ (λ a b. a && b) (sym c.ends_in.ensures.value ∙ c.if-ends_in.true) version)
    (by_letter c.args.stem.now c.in-Some.end c.in-Some.ensures)

pub returns-else-ends_in : goal.returns-else-ends_in
returns-else-ends_in c =
    let unended = sym c.ends_in.ensures.value ∙ c.if-ends_in.false in
    subst (IsVersioned c.args.stem.now) (ap (λ a. a && is_version (drop (c.in-Some.end + 1) c.args.stem.now)) unended ∙ sym c.if-ends_in.false)
    (by_letter c.args.stem.now c.in-Some.end c.in-Some.ensures)

pub returns-in-None : goal.returns-in-None
returns-in-None c = no_letter c.args.stem.now c.in-None.ensures
