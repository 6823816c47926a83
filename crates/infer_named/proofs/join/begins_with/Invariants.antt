use Rattle.std.proofs.Common.{◌≡◌, drop}
use Rattle.std.specs.Prelude.{nat_eq}
use Rattle.std.specs.List.{list_any, starts_with}
use Rattle.infer_named.specs.Listed.{texts}
use Rattle.infer_named.proofs.join.begins_with.Given as goal

abbrev pub invariant-loop-text : goal.invariant-loop-text
invariant-loop-text l = list_any (λ text. starts_with nat_eq l.lead text) (texts (drop l.text-index l.leads)) ≡ list_any (λ text. starts_with nat_eq l.lead text) (texts l.leads)
