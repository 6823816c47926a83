use Rattle.std.proofs.Common.{List, ℕ, MatchOption, Option, None, Some, subst, arith}
use Rattle.std.specs.List.{slice_get}
use Rattle.infer.specs.Buffer.{IsBuffer}
use Rattle.infer.specs.BuiltIn.{BuiltIn}
use Rattle.infer.specs.Decided.{MayBecomeRow}
use Rattle.infer.specs.Row.{Row}
use Rattle.infer.specs.Table.{table}
use Rattle.test_infer.proofs.BufferLemmas.{IsBuffer-bytes, IsBuffer-rest}
use Rattle.test_infer.proofs.laws.both_may_become.Goals as goal

of_each : {A : Type 0} (P Q : A → Type 0) (o : Option A) → ((r : A) → P r → Q r) → MatchOption o ⊥ P → MatchOption o ⊥ Q
of_each P Q None every h = h
of_each P Q (Some r) every h = every r h

pub returns : goal.returns
returns c = λ may.
    let short = c.args.short.now in
    let more = c.requires.0 in
    let bytes : IsBuffer c.args.long.now = IsBuffer-bytes c.args.long.now (λ i. omega (arith, c.type_inv.long i)) in
    let rest = IsBuffer-rest short more (subst IsBuffer c.requires.1 bytes) in
    let before : (r : Row BuiltIn) → MayBecomeRow c.args.long.now r → MayBecomeRow short r =
    λ r h. c.later.ensures.narrows short more r rest (subst (λ (b : List ℕ). MayBecomeRow b r) c.requires.1 h)
    in
    c.may_become.ensures.1 (of_each (MayBecomeRow c.args.long.now) (MayBecomeRow short) (slice_get table c.args.row) before (c.may_become-2.ensures.0 may))
