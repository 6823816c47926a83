use Rattle.std.proofs.Common.{take, subst, List, ℕ}
use Rattle.infer.specs.First.{IsFirstOf}
use Rattle.infer.specs.Row.{Accepts}
use Rattle.infer.specs.Table.{table}
use Rattle.test_infer.proofs.laws.position_and_front.Goals as goal

pub returns : goal.returns
returns c = λ other.
    let front = subst (λ (b : List ℕ). IsFirstOf (Accepts b) table c.position-2.result) c.requires c.position-2.ensures.first in
    c.single.ensures (take 1024 c.args.buf.now) c.position-2.result c.position.result front
    (c.front.ensures.decides c.args.buf.now c.position.result c.position.ensures.first other)
