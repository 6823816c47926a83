use Rattle.infer_evidence.proofs.Common.{arith, subst}
use Rattle.std.proofs.Common.{rules}
use Rattle.infer_evidence.proofs.weighing.refuse.Goals as goal
use Rattle.infer_evidence.proofs.weighing.refuse.Goals.{else-least-buf-via-else-least-buf, else-least-buf-via-then-least-buf+in-None-1}

pub returns-in-Some-clause-proves : goal.returns-in-Some-clause-proves
returns-in-Some-clause-proves g c =
    λ b agrees. let same = c.ask.ensures.same c.args.buf.now b agrees in (same.0, λ h. c.in-Some.ensures.proves b same.1 h.1)

pub returns-in-Some-lacking-clause-proves : goal.returns-in-Some-lacking-clause-proves
returns-in-Some-lacking-clause-proves g c = λ b agrees.
    let asked = c.ask-2.ensures.same c.args.buf.now b agrees in
    let exact = c.ask_exact.ensures.exact c.args.buf.now b asked.0 in
    let found = c.in-Some-lacking.ensures.among in
    let proves = c.refused.ensures.proves b (asked.1, λ e. exact.1) in
    (exact.0, λ h. proves ((found.4 b).1 (subst (λ p. g.P.AsPart.asks p b) found.3 (h.1 found.0 found.1 found.2))))

pub returns-else-least-buf-clause-proves : goal.returns-else-least-buf-clause-proves
returns-else-least-buf-clause-proves g c = λ b agrees.
    let exact = c.ask_exact.ensures.exact c.args.buf.now b agrees in (
      exact.0,
      elim c.else-least-buf.branch [
        | else-least-buf-via-else-least-buf w ↦ λ h. omega (arith, exact.1, h.0)
        | else-least-buf-via-then-least-buf+in-None-1 w ↦ λ h. c.requires (w.if-least-buf.true, w.lacking.ensures.none (search rules))
      ],
    )

pub returns-in-Some-lacking-clause-inside : goal.returns-in-Some-lacking-clause-inside
returns-in-Some-lacking-clause-inside g c = λ of. c.ask-2.ensures.inside c.args.buf.now (search rules) c.refused.ensures.inside
