use Rattle.infer_formats.proofs.Common.{◌∷◌, ◌+◌, ◌≤◌, get_or, subst, arith, blanks, Reads, due_left, Between}
use Rattle.infer_formats.proofs.OnwardLemmas.{due_blanks, due_cut, due_read, next_cut, next_done, next_due}
use Rattle.infer_formats.proofs.json.reader.read_text.Goals as goal

pub loop-at-preserved-then-is_blank : goal.loop-at-preserved-then-is_blank
loop-at-preserved-then-is_blank c =
    let l = c.loop-at in
    let r = l.reader in (
      l.invariant.0,
      c.blanks_end-at.ensures.high,
      due_blanks c.args.first c.args.rest.now l.due r.depth r.kinds l.at c.blanks_end-at.result (omega arith)
          (c.is_blank.ensures.0 c.if-is_blank.true) c.blanks_end-at.ensures.past l.invariant.2,
    )

pub returns-then-is_done : goal.returns-then-is_done
returns-then-is_done c =
    let l = c.loop-at in
    let r = l.reader in
    let n = c.read.new.self in
    let read =
    subst (λ ok. Reads (λ ss. blanks ∷ due_left l.due r.depth r.kinds ss) (get_or c.args.rest.now l.at 0) n ok)
    c.if-not-read.false c.read.ensures in
    let next = due_read c.args.first c.args.rest.now l.due r.depth r.kinds l.at n (omega arith) read l.invariant.2 in
    let none = c.is_done.ensures.0 c.if-is_done.true in
    (omega arith, next_done c.args.first c.args.rest.now n.next n.depth n.kinds (l.at + 1) none (read.1 none) next)

pub loop-at-preserved : goal.loop-at-preserved
loop-at-preserved c =
    let l = c.loop-at in
    let r = l.reader in
    let n = c.read.new.self in
    let read =
    subst (λ ok. Reads (λ ss. blanks ∷ due_left l.due r.depth r.kinds ss) (get_or c.args.rest.now l.at 0) n ok)
    c.if-not-read.false c.read.ensures in
    let next = due_read c.args.first c.args.rest.now l.due r.depth r.kinds l.at n (omega arith) read l.invariant.2 in
    let some : 1 ≤ n.depth = grind (arith, c.is_done.ensures, c.if-is_done.false) in
    let on = c.in-At.ensures n.depth n.kinds some in (
      (some, read.0),
      on.1,
      next_due c.args.first c.args.rest.now n.next c.in-At.next n.depth n.kinds
          (l.at + 1) c.in-At.place next on.2,
    )

pub returns-in-Cut : goal.returns-in-Cut
returns-in-Cut c =
    let l = c.loop-at in
    let r = l.reader in
    let n = c.read.new.self in
    let read =
    subst (λ ok. Reads (λ ss. blanks ∷ due_left l.due r.depth r.kinds ss) (get_or c.args.rest.now l.at 0) n ok)
    c.if-not-read.false c.read.ensures in
    let next = due_read c.args.first c.args.rest.now l.due r.depth r.kinds l.at n (omega arith) read l.invariant.2 in
    let some : 1 ≤ n.depth = grind (arith, c.is_done.ensures, c.if-is_done.false) in
    let (m, on) = c.in-Cut.ensures n.depth n.kinds some in
    (m, n.depth, n.kinds, next_cut c.args.first c.args.rest.now n.next m n.depth n.kinds (l.at + 1) next on)

pub returns : goal.returns
returns c =
    let l = c.loop-at in
    let r = l.reader in (
      Between l.due,
      r.depth,
      r.kinds,
      due_cut c.args.first c.args.rest.now l.due r.depth r.kinds l.at l.invariant.0.0
          (omega arith) l.invariant.2,
    )
