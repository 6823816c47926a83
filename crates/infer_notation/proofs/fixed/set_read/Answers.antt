use Rattle.infer_notation.proofs.Common.{option_map, drop, ap, sym, ◌∙◌, err_from_is_err_and, set_part, step_seen, bytes_of, hex_seen}
use Rattle.infer_notation.proofs.FixedLemmas.{none_read, set_empty, set_is}
use Rattle.infer_notation.proofs.fixed.set_read.Goals as goal

pub returns-in_err-read-clause-found : goal.returns-in_err-read-clause-found
returns-in_err-read-clause-found c =
    let at = c.args.cursor in
    let digits = c.args.digits.now in
    let p = err_from_is_err_and c.from_residual.result c.from_residual.ensures.1 in
    let none = ap (λ b. option_map (hex_seen b) (bytes_of digits)) (sym c.rest_at.ensures) ∙ sym c.in_err-read.ensures.found in
    rw (p.1) (sym (none_read (hex_seen (drop at.place c.args.buf.now)) (set_part at.least at.place) (step_seen c.args.buf.now) (bytes_of digits) none))

pub returns-then-read-eq0-clause-found : goal.returns-then-read-eq0-clause-found
returns-then-read-eq0-clause-found c =
    let at = c.args.cursor in
    let digits = c.args.digits.now in
    let some = ap (λ b. option_map (hex_seen b) (bytes_of digits)) (sym c.rest_at.ensures) ∙ sym c.in_ok-read.ensures.found in
    sym (set_empty at.least at.place c.args.buf.now c.in_ok-read.read (bytes_of digits) some c.if-read-eq0.true)

pub returns-clause-found : goal.returns-clause-found
returns-clause-found c =
    let at = c.args.cursor in
    let digits = c.args.digits.now in
    let some = ap (λ b. option_map (hex_seen b) (bytes_of digits)) (sym c.rest_at.ensures) ∙ sym c.in_ok-read.ensures.found in
    c.within.ensures.found ∙ sym (set_is at.least at.place c.args.buf.now c.in_ok-read.read (bytes_of digits) some c.if-read-eq0.false)
