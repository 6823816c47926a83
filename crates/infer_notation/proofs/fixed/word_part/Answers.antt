use Rattle.infer_notation.proofs.Common.{option_map, drop, length, ap, sym, ◌∙◌, err_from_is_err_and, text, step_seen, within, word_part, bytes_of, hex_seen}
use Rattle.infer_notation.proofs.FixedLemmas.{none_read, text_is}
use Rattle.infer_notation.proofs.fixed.word_part.Goals as goal

pub returns-in_err-read-in-None-clause-found : goal.returns-in_err-read-in-None-clause-found
returns-in_err-read-in-None-clause-found c =
    let at = c.args.cursor in
    let w = c.args.word.now in
    let p = err_from_is_err_and c.from_residual.result c.from_residual.ensures.1 in
    let no_range = sym c.range.ensures ∙ c.in-None.is in
    let none = ap (λ b. option_map (hex_seen b) (bytes_of w)) (sym c.rest_at.ensures) ∙ sym c.in_err-read-in-None.ensures.found in
    rw (p.1) (sym (ap (λ r. option_map (step_seen c.args.buf.now) (word_part at.least at.place w r)) no_range
    ∙ none_read (hex_seen (drop at.place c.args.buf.now)) (λ xs. within at.least at.place (length xs) (text at.place xs)) (step_seen c.args.buf.now) (bytes_of w) none))

pub returns-in_ok-read-in-None-clause-found : goal.returns-in_ok-read-in-None-clause-found
returns-in_ok-read-in-None-clause-found c =
    let at = c.args.cursor in
    let w = c.args.word.now in
    let no_range = sym c.range.ensures ∙ c.in-None.is in
    let some = ap (λ b. option_map (hex_seen b) (bytes_of w)) (sym c.rest_at.ensures) ∙ sym c.in_ok-read-in-None.ensures.found in
    c.within-in-None.ensures.found
    ∙ sym (ap (λ r. option_map (step_seen c.args.buf.now) (word_part at.least at.place w r)) no_range
    ∙ text_is at.least at.place c.args.buf.now c.in_ok-read-in-None.read (bytes_of w) some)
