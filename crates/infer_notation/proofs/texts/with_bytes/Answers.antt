use Rattle.infer_notation.proofs.Common.{◌∷◌, ◌+◌, [], drop, get_or, ◌∙◌, sym, ap, refl, at_drop_more, bytes_after}
use Rattle.infer_notation.specs.Texts.{added, joined_listed}
use Rattle.infer_notation.proofs.TextLemmas.{bytes_blank, bytes_first, bytes_full, bytes_next, few}
use Rattle.infer_notation.proofs.texts.with_bytes.Goals as goal
use Rattle.infer_notation.proofs.texts.with_bytes.Goals.{in-None+then-not-is_blank, in-None+else-not-is_blank, in-Some+in_ok-byte-in-Some+in_ok-joined-in-Some}

pub returns-in_err-joined-in-Some : goal.returns-in_err-joined-in-Some
returns-in_err-joined-in-Some c =
    let l = c.loop-digit in
    let before = joined_listed l.joined in
    let x = get_or c.args.digits.now l.digit-index 0 in
    let rest = drop (l.digit-index + 1) c.args.digits.now in
    let next = at_drop_more (λ ds. added before (bytes_after l.first ds)) c.args.digits.now l.digit-index 0 c.loop-digit-test.true in
    let none = bytes_full before c.in-Some.other x c.in_ok-byte-in-Some.byte rest (sym c.in_ok-byte-in-Some.ensures) (sym c.in_err-joined-in-Some.ensures) in
    rw c.from_residual-in_err-joined-in-Some.ensures (sym (l.invariant.1 ∙ next ∙ ap (λ f. added before (bytes_after f (x ∷ rest))) c.in-Some.is ∙ none))

pub loop-digit-preserved : goal.loop-digit-preserved
loop-digit-preserved c =
    let l = c.loop-digit in
    let m = c.match-first in
    let before = joined_listed l.joined in
    let x = get_or c.args.digits.now l.digit-index 0 in
    let rest = drop (l.digit-index + 1) c.args.digits.now in
    let next = l.invariant.1 ∙ at_drop_more (λ ds. added before (bytes_after l.first ds)) c.args.digits.now l.digit-index 0 c.loop-digit-test.true in
    elim c.match-first.branch [
      | in-None+then-not-is_blank w ↦
          let step = bytes_first before x rest (sym w.is_blank.ensures ∙ w.if-not-is_blank.true) in
          (rw w.joined-is l.invariant.0, next ∙ ap (λ f. added before (bytes_after f (x ∷ rest))) w.in-None.is ∙ step ∙ rw (w.joined-is, w.first-is) refl)
      | in-None+else-not-is_blank w ↦
          let step = bytes_blank before x rest (sym w.is_blank.ensures ∙ w.if-not-is_blank.false) in
          (rw w.joined-is l.invariant.0, next ∙ ap (λ f. added before (bytes_after f (x ∷ rest))) w.in-None.is ∙ step ∙ rw (w.joined-is, w.first-is, w.in-None.is) refl)
      | in-Some+in_ok-byte-in-Some+in_ok-joined-in-Some w ↦
          let b = w.in_ok-byte-in-Some.byte in
          let after = joined_listed w.in_ok-joined-in-Some.joined in
          let step = bytes_next before after w.in-Some.other x b rest (sym w.in_ok-byte-in-Some.ensures) w.in_ok-joined-in-Some.ensures in
          (rw w.joined-is (few before (b ∷ []) after w.in_ok-joined-in-Some.ensures), next ∙ ap (λ f. added before (bytes_after f (x ∷ rest))) w.in-Some.is ∙ step ∙ rw (w.joined-is, w.first-is) refl)
    ]
