use Rattle.std.proofs.Common.{◌∙◌, Any, arith, sym}
use Rattle.std.proofs.lemmas.Bool.{OnFalse_from, OnTrue_from, false≢true}
use Rattle.mime_sniff.specs.Growth.{MayScript, NeverHolds}
use Rattle.mime_sniff.specs.Rule.{Accepts}
use Rattle.mime_sniff.specs.Standard.{scriptable}
use Rattle.mime_sniff.proofs.MayLemmas.{may_html, may_pdf, may_xml, never_scripts}
use Rattle.mime_sniff.proofs.computed.may_become_scriptable.Goals as goal
use Rattle.mime_sniff.proofs.computed.may_become_scriptable.Goals.{else-may_become_html, then-may_become_html}

pub returns-then-may_stand_at-clause-may : goal.returns-then-may_stand_at-clause-may
returns-then-may_stand_at-clause-may c =
    let b = c.args.header.now in
    let text = c.after_white_space-text.result.now in
    let spaces = c.after_white_space-text.ensures in
    OnTrue_from c.if-may_become_html.value (MayScript b) (λ yes. elim c.if-may_become_html.branch [
      | then-may_become_html w ↦ may_html b text spaces.skips spaces.stops (λ i. omega (arith, c.type_inv.header i)) (c.may_become_html.ensures.0 w.if-may_become_html.true)
      | else-may_become_html w ↦ may_xml b text spaces.skips spaces.stops (λ i. omega (arith, c.type_inv.header i)) (w.may_stand_at.ensures.0 (sym w.value-is ∙ yes))
    ])

pub returns-else-may_stand_at-clause-may : goal.returns-else-may_stand_at-clause-may
returns-else-may_stand_at-clause-may c =
    let b = c.args.header.now in
    let text = c.after_white_space-text.result.now in
    let spaces = c.after_white_space-text.ensures in
    OnTrue_from c.may_stand_at-else-may_stand_at.result (MayScript b) (λ yes. may_pdf b text spaces.skips spaces.stops (λ i. omega (arith, c.type_inv.header i)) (c.may_stand_at-else-may_stand_at.ensures.0 yes))

pub returns-else-may_stand_at-clause-never : goal.returns-else-may_stand_at-clause-never
returns-else-may_stand_at-clause-never c =
    let b = c.args.header.now in
    let text = c.after_white_space-text.result.now in
    let spaces = c.after_white_space-text.ensures in
    OnFalse_from c.may_stand_at-else-may_stand_at.result (NeverHolds (λ d. Any (Accepts d) scriptable) b) (λ no. elim c.if-may_become_html.branch [
      | then-may_become_html w ↦ absurd (false≢true (sym c.if-may_stand_at.false ∙ (w.value-is ∙ w.if-may_become_html.true)))
      | else-may_become_html w ↦
          never_scripts b text spaces.skips spaces.stops (λ i. omega (arith, c.type_inv.header i))
          (λ may. absurd (false≢true (sym w.if-may_become_html.false ∙ c.may_become_html.ensures.1 may)))
          (λ begun. absurd (false≢true (sym c.if-may_stand_at.false ∙ (w.value-is ∙ w.may_stand_at.ensures.1 begun))))
          (λ begun. absurd (false≢true (sym no ∙ c.may_stand_at-else-may_stand_at.ensures.1 begun)))
    ])
