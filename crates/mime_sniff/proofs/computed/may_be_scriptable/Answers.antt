use Rattle.std.proofs.Common.{Any, None, refl, subst, sym}
use Rattle.std.proofs.lemmas.Bool.{false≢true}
use Rattle.std.specs.Bool.{OnFalse, OnTrue}
use Rattle.mime_sniff.specs.Growth.{MayScript}
use Rattle.mime_sniff.specs.Rule.{Accepts, FindsFirst}
use Rattle.mime_sniff.specs.Standard.{scriptable}
use Rattle.mime_sniff.proofs.DecidedLemmas.{NeverAccepted, may_below, never_accepted, never_full, no_rule, some_rule}
use Rattle.mime_sniff.proofs.computed.may_be_scriptable.Goals as goal

pub returns-in-Some-clause-full : goal.returns-in-Some-clause-full
returns-in-Some-clause-full c full = (
  λ yes. subst (λ h. Any (Accepts h) scriptable) c.header-header.ensures (some_rule (Accepts c.header-header.result.now) scriptable _ c.in-Some.ensures),
  λ some. refl,
)

pub returns-in-None-clause-right : goal.returns-in-None-clause-right
returns-in-None-clause-right c =
    never_full c.args.buf.now c.if-buf-ge-HEADER_LENGTH.true
    (subst (λ h. FindsFirst (Accepts h) scriptable None) c.header-header.ensures c.in-None.ensures)

pub returns-in-None-clause-full : goal.returns-in-None-clause-full
returns-in-None-clause-full c full = (
  λ yes. absurd (false≢true yes),
  λ some.
      absurd (no_rule (Accepts c.header-header.result.now) scriptable c.in-None.ensures (subst (λ h. Any (Accepts h) scriptable) (sym c.header-header.ensures) some)),
)

pub returns-clause-right : goal.returns-clause-right
returns-clause-right c =
    never_accepted c.args.buf.now c.may_become_scriptable.result
    (subst (λ h. OnFalse c.may_become_scriptable.result (NeverAccepted h)) c.header-header.ensures c.may_become_scriptable.ensures.never)

pub returns-clause-begun : goal.returns-clause-begun
returns-clause-begun c short =
    may_below c.args.buf.now c.may_become_scriptable.result short
    (subst (λ h. OnTrue c.may_become_scriptable.result (MayScript h)) c.header-header.ensures c.may_become_scriptable.ensures.may)
    (subst (λ h. OnFalse c.may_become_scriptable.result (NeverAccepted h)) c.header-header.ensures c.may_become_scriptable.ensures.never)
