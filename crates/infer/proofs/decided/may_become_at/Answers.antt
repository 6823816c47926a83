use Rattle.infer.proofs.Common.{◌≡◌, None, DecidesMayBecome, subst, sym, refl}
use Rattle.infer.proofs.DecidedLemmas.{told_of_row}
use Rattle.infer.proofs.TableLemmas.{named_signature}
use Rattle.infer.specs.Evidence.{fixed_of}
use Rattle.infer.proofs.decided.may_become_at.Goals as goal

pub returns-in-Some : goal.returns-in-Some
returns-in-Some c =
    told_of_row c.open.ensures c.args.buf.now c.may_become.result c.args.row
    (subst (λ s. DecidesMayBecome s c.args.buf.now c.may_become.result) (sym c.in-Some.ensures.some) c.may_become.ensures)

pub may_become_deep-requires : goal.may_become_deep-requires
may_become_deep-requires c =
    subst (λ s. fixed_of s ≡ None) (named_signature c.args.row c.row_at.result.now c.row_at.ensures) (c.in-None.ensures.none refl c.requires)

pub returns-in-None : goal.returns-in-None
returns-in-None c =
    told_of_row c.open.ensures c.args.buf.now c.may_become_deep.result c.args.row
    (subst (λ s. DecidesMayBecome s c.args.buf.now c.may_become_deep.result) (sym (named_signature c.args.row c.row_at.result.now c.row_at.ensures)) c.may_become_deep.ensures)
