use Rattle.std.proofs.Common.{option_map, subst}
use Rattle.mime_sniff.specs.Computed.{supply_of}
use Rattle.mime_sniff.specs.Growth.{AnswerForGood}
use Rattle.mime_sniff.proofs.DecidedLemmas.{decided_full, decided_settled}
use Rattle.mime_sniff.proofs.computed.is_decided.Goals as goal

pub returns-then-buf-ge-HEADER_LENGTH-clause-right : goal.returns-then-buf-ge-HEADER_LENGTH-clause-right
returns-then-buf-ge-HEADER_LENGTH-clause-right c = decided_full (supply_of c.args.supplied.now) c.args.buf.now c.if-buf-ge-HEADER_LENGTH.true

pub returns-in-Some-clause-right : goal.returns-in-Some-clause-right
returns-in-Some-clause-right c =
    decided_settled (supply_of c.args.supplied.now) c.args.buf.now c.asked.result _ c.asked.ensures
    (subst (λ h. AnswerForGood c.asked.result h (option_map (λ t. t.now) c.in-Some.field-0)) c.header.ensures c.in-Some.ensures.good)
