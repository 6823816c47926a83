use Rattle.std.proofs.Common.{subst}
use Rattle.std.specs.Bool.{OnTrue}
use Rattle.mime_sniff.specs.Computed.{supply_of}
use Rattle.mime_sniff.specs.Growth.{IsDecided}
use Rattle.mime_sniff.proofs.sniffer.Sniffer.is_decided.Goals as goal

pub returns-clause-right : goal.returns-clause-right
returns-clause-right c = subst (λ b. OnTrue c.is_decided.result (IsDecided (supply_of c.args.supplied.now) b)) c.kept.ensures.all c.is_decided.ensures.right
