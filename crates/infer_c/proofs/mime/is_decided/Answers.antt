use Rattle.std.proofs.Common.{IsTrue, option_map, subst}
use Rattle.std.specs.Bool.{OnTrue}
use Rattle.mime_types.specs.Seen.{mime_of}
use Rattle.mime_sniff.specs.Computed.{AsksNothing}
use Rattle.mime_sniff.specs.Growth.{IsDecided}
use Rattle.infer_c.proofs.MimeLemmas.{supply_is}
use Rattle.infer_c.proofs.mime.is_decided.Goals as goal

pub returns-clause-right : goal.returns-clause-right
returns-clause-right c =
    let supplied = c.supplied.result in
    let yes = c.is_decided.result in
    let is = supply_is supplied c.args.flags c.supplied.ensures.no_sniff c.supplied.ensures.old_server in (
      option_map mime_of supplied.mime_type,
      c.supplied.ensures.says,
      subst (λ s. OnTrue yes (IsDecided s c.args.buf.now)) is c.is_decided.ensures.right,
      subst (λ s. AsksNothing s → IsTrue yes) is c.is_decided.ensures.unasked,
    )
