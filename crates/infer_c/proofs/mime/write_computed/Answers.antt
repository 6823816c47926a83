use Rattle.std.proofs.Common.{None, Some, option_map, refl, rules}
use Rattle.mime_types.specs.Seen.{mime_of}
use Rattle.mime_sniff.specs.Computed.{supply_of}
use Rattle.infer_c.specs.Mime.{IsContextOf, supply_said}
use Rattle.infer_c.proofs.MimeLemmas.{computed_by, supply_is, text_of_found}
use Rattle.infer_c.proofs.mime.write_computed.Goals as goal

pub returns-in-Sniffed : goal.returns-in-Sniffed
returns-in-Sniffed c =
    let supplied = c.supplied-supplied.result in
    let place : IsContextOf c.args.code c.context.result = search rules in
    let told = c.in-Sniffed.mime_type.now in
    let is = supply_is supplied c.args.flags c.supplied-supplied.ensures.no_sniff c.supplied-supplied.ensures.old_server in (
      option_map mime_of supplied.mime_type,
      Some told,
      told,
      c.supplied-supplied.ensures.says,
      c.context.result,
      place,
      computed_by _ _ (supply_of supplied) (supply_said (option_map mime_of supplied.mime_type) c.args.flags) c.args.buf.now (Some told) c.unwrap_or-context.ensures is c.in-Sniffed.ensures,
      refl,
      c.write_text.ensures.length,
      c.write_text.ensures.written,
    )

pub returns-in-Same : goal.returns-in-Same
returns-in-Same c =
    let supplied = c.supplied-supplied.result in
    let is = supply_is supplied c.args.flags c.supplied-supplied.ensures.no_sniff c.supplied-supplied.ensures.old_server in
    let place : IsContextOf c.args.code c.context.result = search rules in
    let w = c.write_found.ensures in (
      option_map mime_of supplied.mime_type,
      None,
      w.0,
      c.supplied-supplied.ensures.says,
      c.context.result,
      place,
      computed_by _ _ (supply_of supplied) (supply_said (option_map mime_of supplied.mime_type) c.args.flags) c.args.buf.now None c.unwrap_or-context.ensures is c.in-Same.ensures,
      text_of_found c.args.content_type.now supplied.mime_type w.0 c.supplied-supplied.ensures.tail w.1,
      w.2,
      w.3,
    )
