use Rattle.std.proofs.Common.{◌≡◌, None, arith, length, option_map, option_to_list, refl, rules}
use Rattle.mime_types.specs.Extracted.{carried, charset_of}
use Rattle.mime_types.specs.Seen.{mime_of, parameter_seen, value_seen}
use Rattle.mime_types.specs.Serialize.{parameters_text, serialize}
use Rattle.mime_types.proofs.WroteLemmas.{text_together, then_none, then_wrote}
use Rattle.mime_types.proofs.extraction.Extracted.write_text.Goals as goal

pub returns-in_err-at : goal.returns-in_err-at
returns-in_err-at c =
    let e = c.args.self.now in
    let after = carried (charset_of (mime_of e.mime_type)) (option_map value_seen e.charset) in
    let none : c.from_residual.result ≡ None = search rules in
    then_none (serialize (mime_of e.mime_type)) (parameters_text after) _ (text_together e after refl) c.write_text.result c.args.out.now c.write_text.new.out 0
    c.from_residual.result (c.in_err-at.was {u = tt}) none c.write_text.ensures

pub returns : goal.returns
returns c =
    let e = c.args.self.now in
    let after = option_to_list (option_map parameter_seen c.carried.result) in
    let same : length c.write_text.new.out ≡ length c.args.out.now = omega arith in
    then_wrote (serialize (mime_of e.mime_type)) (parameters_text after) _ (text_together e after c.carried.ensures) c.write_text.result c.args.out.now
    c.write_text.new.out c.write_carried.new.out 0 c.in_ok-at.at c.write_carried.result same c.in_ok-at.was c.write_text.ensures c.write_carried.ensures
