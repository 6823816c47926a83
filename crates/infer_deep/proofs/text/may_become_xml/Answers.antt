use Rattle.infer_deep.proofs.Common.{arith}
use Rattle.infer_deep.proofs.TextLemmas.{is_xml_open}
use Rattle.infer_deep.proofs.text.may_become_xml.Goals as goal

pub returns-then-may_begin_in_any_case : goal.returns-then-may_begin_in_any_case
returns-then-may_begin_in_any_case c =
    let spaces = c.trim_start_whitespaces.ensures in
    let marks = c.trim_start_byte_order_marks-text.ensures in
    grind (arith, is_xml_open _ _ spaces.skips spaces.stops _ marks.skips marks.stops)

pub returns-else-may_begin_in_any_case : goal.returns-else-may_begin_in_any_case
returns-else-may_begin_in_any_case c =
    let spaces = c.trim_start_whitespaces.ensures in
    let marks = c.trim_start_byte_order_marks-text.ensures in
    grind (arith, is_xml_open _ _ spaces.skips spaces.stops _ marks.skips marks.stops)
