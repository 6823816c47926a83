use Rattle.infer_deep.proofs.Common.{arith, nat_tests}
use Rattle.infer_deep.proofs.TextLemmas.{HasTag-begun, reached_open, HasTag-reached_second, is_html_open}
use Rattle.infer_deep.proofs.text.may_become_html.Goals as goal

pub returns-then-is_empty : goal.returns-then-is_empty
returns-then-is_empty c =
    let spaces = c.trim_start_whitespaces-text.ensures in
    grind (arith, nat_tests, is_html_open _ _ spaces.skips spaces.stops, HasTag-begun)

pub returns-else-is_empty : goal.returns-else-is_empty
returns-else-is_empty c =
    let spaces = c.trim_start_whitespaces-text.ensures in
    grind (arith, nat_tests, is_html_open _ _ spaces.skips spaces.stops, HasTag-begun, reached_open)

pub returns-then-text-eq60 : goal.returns-then-text-eq60
returns-then-text-eq60 c =
    let spaces = c.trim_start_whitespaces-text.ensures in
    let some = rw c.tags_with.ensures at c.may_begin_some_tag.ensures in
    grind (arith, is_html_open _ _ spaces.skips spaces.stops, HasTag-reached_second c.trim_start_whitespaces-text.result.now (omega arith), some)

pub returns-else-text-eq60 : goal.returns-else-text-eq60
returns-else-text-eq60 c =
    let spaces = c.trim_start_whitespaces-text.ensures in
    grind (arith, nat_tests, is_html_open _ _ spaces.skips spaces.stops, reached_open)
