use Rattle.infer_formats.proofs.ScriptLemmas.{next_read}
use Rattle.infer_formats.proofs.script.next_word.Goals as goal

pub returns-clause-next : goal.returns-clause-next
returns-clause-next c =
    let b = c.args.buf.now in
    let skipped = c.blanks_end-from.ensures.blanks in
    next_read b c.args.place c.blanks_end-from.result skipped c.requires.low c.requires.line c.requires.ends c.blanks_end-from.ensures.low
    (c.is_word_byte.ensures.0 c.if-not-is_word_byte.false) c.read_word.result c.read_word.ensures
