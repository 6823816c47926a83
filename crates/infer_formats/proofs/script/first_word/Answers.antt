use Rattle.infer_formats.proofs.Common.{inl, refl, arith}
use Rattle.infer_formats.proofs.ScriptLemmas.{next_read}
use Rattle.infer_formats.proofs.script.first_word.Goals as goal

pub returns-clause-next : goal.returns-clause-next
returns-clause-next c =
    next_read c.args.buf.now 2 c.blanks_end-from.result c.blanks_end-from.ensures.blanks (omega arith) (λ k low lt. absurd (omega arith)) (inl refl)
    c.blanks_end-from.ensures.low (c.is_word_byte.ensures.0 c.if-not-is_word_byte.false) c.read_word.result c.read_word.ensures
