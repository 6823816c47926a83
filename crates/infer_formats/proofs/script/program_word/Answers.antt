use Rattle.infer_formats.proofs.Common.{ℕ, sym, subst, MatchOption, arith, NamesProgram}
use Rattle.infer_formats.proofs.ScriptLemmas.{env_byte, env_first, env_named, named_after_env, no_first_word}
use Rattle.infer_formats.proofs.script.program_word.Goals as goal

pub next_program-requires-clause-line : goal.next_program-requires-clause-line
next_program-requires-clause-line c = λ k low lt is. let byte = env_byte c.args.buf.now (c.has_at.ensures.0 c.if-has_at.true) k low lt in grind arith

pub returns-then-has_at-clause-names : goal.returns-then-has_at-clause-names
returns-then-has_at-clause-names c =
    let b = c.args.buf.now in
    let path = c.has_at.ensures.0 c.if-has_at.true in
    named_after_env b 2 14 (env_first b path) (env_named b path) _ c.next_program.ensures.next

pub returns-in_err-first-clause-names : goal.returns-in_err-first-clause-names
returns-in_err-first-clause-names c =
    let b = c.args.buf.now in
    subst (λ r. MatchOption r ((p q : ℕ) → ¬ NamesProgram b p q) (λ w. NamesProgram b w.from w.to)) (sym c.from_residual.ensures)
    (no_first_word b c.in_err-first.ensures.next)

pub returns-then-is_env-clause-names : goal.returns-then-is_env-clause-names
returns-then-is_env-clause-names c =
    named_after_env c.args.buf.now _ _ c.in_ok-first.ensures.next (c.is_env.ensures.0 c.if-is_env.true) _ c.next_program-then-is_env.ensures.next
