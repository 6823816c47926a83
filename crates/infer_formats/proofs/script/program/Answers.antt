use Rattle.infer_formats.proofs.Common.{ℕ, List, sym, subst, MatchOption, IsProgram}
use Rattle.infer_formats.proofs.ScriptLemmas.{one_program}
use Rattle.infer_formats.proofs.script.program.Goals as goal

pub returns-in_err-program_word-clause-found : goal.returns-in_err-program_word-clause-found
returns-in_err-program_word-clause-found c =
    let b = c.args.buf.now in
    subst (λ r. MatchOption r ((n : List ℕ) → ¬ IsProgram n b) (λ name. IsProgram name.now b)) (sym c.from_residual.ensures)
    (λ name (begins, (at, end, p, is)). c.in_err-program_word.ensures.names p.from p.to p.word)

pub returns-clause-only : goal.returns-clause-only
returns-clause-only c = λ n is. one_program c.args.buf.now n _ is c.bare_name.ensures
