use Rattle.infer_notation.proofs.Common.{Bool, Option, drop, map, token_listed, IsSeen, programs_of}
use Rattle.infer_notation.proofs.SeenLemmas.{AreLeft}
use Rattle.infer_notation.proofs.relations.has_program.Given as goal

-- what is made of the programs to come, with what was made of those before, is made of all
abbrev pub invariant-loop-token : goal.invariant-loop-token
invariant-loop-token l = (x : Option Bool) → AreLeft l.any (drop l.token-index l.tokens) l.buf x → IsSeen (programs_of (map token_listed l.tokens)) l.buf x
