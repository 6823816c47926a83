-- the bytes so far are those of a name, and what follows their last ":" begins there
use Rattle.infer_formats.proofs.Common.{ℕ, ◌<◌, ◌≤◌, get_or, IsAfterLast, IsNameByte}
use Rattle.infer_formats.proofs.markup.prolog.read_name.Given as goal

abbrev pub invariant-loop-to : goal.invariant-loop-to
invariant-loop-to l = ((k : ℕ) → l.from ≤ k → k < l.to → IsNameByte (get_or l.buf k 0)) × IsAfterLast 0x3A l.buf l.from l.to l.at
