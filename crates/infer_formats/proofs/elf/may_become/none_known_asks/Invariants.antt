-- none of the entries so far asks for one
use Rattle.infer_formats.proofs.Common.{ℕ, ◌+◌, ◌*◌, ◌<◌, AsksAt}
use Rattle.infer_formats.proofs.elf.may_become.none_known_asks.Given as goal

abbrev pub invariant-loop-i : goal.invariant-loop-i
invariant-loop-i l = (k : ℕ) → k < l.i → ¬ AsksAt l.big l.buf (l.start + k * l.size)
