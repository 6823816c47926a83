-- none of the entries so far says the make
use Rattle.infer_formats.proofs.Common.{ℕ, ◌<◌}
use Rattle.infer_formats.specs.Tiff.{IsMakeEntry}
use Rattle.infer_formats.proofs.tiff.directory_has_make.Given as goal

abbrev pub invariant-loop-i : goal.invariant-loop-i
invariant-loop-i l = (k : ℕ) → k < l.i → ¬ IsMakeEntry l.big l.make l.buf l.directory.start k
