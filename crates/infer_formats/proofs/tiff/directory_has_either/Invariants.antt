-- none of the entries so far has either tag
use Rattle.infer_formats.proofs.Common.{ℕ, ◌<◌, IsTagEntry}
use Rattle.infer_formats.proofs.tiff.directory_has_either.Given as goal

abbrev pub invariant-loop-i : goal.invariant-loop-i
invariant-loop-i l =
    ((k : ℕ) → k < l.i → ¬ IsTagEntry l.big l.tag l.buf l.directory.start k)
    × ((k : ℕ) → k < l.i → ¬ IsTagEntry l.big l.other l.buf l.directory.start k)
