-- none of the entries so far may have the tag
use Rattle.infer_formats.proofs.Common.{ℕ, ◌+◌, ◌*◌, ◌<◌, AgreesAt}
use Rattle.infer_formats.proofs.tiff.may_become.directory_may_have_tag.Given as goal

abbrev pub invariant-loop-i : goal.invariant-loop-i
invariant-loop-i l = (k : ℕ) → k < l.i → ¬ AgreesAt l.buf l.bytes (l.start + 2 + 12 * k)
