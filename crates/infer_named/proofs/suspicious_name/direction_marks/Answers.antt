use Rattle.std.proofs.Common.{refl}
use Rattle.std.specs.Char.{encode_utf8}
use Rattle.infer_named.proofs.suspicious_name.direction_marks.Goals as goal

pub returns : goal.returns
unfolding encode_utf8
returns c = refl
