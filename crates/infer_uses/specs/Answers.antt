-- What a user asks of an answer.
use Rattle.std.specs.Prelude.{◌≡◌, Option, None, Some}
use Rattle.infer.specs.Triple.{Triple}
use Rattle.infer.specs.declared.table.file_type.MatcherType.{MatcherType}

-- there is an answer, and it is of the class
abbrev pub IsOfClass : MatcherType → Option Triple → Type 0
IsOfClass class None = ⊥
IsOfClass class (Some t) = t.class ≡ class
