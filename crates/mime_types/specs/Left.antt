-- What is left of parameters that come one after the other.
use Rattle.std.specs.Prelude.{ℕ, List}
use Rattle.mime_types.specs.Mime.{Parameter}
use Rattle.mime_types.specs.Parameters.{kept}
use Rattle.mime_types.specs.Segment.{written, written_by}
use Rattle.mime_types.specs.declared.parameters.Parameters.{Parameters}

-- those that count, after those that were written before them
abbrev pub left : Parameters → List Parameter
left p = kept (written_by p.count p.tail.now) (written p.rest.now)

-- the text that they are read of
abbrev pub text_read : Parameters → List ℕ
text_read p = p.tail.now
