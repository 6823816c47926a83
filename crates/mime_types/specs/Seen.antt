-- What the code's views show.
use Rattle.std.specs.Prelude.{◌≡◌, ℕ, List, option_map, if◌then◌else◌}
use Rattle.mime_types.specs.Mime as mime
use Rattle.mime_types.specs.Mime.{Kind, Mime}
use Rattle.mime_types.specs.Parameters.{parameters}
use Rattle.mime_types.specs.Parse.{subtype_text, tail_text, type_text}
use Rattle.mime_types.specs.Segment as segments
use Rattle.mime_types.specs.Segment.{AsWritten, Standing, unquoted}
use Rattle.mime_types.specs.Text.{lower}
use Rattle.mime_types.specs.declared.mime_type.MimeType.{MimeType}
use Rattle.mime_types.specs.declared.parameter.Parameter.{Parameter}
use Rattle.mime_types.specs.declared.parameter.Value.{Value}
use Rattle.mime_types.specs.declared.segment.Segment.{Segment}

abbrev pub kind_of : MimeType → Kind
kind_of v = record { type_name = lower v.type_name.now; subtype = lower v.subtype.now }

abbrev pub mime_of : MimeType → Mime
mime_of v = record { kind = kind_of v; parameters = parameters v.tail.now }

-- type and subtype, and what stands after the subtype, are views of this text
abbrev pub IsViewOf : List ℕ → MimeType → Type 0
IsViewOf t v = (v.type_name.now ≡ type_text t) × (v.subtype.now ≡ subtype_text t) × (v.tail.now ≡ tail_text t)

abbrev pub value_seen : Value → List ℕ
value_seen v = if v.is_quoted then unquoted v.text.now else v.text.now

abbrev pub parameter_seen : Parameter → mime.Parameter
parameter_seen p = record { name = lower p.name.now; value = value_seen p.value }

-- the same as it was written
abbrev pub written_seen : Parameter → AsWritten
written_seen p = record { name = p.name.now; text = p.value.text.now; is_quoted = p.value.is_quoted }

abbrev pub standing_seen : Segment → Standing
standing_seen s = record { parameter = option_map written_seen s.written; rest = s.rest.now }

abbrev pub segment_seen : Segment → segments.Segment
segment_seen s = record { written = option_map parameter_seen s.written; rest = s.rest.now }
