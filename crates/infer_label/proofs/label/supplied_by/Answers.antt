use Rattle.std.proofs.Common.{◌≡◌, Option, None, Some, option_map, refl}
use Rattle.mime_types.specs.Seen.{kind_of, mime_of}
use Rattle.mime_types.specs.declared.mime_type.MimeType.{MimeType}
use Rattle.infer_label.proofs.label.supplied_by.Goals as goal

-- a type and a subtype are those of the MIME type
kind_seen : (found : Option MimeType) → option_map kind_of found ≡ option_map (λ m. m.kind) (option_map mime_of found)
kind_seen None = refl
kind_seen (Some found) = refl

pub returns : goal.returns
returns c = record {
  said = option_map mime_of c.parse.result;
  is_said = c.parse.ensures.says;
  kind = kind_seen c.parse.result;
  forbidden = refl;
  of_old_server = c.is_apache_bug.ensures;
}
