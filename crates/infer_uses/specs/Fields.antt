-- What a record of a catalogue holds.
use Rattle.std.specs.Prelude.{◌-◌, ℕ, List, [], ◌++◌, length, slice_get}
use Rattle.std.specs.Option.{option_map_or}
use Rattle.infer.specs.Samples.{zeros}
use Rattle.infer_more.specs.Wider.{shown}

-- the MIME type of row i, built-in or further, and no text if there is no such row
abbrev pub mime_type_at : ℕ → List ℕ
mime_type_at i = option_map_or (λ t. t.mime_type) (slice_get shown i) []

-- the text with zeros after it, 73 bytes in all
abbrev pub filled : List ℕ → List ℕ
filled text = text ++ zeros (73 - length text)
