-- The table as the code lists it.
use Rattle.std.specs.Prelude.{ℕ, List, [], get_or, map}
use Rattle.std.specs.List.{flat_map}
use denote.Ref.{Bor}
use Rattle.infer_evidence.specs.Spans.{stretch}
use Rattle.infer_evidence.specs.declared.spans.Span.{Span}
use Rattle.infer_named.specs.Key.{Key, NamedType, Origin, Reading, key, known, own, reading, row}
use Rattle.infer_named.specs.Texts.{lead_lists}
use Rattle.infer_named.specs.declared.table.Key as code_key
use Rattle.infer_named.specs.declared.table.NamedType as code_type
use Rattle.infer_named.specs.declared.table.Origin as code_origin
use Rattle.infer_named.specs.declared.table.Origin.TheVariants.{Known, Own, Row}
use Rattle.infer_named.specs.declared.table.Reading as code_reading
use Rattle.infer_named.specs.declared.table.generated.keys.TheConstants.{READINGS}
use Rattle.infer_named.specs.declared.table.generated.sets.TheConstants.{RANGES, ROWS}
use Rattle.infer_named.specs.declared.table.generated.texts.TheConstants.{KEY_TEXTS, MIME_TYPES, ROW_TEXTS}

-- the texts of the keys, of the types and of the rows, each text after the other
unfoldable pub key_texts : List ℕ
key_texts = KEY_TEXTS.now

unfoldable pub mime_types : List ℕ
mime_types = MIME_TYPES.now

unfoldable pub row_texts : List ℕ
row_texts = ROW_TEXTS.now

-- where the texts of the rows stand, the ranges of rows that the sets have, and the readings of the keys
unfoldable pub row_spans : List Span
row_spans = ROWS

unfoldable pub ranges : List Span
ranges = RANGES

unfoldable pub readings : List code_reading.Reading
readings = READINGS

-- what stands at a span among the MIME types, and among the texts of rows
abbrev pub mime_type : Span → List ℕ
mime_type span = stretch mime_types span.start span.count

abbrev pub row_text : Span → List ℕ
row_text span = stretch row_texts span.start span.count

abbrev pub origin_listed : code_origin.Origin → Origin
origin_listed (Row extension) = row (row_text extension)
origin_listed Known = known
origin_listed Own = own

abbrev pub type_listed : code_type.NamedType → NamedType
type_listed t = record { mime_type = mime_type t.mime_type; origin = origin_listed t.origin }

-- what a list of texts points to
abbrev pub texts : List (Bor (List ℕ)) → List (List ℕ)
texts list = map (λ text. text.now) list

-- what each of some lists of texts points to
abbrev pub lists_of_texts : List (Bor (List (Bor (List ℕ)))) → List (List (List ℕ))
lists_of_texts lists = map (λ list. texts list.now) lists

-- the texts of the rows
abbrev pub row_list : List (List ℕ)
row_list = map row_text row_spans

-- the rows of a range, and those of the ranges at a span
abbrev pub range_listed : Span → List (List ℕ)
range_listed range = stretch row_list range.start range.count

abbrev pub set_listed : Span → List (List ℕ)
set_listed span = flat_map range_listed (stretch ranges span.start span.count)

-- the leads of a number
abbrev pub leads_at : ℕ → List (List ℕ)
leads_at n = get_or lead_lists n []

abbrev pub reading_listed : code_reading.Reading → Reading
reading_listed r = reading (type_listed r.named) r.asks (set_listed r.agrees) (set_listed r.begins) (set_listed r.finer) (leads_at r.leads)

abbrev pub key_listed : code_key.Key → Key
key_listed k =
    key k.part (stretch key_texts k.text.start k.text.count) k.usage (map reading_listed (stretch readings k.readings.start k.readings.count))
