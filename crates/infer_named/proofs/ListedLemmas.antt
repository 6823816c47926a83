-- The keys as the code lists them, by what stands near in its lists.
use Rattle.std.proofs.Common.{◌≡◌, ◌∙◌, ℕ, List, ap, ap₂, map, refl, subst}
use Rattle.std.specs.List.{flat_map}
use Rattle.infer_more.proofs.NearLemmas.{Stretches, near, near_is}
use Rattle.infer_named.specs.Key.{Key, NamedType, Origin, Reading, key, known, named, own, reading, row}
use Rattle.infer_named.specs.Listed.{key_listed, key_texts, leads_at, mime_types, ranges, reading_listed, readings, row_spans, row_texts, set_listed, type_listed}
use Rattle.infer_evidence.specs.Spans.{stretch}
use Rattle.infer_named.specs.declared.table.Key as code_key
use Rattle.infer_named.specs.declared.table.NamedType as code_type
use Rattle.infer_named.specs.declared.table.Origin as code_origin
use Rattle.infer_named.specs.declared.table.Origin.TheVariants.{Known, Own, Row}
use Rattle.infer_named.specs.Texts.{free, tame}
use Rattle.infer_named.specs.declared.table.Reading as code_reading
use Rattle.infer_named.specs.declared.table.generated.sets.TheConstants.{FREE, TAME}
use Rattle.infer_evidence.specs.declared.spans.Span.{Span}

-- a type, by the stretches of the MIME types and of the rows' texts
abbrev origin_by : Stretches ℕ → code_origin.Origin → Origin
origin_by texts (Row extension) = row (texts extension.start extension.count)
origin_by texts Known = known
origin_by texts Own = own

abbrev type_by : Stretches ℕ → Stretches ℕ → code_type.NamedType → NamedType
type_by mime_types texts t = named (mime_types t.mime_type.start t.mime_type.count) (origin_by texts t.origin)

abbrev type_near : code_type.NamedType → NamedType
type_near = type_by (near mime_types) (near row_texts)

type_is : type_near ≡ type_listed
type_is = ap₂ type_by (near_is mime_types) (near_is row_texts)

-- a set, by those of the ranges and of the rows, and a row by those of the rows' texts
abbrev rows_by : Stretches ℕ → List (List ℕ)
rows_by texts = map (λ span. texts span.start span.count) row_spans

abbrev set_by : Stretches Span → Stretches (List ℕ) → Span → List (List ℕ)
set_by ranges rows span = flat_map (λ range. rows range.start range.count) (ranges span.start span.count)

abbrev set_near : Span → List (List ℕ)
set_near = set_by (near ranges) (near (rows_by (near row_texts)))

set_is : set_near ≡ set_listed
set_is = ap₂ set_by (near_is ranges) (near_is (rows_by (near row_texts)) ∙ ap (λ texts. stretch (rows_by texts)) (near_is row_texts))

-- the two sets that no reading has
tame_near : set_near TAME ≡ tame
unfolding ranges row_spans row_texts tame
tame_near = refl

pub tame_listed : set_listed TAME ≡ tame
tame_listed = subst (λ listed. listed TAME ≡ tame) set_is tame_near

free_near : set_near FREE ≡ free
unfolding ranges row_spans row_texts free
free_near = refl

pub free_listed : set_listed FREE ≡ free
free_listed = subst (λ listed. listed FREE ≡ free) set_is free_near

-- a reading, by its type and its sets
abbrev reading_by : (code_type.NamedType → NamedType) → (Span → List (List ℕ)) → code_reading.Reading → Reading
reading_by type rows r = reading (type r.named) r.asks (rows r.agrees) (rows r.begins) (rows r.finer) (leads_at r.leads)

abbrev reading_near : code_reading.Reading → Reading
reading_near = reading_by type_near set_near

reading_is : reading_near ≡ reading_listed
reading_is = ap₂ reading_by type_is set_is

-- and a key, by the stretches of the texts and of the readings
abbrev key_by : (code_reading.Reading → Reading) → Stretches ℕ → Stretches code_reading.Reading → code_key.Key → Key
key_by listed texts readings k =
    key k.part (texts k.text.start k.text.count) k.usage (map listed (readings k.readings.start k.readings.count))

abbrev pub key_near : code_key.Key → Key
key_near = key_by reading_near (near key_texts) (near readings)

pub key_is : key_near ≡ key_listed
key_is = ap (λ listed. key_by listed (near key_texts) (near readings)) reading_is ∙ ap₂ (key_by reading_listed) (near_is key_texts) (near_is readings)
