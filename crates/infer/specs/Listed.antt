-- The rows as the code lists them, and their samples.
use Rattle.std.specs.Prelude.{ℕ, Bool, List, nat_le}
use denote.Enum.Declared.{tag_of}
use Rattle.infer_evidence.specs.Spans.{stretch}
use Rattle.infer_evidence.specs.declared.spans.Span.{Span}
use Rattle.infer.specs.BuiltIn.{BuiltIn}
use Rattle.infer.specs.Row.{Row}
use Rattle.infer.specs.Table.{signature_of}
use Rattle.infer.specs.Triple.{triple_of}
use Rattle.infer.specs.contracts.table.rows.RowName as row_name
use Rattle.infer.specs.declared.table.built_in.BuiltInRow.{BuiltInRow}
use Rattle.infer.specs.declared.table.rows.RowName.{RowName}
use Rattle.infer.specs.declared.samples.TheConstants.{SAMPLE_SIZE}

-- the number of the row with that name: its place among the names
abbrev pub number_of : RowName → ℕ
number_of name = tag_of row_name.the_type name

-- the row, with the signature of the row of the table that has its number
abbrev pub row_listed : BuiltInRow → Row BuiltIn
row_listed r = record { shows = triple_of r.file_type; signature = signature_of (number_of r.row) }

-- the sample at a span of the text of all
abbrev pub sample_at : List ℕ → Span → List ℕ
sample_at text s = stretch text s.start s.count

-- a span is not longer than the longest sample
abbrev pub is_short : Span → Bool
is_short s = nat_le s.count SAMPLE_SIZE
