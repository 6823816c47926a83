-- What decides an answer, as it is told to C.
use Rattle.std.specs.Prelude.{◌≡◌, ◌++◌, ℕ, List, Option, None, Some, drop, if◌then◌else◌, length, map, nat_lt, take}
use Rattle.infer_evidence.specs.Evidence.{IsOf, ranges_of, row_of}
use Rattle.infer_evidence.specs.declared.ranges.Evidence.{Evidence}
use Rattle.infer_evidence.specs.declared.ranges.Range.{Range}
use Rattle.infer_more.specs.Wider.{shown}
use Rattle.infer_c.specs.Codes.{row_code}
use Rattle.infer_c.specs.declared.evidence.Needs.{Needs}
use Rattle.infer_c.specs.declared.evidence.WrittenRange.{WrittenRange}

-- the number, if a row has it
abbrev pub among_rows : Option ℕ → Option ℕ
among_rows (Some i) = if nat_lt i (length shown) then Some i else None
among_rows None = None

-- a range as C has it: its row is -1 if it tells of no single one
abbrev pub range_written : Range → WrittenRange
range_written r = record { place = r.place; len = r.len; step = r.step; row = row_code (among_rows (row_of r)) }

-- the room begins with the ranges, as many as it holds, and after them it stays
abbrev pub WritesRanges : List Range → List WrittenRange → List WrittenRange → Type 0
WritesRanges ranges old new = new ≡ take (length old) (map range_written ranges) ++ drop (length ranges) old

-- how many ranges are wanted, and what is needed of the length
abbrev pub needs_of : Evidence → Needs
needs_of e = record { wanted = e.count; least = e.least; is_exact = e.exact }

-- what was written is evidence of the buffer with that property
pub record StoresEvidence (P : Evidence → Type 0) (b : List ℕ) (old new : List WrittenRange) (needs : Needs) : Type 0 where
  pub evidence : Evidence
  pub decides : P evidence
  pub inside : IsOf evidence b
  pub ranges : WritesRanges (ranges_of evidence) old new
  pub is : needs ≡ needs_of evidence
