-- Which bytes of a buffer decide its answer.
use Rattle.std.specs.Prelude.{◌≡◌, ◌↔◌, ◌⊎◌, ◌+◌, ◌∷◌, [], ℕ, List, Option, None, Some, map, max, option_map}
use Rattle.std.specs.List.{range_with_len}
use Rattle.infer_evidence.specs.Evidence.{AgreesOn}
use Rattle.infer_evidence.specs.Listed.{signature_listed}
use Rattle.infer_evidence.specs.Weighed.{most_ranges}
use Rattle.infer_evidence.specs.declared.search.TheConstants.{MOST_OF_A_SEARCH}
use Rattle.infer_evidence.specs.declared.ranges.Evidence.{Evidence}
use Rattle.infer_evidence.specs.declared.search.Search.{Search}
use Rattle.infer_deep.specs.Windows.{StandsBy}
use Rattle.infer_sig.specs.Signature as fixed
use Rattle.infer.specs.Buffer.{IsBuffer}
use Rattle.infer.specs.BuiltIn.{BuiltIn, fixed, pdf}
use Rattle.infer.specs.Decided.{MayBecomeRow}
use Rattle.infer.specs.First.{IsFirstOf}
use Rattle.infer.specs.Row.{Accepts}
use Rattle.infer.specs.Table.{signature_of, table}
use Rattle.infer.specs.declared.table.row_data.RowData.{RowData}
use Rattle.infer.specs.Walks.{IsFirstAmong, RowHas}

-- every buffer that agrees with b on the evidence has this answer
abbrev pub Decides : Evidence → List ℕ → Option ℕ → Type 0
Decides e b answer = (c : List ℕ) → IsBuffer c → AgreesOn e b c → IsFirstOf (Accepts c) table answer

-- what agrees on the evidence after is what agrees on that before and has the same answer of row i
abbrev pub ProvesRow : Evidence → Evidence → List ℕ → ℕ → Type 0
ProvesRow before after b i =
    (c : List ℕ) → IsBuffer c → AgreesOn after b c → AgreesOn before b c × (RowHas (Accepts c) i ↔ RowHas (Accepts b) i)

-- row i accepts b, and whatever agrees on the evidence
abbrev pub IsHeld : Evidence → List ℕ → ℕ → Type 0
IsHeld e b i = RowHas (Accepts b) i × ((c : List ℕ) → IsBuffer c → AgreesOn e b c → RowHas (Accepts c) i)

-- and the same first of these rows
abbrev pub ProvesFirst : Evidence → Evidence → List ℕ → List ℕ → Option ℕ → Type 0
ProvesFirst before after b rows answer =
    (c : List ℕ) → IsBuffer c → AgreesOn after b c → AgreesOn before b c × IsFirstAmong (RowHas (Accepts c)) rows answer

-- whatever bytes follow, it is told whether row i accepts: it accepts, or no bytes make it
abbrev pub IsRowDecided : List ℕ → ℕ → Type 0
IsRowDecided b i = RowHas (Accepts b) i ⊎ ¬ RowHas (MayBecomeRow b) i

-- row i asks that this text stands somewhere at the front, and no more
abbrev pub IsSearch : ℕ → Search → Type 0
IsSearch i s = (b : List ℕ) → RowHas (Accepts b) i ↔ StandsBy s.text.now s.end b

-- the bytes at fixed places that a signature asks, if it asks no more
abbrev pub fixed_of : BuiltIn → Option (List fixed.Alternative)
fixed_of (fixed alternatives) = Some alternatives
fixed_of other = None

-- and as the code lists them
abbrev pub fixed_listed : Option RowData → Option (List fixed.Alternative)
fixed_listed k = option_map (λ known. signature_listed known.alternatives.now) k

-- these are the signatures of the n rows from that one on
abbrev pub AreListed : (first n : ℕ) → List (Option RowData) → Type 0
AreListed first n known = map fixed_listed known ≡ map (λ i. fixed_of (signature_of i)) (range_with_len first n)

-- for how many ranges a row asks at most, and rows together
abbrev pub most_of : BuiltIn → ℕ
most_of (fixed alternatives) = max 1 (most_ranges alternatives)
most_of pdf = MOST_OF_A_SEARCH
most_of other = 1

abbrev pub most_of_all : List ℕ → ℕ
most_of_all [] = 0
most_of_all (i ∷ rows) = most_of (signature_of i) + most_of_all rows
