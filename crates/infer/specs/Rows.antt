-- The rows of an `Infer`: those that its caller added, and then the built-in ones.
use Rattle.std.specs.Prelude.{ℕ, List, [], ◌++◌, true, map}
use Rattle.std.specs.Option.{option_map_or}
use Rattle.infer.specs.BuiltIn.{BuiltIn, IsAccepted}
use Rattle.infer.specs.Caller.{Contracts, contract_of, Allows}
use Rattle.infer.specs.Row.{Row}
use Rattle.infer.specs.Table.{table}
use Rattle.infer.specs.Triple.{triple}
use Rattle.infer.specs.declared.caller.custom.CustomRow.{CustomRow}
use Rattle.infer.specs.declared.table.file_type.MatcherType.TheVariants.{Custom}
use Rattle.infer.specs.declared.caller.infer.Infer.{Infer}

-- what decides: a built-in signature, or a function that a caller gave
pub data Signature (X : Type 0) (g : Contracts X) : Type 0 where
  built_in : BuiltIn → Signature X g
  given : X → Signature X g

module _ {X : Type 0} {g : Contracts X} where
  -- the signature accepts the buffer: that of a given function does if its contract allows the answer true
  abbrev pub IsAcceptedBy : Signature X g → List ℕ → Type 0
  IsAcceptedBy (built_in s) b = IsAccepted s b
  IsAcceptedBy (given m) b = Allows (contract_of g m) b true

  -- the row, built-in or a caller's, accepts the buffer
  abbrev pub AnyAccepts : List ℕ → Row (Signature X g) → Type 0
  AnyAccepts b r = IsAcceptedBy r.signature b

  -- a built-in row among those of a caller
  abbrev pub kept_row : Row BuiltIn → Row (Signature X g)
  kept_row r = record { shows = r.shows; signature = built_in r.signature }

  -- a row that a caller added
  abbrev pub custom_row : CustomRow X g → Row (Signature X g)
  custom_row r = record { shows = triple Custom r.mime_type.now r.extension.now; signature = given r.matcher }

module _ {X : Type 0} {g : Contracts X} {A : Type 0} where
  -- the rows that the caller added, in that order
  abbrev pub custom_rows : Infer A X g → List (Row (Signature X g))
  custom_rows infer = option_map_or (λ v. map custom_row v.items) infer.list []

  -- these, and then the built-in ones
  abbrev pub rows : Infer A X g → List (Row (Signature X g))
  rows infer = custom_rows infer ++ map kept_row table
