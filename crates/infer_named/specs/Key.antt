-- Keys of names, and what each may mean.
use Rattle.std.specs.Prelude.{ℕ, Bool, false, true, List}
use Rattle.infer_named.specs.declared.table.Asks.{Asks}
use Rattle.infer_named.specs.declared.table.Part.{Part}
use Rattle.infer_named.specs.declared.table.Usage.{Usage}
use Rattle.infer_named.specs.declared.table.Usage.TheVariants.{Loose, Plain, Strict}

-- who names a type: a row, whose extension this is; a registry or another program; or nobody else
pub data Origin : Type 0 where
  row : List ℕ → Origin
  known : Origin
  own : Origin

-- a type that a name has
pub record NamedType : Type 0 where
  pub mime_type : List ℕ
  pub origin : Origin

-- a type, what it asks of bytes that no row accepts, the rows that agree with it, as which it may begin and that are finer,
-- and with what its files begin, if that is known
pub record Reading : Type 0 where
  pub named : NamedType
  pub asks : Asks
  pub agrees : List (List ℕ)
  pub begins : List (List ℕ)
  pub finer : List (List ℕ)
  pub leads : List (List ℕ)

-- whether a key is in use for other things too
abbrev pub is_loose : Usage → Bool
is_loose Strict = false
is_loose Plain = false
is_loose Loose = true

-- what it is of a name, its text, for what it is in use, and its readings in order
pub record Key : Type 0 where
  pub part : Part
  pub text : List ℕ
  pub usage : Usage
  pub readings : List Reading

abbrev pub named : List ℕ → Origin → NamedType
named mime_type origin = record { mime_type = mime_type; origin = origin }

abbrev pub reading : NamedType → Asks → List (List ℕ) → List (List ℕ) → List (List ℕ) → List (List ℕ) → Reading
reading type asks agrees begins finer leads =
    record { named = type; asks = asks; agrees = agrees; begins = begins; finer = finer; leads = leads }

abbrev pub key : Part → List ℕ → Usage → List Reading → Key
key part text usage readings = record { part = part; text = text; usage = usage; readings = readings }
