-- What the type of a file is taken from.
use Rattle.std.specs.Prelude.{ℕ, List, None, Some}
use Rattle.infer.specs.First.{IsAnswer}
use Rattle.infer.specs.Questions.{HasExtension, SomeBoth}
use Rattle.infer.specs.Row.{Accepts}
use Rattle.infer.specs.Table.{table}
use Rattle.infer.specs.Triple.{triple_of}
use Rattle.infer_uses.specs.declared.name.Choice.{Choice}
use Rattle.infer_uses.specs.declared.name.Choice.TheVariants.{Name, Bytes, NameAlone}

-- some row with the extension accepts the buffer
abbrev pub IsAgreed : List ℕ → List ℕ → Type 0
IsAgreed extension b = SomeBoth (HasExtension extension) (Accepts b) table

-- the name's if a row with its extension accepts the buffer or no row does, and otherwise the answer
abbrev pub IsChoice : List ℕ → List ℕ → Choice → Type 0
IsChoice extension b Name = IsAgreed extension b
IsChoice extension b (Bytes found) = (¬ IsAgreed extension b) × IsAnswer (Accepts b) table (Some (triple_of found))
IsChoice extension b NameAlone = IsAnswer (Accepts b) table None
