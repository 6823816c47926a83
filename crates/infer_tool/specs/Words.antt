-- What the words of a run ask for.
use Rattle.std.specs.Prelude.{◌≡◌, ℕ, List, [], Some, codes, slice_index_or}
use Rattle.std.specs.List.{slice_get}

-- the first word is this option
abbrev pub Asks : List ℕ → List (List ℕ) → Type 0
Asks option words = slice_get words 0 ≡ Some option

-- the options for a sample, and for a limit
abbrev pub sample_option : List ℕ
sample_option = codes "--sample"

abbrev pub front_option : List ℕ
front_option = codes "--front"

-- the word after the option, and the empty text if there is none
abbrev pub second : List (List ℕ) → List ℕ
second words = slice_index_or words 1 []
