-- The candidates of each group of first bytes, as the code lists them.
use Rattle.std.specs.Prelude.{ℕ, List, map}
use Rattle.infer.specs.declared.candidates.groups.TheConstants.{CANDIDATES}

abbrev pub groups : List (List ℕ)
groups = map (λ rows. rows.now) CANDIDATES
