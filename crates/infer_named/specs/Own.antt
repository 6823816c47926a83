-- What the types of a text, a name and bytes tell. The types of the text win, whatever the name is.
use Rattle.std.specs.Prelude.{ℕ, List, None, Some}
use Rattle.infer_more.specs.Line.{Row}
use Rattle.infer_more.specs.Text.{IsOwnAnswer, found_shows}
use Rattle.infer_named.specs.Named.{IsNamed}
use Rattle.infer_named.specs.declared.with_own_types.NamedBy.{NamedBy}
use Rattle.infer_named.specs.declared.with_own_types.NamedBy.TheVariants.{Named, Own}

-- the first row of the text that accepts the buffer, and else what the name and the buffer tell
abbrev pub IsNamedBy : List Row → (name b : List ℕ) → NamedBy → Type 0
IsNamedBy rows name b (Own found) = IsOwnAnswer rows b (Some (found_shows found))
IsNamedBy rows name b (Named n) = IsOwnAnswer rows b None × IsNamed name b n
