-- What was written into a buffer.
use Rattle.std.specs.Prelude.{◌≡◌, ◌+◌, ◌-◌, ◌<◌, ◌≤◌, ℕ, List, ◌++◌, Option, None, Some, Result, Ok, Err, drop, length, take}
use Rattle.mime_types.specs.Mime.{Mime}
use Rattle.mime_types.specs.Segment.{written}
use Rattle.mime_types.specs.Serialize.{serialize}
use Rattle.mime_types.specs.declared.write.WriteError.{WriteError}
use Rattle.mime_types.specs.declared.write.WriteError.TheVariants.{NoRoom, TooManyParameters}

-- the buffer with the text from a place on, as far as there is room. What stands before it and after it stays
abbrev pub overlaid : List ℕ → ℕ → List ℕ → List ℕ
overlaid old at text = take at old ++ (take (length old - at) text ++ drop (at + length text) old)

-- the text stands from a place on, up to the end; or there is no room for all of it
abbrev pub Wrote : List ℕ → List ℕ → ℕ → List ℕ → Option ℕ → Type 0
Wrote old new at text None = (length old < at + length text) × (new ≡ overlaid old at text)
Wrote old new at text (Some end) = (end ≡ at + length text) × (end ≤ length old) × (new ≡ overlaid old at text)

-- no more than so many parameters are written after a subtype, of which those that do not count are some
abbrev pub HasFew : ℕ → List ℕ → Type 0
HasFew most tail = length (written tail) ≤ most

-- the whole text of what is said, with this after the subtype, stands at the start of the buffer; or why it does not
abbrev pub IsWritten : ℕ → List ℕ → Mime → List ℕ → List ℕ → Result ℕ WriteError → Type 0
IsWritten most tail m old new (Ok n) = HasFew most tail × Wrote old new 0 (serialize m) (Some n)
IsWritten most tail m old new (Err NoRoom) = HasFew most tail × Wrote old new 0 (serialize m) None
IsWritten most tail m old new (Err TooManyParameters) = (¬ HasFew most tail) × (new ≡ old)
