-- A sample of each row: a short buffer that has it as its answer.
use Rattle.std.specs.Prelude.{◌≡◌, ◌+◌, ◌-◌, ◌<◌, ◌≤◌, ◌⊎◌, ◌==◌, ◌&&◌, ◌||◌, ℕ, Bool, false, List, [], ◌++◌, MatchBool, MatchOption, Option, None, Some, codes, if◌then◌else◌, length, max, nat_le, nat_lt, option_and_then, option_map, slice_get, unwrap_or}
use Rattle.std.specs.List.{HoldsAt, list_all}
use Rattle.std.specs.Option.{option_map_or}
use Rattle.infer_formats.specs.Relation as relation
use Rattle.infer_formats.specs.Relation.{least_of}
use Rattle.infer_sig.specs.Signature as fixed
use Rattle.infer_sig.specs.Signature.{Part, at_least}
use Rattle.infer.specs.First.{IsFirst}
use Rattle.infer.specs.Row.{Accepts}
use Rattle.infer.specs.Samples.{sample_of, with_parts, zeros}
use Rattle.infer.specs.Table as built_in
use Rattle.infer.specs.declared.table.rows.TheConstants.{DLL, EPUB_ARCHIVE, HTML, ROW_COUNT, XML}
use Rattle.infer_more.specs.Row.{Further, is_inside}
use Rattle.infer_notation.specs.Alternative.{Alternative, binary_bytes, bytes, related}
use Rattle.infer_more.specs.Table.{further}
use Rattle.infer_more.specs.Wider.{IsWider}
use Rattle.infer_more.specs.declared.samples.TheConstants.{SAMPLE_SIZE}

-- the sample of built-in row i, and none if there is no such row or it is first for no buffer
abbrev pub built_in_sample : ℕ → Option (List ℕ)
built_in_sample i = if i == DLL || i == EPUB_ARCHIVE then None else option_map (λ r. sample_of r.signature) (slice_get built_in.table i)

-- the sample of the parent, and the empty one without a parent
abbrev pub parent_sample : Option ℕ → List ℕ
parent_sample None = []
parent_sample (Some parent) = unwrap_or (built_in_sample parent) []

-- what stands before the root element of a sample, so that the parent is its built-in answer
abbrev pub prolog : Option ℕ → List ℕ
prolog None = []
prolog (Some parent) = if parent == XML then codes "<?xml?>" else (if parent == HTML then codes "<!-- -->" else [])

-- a short buffer that fits the alternative, as bytes at fixed places with zeros between them. A root element stands after
-- the text that is before it
abbrev pub model : List ℕ → Alternative → fixed.Alternative
model before (bytes a) = a
model before (binary_bytes a) = a
model before (related r) = relation.model before r

-- the parts of an alternative
abbrev pub parts_of : fixed.Alternative → List Part
parts_of (at_least least parts) = parts

-- the model of a row: that of its first alternative
abbrev pub row_model : Further → Option fixed.Alternative
row_model r = option_map (model (prolog r.parent)) (slice_get r.signature 0)

-- the buffer with zeros after it up to the least length, and what the parts ask for written over all of it
abbrev pub joined_sample : List ℕ → fixed.Alternative → List ℕ
joined_sample front a = with_parts (parts_of a) (front ++ zeros (least_of a - length front))

-- the sample of a further row: the sample of its parent, and over it the row's model
abbrev pub further_sample : Further → Option (List ℕ)
further_sample r = option_map (joined_sample (parent_sample r.parent)) (row_model r)

-- the sample of row i, built-in or further
abbrev pub sample_at : ℕ → Option (List ℕ)
sample_at i = if nat_lt i ROW_COUNT then built_in_sample i else option_and_then further_sample (slice_get further (i - ROW_COUNT))

-- row i has none: it is one of two that are first for no buffer, or there is no such row
abbrev pub HasNoSample : ℕ → Type 0
HasNoSample i = (i ≡ DLL) ⊎ (i ≡ EPUB_ARCHIVE) ⊎ (ROW_COUNT + length further ≤ i)

-- the sample with zeros after it, and what was there before if there is no sample
abbrev pub written : Option (List ℕ) → List ℕ → List ℕ
written None old = old
written (Some s) old = s ++ zeros (SAMPLE_SIZE - length s)

-- the buffer has row i as its answer, and for a further row as its wider answer
abbrev pub HasAnswer : ℕ → List ℕ → Type 0
HasAnswer i b = MatchBool (nat_lt i ROW_COUNT) (IsFirst (Accepts b) built_in.table i) (IsWider b (Some i))

-- what the alternative asks is inside the sample, and this is not too long
abbrev pub has_room_after : ℕ → fixed.Alternative → Bool
has_room_after n a = nat_le (max n (least_of a)) SAMPLE_SIZE && list_all (is_inside (max n (least_of a))) (parts_of a)

-- the row has a sample, with room for what its model asks
abbrev pub has_room : Further → Bool
has_room r = option_map_or (has_room_after (length (parent_sample r.parent))) (row_model r) false

-- the row has a sample, whose wider answer is row i
abbrev pub Reaches : ℕ → Further → Type 0
Reaches i r = MatchOption (further_sample r) ⊥ (λ s. IsWider s (Some (ROW_COUNT + i)))

abbrev pub AllReach : Type 0
AllReach = (i : ℕ) → i < length further → HoldsAt (Reaches i) further i
