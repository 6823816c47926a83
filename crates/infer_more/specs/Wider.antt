-- The wider answer of a buffer.
use Rattle.std.specs.Prelude.{◌≡◌, ◌+◌, ◌-◌, ◌<◌, ◌⊎◌, ℕ, List, ◌++◌, Option, None, Some, MatchBool, MatchOption, if◌then◌else◌, length, map, nat_lt, slice_get}
use Rattle.std.specs.Option.{option_map_or}
use Rattle.std.specs.List.{HoldsAt}
use Rattle.infer.specs.Buffer.{IsBuffer}
use Rattle.infer.specs.First.{IsFirstOf, SomeHas}
use Rattle.infer.specs.Questions.{HasExtension, HasMimeType}
use Rattle.infer.specs.Row.{Accepts}
use Rattle.infer.specs.Table as built_in
use Rattle.infer.specs.Triple.{Triple}
use Rattle.infer.specs.Walks.{RowHas}
use Rattle.infer.specs.declared.table.rows.TheConstants.{ROW_COUNT}
use Rattle.infer_more.specs.Row.{Further}
use Rattle.infer_notation.specs.Alternative.{Accepted}
use Rattle.infer_more.specs.Table.{further}

-- the further row has this parent, and its signature accepts the buffer
abbrev pub Widens : Option ℕ → List ℕ → Further → Type 0
Widens parent b r = (r.parent ≡ parent) × Accepted r.signature b

-- no further row does, whatever the buffer is
abbrev pub IsWidest : Option ℕ → Type 0
IsWidest parent = (b : List ℕ) → IsBuffer b → IsFirstOf (Widens parent b) further None

-- the further row of that number, counted among the further ones, does so
abbrev pub WidensAt : Option ℕ → List ℕ → ℕ → Type 0
WidensAt parent b i = (i < length further) × HoldsAt (Widens parent b) further i

-- the number of the first further row that does, which goes on from the built-in ones, or else the parent's
abbrev pub wider : Option ℕ → Option ℕ → Option ℕ
wider parent None = parent
wider parent (Some i) = Some (ROW_COUNT + i)

-- the number of the wider answer of a buffer whose built-in answer is the parent
abbrev pub IsWidened : Option ℕ → List ℕ → Option ℕ → Type 0
IsWidened parent b o = (found : Option ℕ) × IsFirstOf (Widens parent b) further found × (o ≡ wider parent found)

-- Let p be the built-in answer of the buffer, or none. The wider answer is the first further row, in order, whose parent
-- is p and whose signature accepts the buffer. If there is none, it is p.
pub record IsWider (b : List ℕ) (o : Option ℕ) : Type 0 where
  pub parent : Option ℕ
  pub found : Option ℕ
  pub answers : IsFirstOf (Accepts b) built_in.table parent
  pub widens : IsFirstOf (Widens parent b) further found
  pub is : o ≡ wider parent found

-- what all rows show: the built-in ones, and then the further ones
unfoldable pub shown : List Triple
shown = map (λ r. r.shows) built_in.table ++ map (λ r. r.shows) further

-- what row i shows, if it is there
abbrev pub shown_at : Option ℕ → Option Triple
shown_at None = None
shown_at (Some i) = slice_get shown i

-- the triple is that of the wider answer, and none exactly if that is none
pub record IsWiderAnswer (b : List ℕ) (t : Option Triple) : Type 0 where
  pub number : Option ℕ
  pub is_wider : IsWider b number
  pub is_shown : t ≡ shown_at number

-- the number of the parent of row i, if it is a further row that has one
abbrev pub parent_at : ℕ → Option ℕ
parent_at i = if nat_lt i ROW_COUNT then None else option_map_or (λ r. r.parent) (slice_get further (i - ROW_COUNT)) None

-- the signature of row i accepts the buffer, whatever its parent does
abbrev pub AcceptsAt : List ℕ → ℕ → Type 0
AcceptsAt b i =
    MatchBool (nat_lt i ROW_COUNT) (RowHas (Accepts b) i) (MatchOption (slice_get further (i - ROW_COUNT)) ⊥ (λ r. Accepted r.signature b))

-- some row, built-in or further, shows this extension, or this MIME type
abbrev pub ShowsExtension : List ℕ → Type 0
ShowsExtension text = SomeHas (HasExtension text) built_in.table ⊎ SomeHas (λ r. r.shows.extension ≡ text) further

abbrev pub ShowsMimeType : List ℕ → Type 0
ShowsMimeType text = SomeHas (HasMimeType text) built_in.table ⊎ SomeHas (λ r. r.shows.mime_type ≡ text) further
