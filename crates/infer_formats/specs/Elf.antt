-- ELF files, by their program headers.
use Rattle.std.specs.Prelude.{◌≡◌, ℕ, ◌+◌, ◌*◌, ◌<◌, ◌≤◌, ◌⊎◌, Bool, List, length, slice_index, if◌then◌else◌}
use Rattle.infer_deep.specs.Open.{AgreesAt}
use Rattle.infer_formats.specs.Numbers.{bytes16, number16, number32, number64}

-- where the table of program headers is, and how many it has: the class of 32 bits, and that of 64
abbrev pub table_place : Bool → Bool → List ℕ → ℕ
table_place wide big b = if wide then number64 big b 32 else number32 big b 28

abbrev pub entry_size : Bool → Bool → List ℕ → ℕ
entry_size wide big b = if wide then number16 big b 54 else number16 big b 42

abbrev pub entry_count : Bool → Bool → List ℕ → ℕ
entry_count wide big b = if wide then number16 big b 56 else number16 big b 44

-- the size of an entry, and the length of the header up to the count
abbrev pub known_size : Bool → ℕ
known_size wide = if wide then 56 else 32

abbrev pub counted_length : Bool → ℕ
counted_length wide = if wide then 58 else 46

-- an entry asks for an interpreter
abbrev pub AsksAt : Bool → List ℕ → ℕ → Type 0
AsksAt big b p = number32 big b p ≡ 3

-- b is of the kind of shared objects; its table has entries, which lie in b, and none of them asks for an interpreter
pub record HasOwnTable (wide big : Bool) (b : List ℕ) : Type 0 where
  pub long : counted_length wide ≤ length b
  pub kind : number16 big b 16 ≡ 3
  pub size : entry_size wide big b ≡ known_size wide
  pub some : 1 ≤ entry_count wide big b
  pub whole : table_place wide big b + entry_count wide big b * known_size wide ≤ length b
  pub alone : (i : ℕ) → i < entry_count wide big b → ¬ AsksAt big b (table_place wide big b + i * known_size wide)

-- the bytes at 4 and 5 say the class and the order
abbrev pub IsSharedObject : List ℕ → Type 0
IsSharedObject b =
    (wide big : Bool)
    × (slice_index b 4 ≡ (if wide then 2 else 1)) × (slice_index b 5 ≡ (if big then 2 else 1)) × HasOwnTable wide big b

-- where the size of an entry stands
abbrev pub size_at : Bool → ℕ
size_at wide = if wide then 54 else 42

-- of n entries from `start` on, none that b has the kind of asks for an interpreter
abbrev pub NoneKnownAsks : Bool → List ℕ → ℕ → ℕ → ℕ → Type 0
NoneKnownAsks big b start n size =
    (i : ℕ) → i < n → start + i * size + 4 ≤ length b → ¬ AsksAt big b (start + i * size)

-- as far as b goes, it may have such a table
pub record MayHaveOwnTable (wide big : Bool) (b : List ℕ) : Type 0 where
  pub kind : AgreesAt b (bytes16 big 3) 16
  pub size : AgreesAt b (bytes16 big (known_size wide)) (size_at wide)
  pub alone : counted_length wide ≤ length b
      → (1 ≤ entry_count wide big b) × NoneKnownAsks big b (table_place wide big b) (entry_count wide big b) (known_size wide)

-- b ends before it says its class and its order, or may have such a table
abbrev pub MayBeSharedObject : List ℕ → Type 0
MayBeSharedObject b =
    (length b ≤ 5)
    ⊎ ((wide big : Bool) × (slice_index b 4 ≡ (if wide then 2 else 1)) × (slice_index b 5 ≡ (if big then 2 else 1)) × MayHaveOwnTable wide big b)
