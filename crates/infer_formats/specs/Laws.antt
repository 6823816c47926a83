-- Laws of the relations.
use Rattle.std.specs.Prelude.{IsTrue, ◌≡◌, ◌⊎◌, ℕ, ◌+◌, ◌<◌, ◌≤◌, List, [], ◌∷◌, ◌++◌, slice_index}
use Rattle.memchr.specs.Find.{OccursAt}
use Rattle.infer_deep.specs.Signatures.{Lasts}
use Rattle.infer_formats.specs.FirstKey.{HasFirstKey, HasFirstKeyWith}
use Rattle.infer_formats.specs.Json.{CanBe, IsBlank, IsJson, IsJsonLines, blanks, text}
use Rattle.infer_formats.specs.JsonStates.{IsBracket}
use Rattle.infer_formats.specs.Markup.{BeginsElement, HasRoot, HasRootWith, IsRootElement, IsXmlSpace, utf8_mark}
use Rattle.infer_formats.specs.Relation.{Fits, HasLines, Relation, is_lasting}
use Rattle.infer_formats.specs.Script.{IsProgram}
use Rattle.infer_formats.specs.Text.{IsBinary}

-- what a buffer has it has however it goes on: a relation that lasts, and a byte of binary data
pub record Growth : Type 0 where
  pub relation : (r : Relation) → IsTrue (is_lasting r) → Lasts (Fits r)
  pub binary : Lasts IsBinary

-- from p on stands white space, perhaps none, and then "<"
abbrev pub StartsAfterSpace : List ℕ → ℕ → Type 0
StartsAfterSpace b p = (k : ℕ) × (p ≤ k) × ((j : ℕ) → p ≤ j → j < k → IsXmlSpace (slice_index b j)) × (slice_index b k ≡ 0x3C)

-- b begins with a byte order mark, or with white space, perhaps none, and then "<"
abbrev pub BeginsMarkup : List ℕ → Type 0
BeginsMarkup b = OccursAt b utf8_mark 0 ⊎ StartsAfterSpace b 0

-- "<" stands in b, and neither "!" nor "?" after it
abbrev pub StartsElement : List ℕ → Type 0
StartsElement b = (k : ℕ) × (slice_index b k ≡ 0x3C) × BeginsElement (slice_index b (k + 1))

-- white space stands first, perhaps none, and then the bracket of an array or of an object
abbrev pub BeginsAfterBlanks : List ℕ → Type 0
BeginsAfterBlanks b = (k : ℕ) × ((j : ℕ) → j < k → IsBlank (slice_index b j)) × IsBracket (slice_index b k)

-- b begins with a byte order mark, or so
abbrev pub BeginsJson : List ℕ → Type 0
BeginsJson b = OccursAt b utf8_mark 0 ⊎ BeginsAfterBlanks b

-- such a bracket stands in b
abbrev pub HasBracket : List ℕ → Type 0
HasBracket b = (k : ℕ) × IsBracket (slice_index b k)

-- with what a buffer begins that has a root, and that an element starts in it; one with a text in the tag has the root;
-- with what JSON begins, and that it has a bracket, as an object has with its first key; and with what bytes a buffer that fits a relation
pub record Leads : Type 0 where
  pub root : (name b : List ℕ) → HasRoot name b → BeginsMarkup b
  pub element : (name b : List ℕ) → HasRoot name b → StartsElement b
  pub json : (b : List ℕ) → IsJson b → BeginsJson b × HasBracket b
  pub json_lines : (b : List ℕ) → IsJsonLines b → BeginsJson b × HasBracket b
  pub key : (k b : List ℕ) → HasFirstKey k b → HasBracket b
  pub value : (k v b : List ℕ) → HasFirstKeyWith k v b → HasBracket b
  pub root_with : (name text b : List ℕ) → HasRootWith name text b → HasRoot name b
  pub outline : (r : Relation) (b : List ℕ) → HasLines r b

-- a script names one program, and markup has one root element; and no bytes make one text of JSON of what has "]", a line
-- end and "[" in it
pub record Single : Type 0 where
  pub program : (b n m : List ℕ) → IsProgram n b → IsProgram m b → n ≡ m
  pub root : (b n rest m other : List ℕ) → IsRootElement n rest b → IsRootElement m other b → (n ≡ m) × (rest ≡ other)
  pub json : (front more : List ℕ) → ¬ CanBe (blanks ∷ text ∷ blanks ∷ []) (front ++ 0x5D ∷ 0x0A ∷ 0x5B ∷ more)
