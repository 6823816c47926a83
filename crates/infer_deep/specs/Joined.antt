-- A buffer that begins with some words of one kind, as frames or marks.
use Rattle.std.specs.Prelude.{◌≡◌, ℕ, List, ◌++◌}
use Rattle.std.specs.List.{AllByRecursion, concat}

-- b is some words of the kind P joined, perhaps none, and then the rest
pub record SkipsTo (P : List ℕ → Type 0) (b rest : List ℕ) : Type 0 where
  pub words : List (List ℕ)
  pub each : AllByRecursion P words
  pub whole : b ≡ concat words ++ rest

-- b is one word of the kind P, and then the rest
pub record BeginsWith (P : List ℕ → Type 0) (b rest : List ℕ) : Type 0 where
  pub word : List ℕ
  pub kind : P word
  pub whole : b ≡ word ++ rest

-- b begins with no word of the kind P
abbrev pub NoneBegins : (List ℕ → Type 0) → List ℕ → Type 0
NoneBegins P b = (word rest : List ℕ) → P word → ¬ (b ≡ word ++ rest)

-- b is some words of the kind P joined, and then c: what can follow P's words in c can follow them in b
abbrev pub LeadsTo : (List ℕ → Type 0) → List ℕ → List ℕ → Type 0
LeadsTo P b c = (rest : List ℕ) → SkipsTo P c rest → SkipsTo P b rest

-- b is some words of the kind P joined, perhaps none, and then a buffer with the property S
abbrev pub After : (List ℕ → Type 0) → (List ℕ → Type 0) → List ℕ → Type 0
After P S b = (rest : List ℕ) × SkipsTo P b rest × S rest
