-- Scripts, by the program that their first line names: "#!" and words, of which the first is the path of a program. It
-- is this one, or `env`, which finds the program that a later word names.
use Rattle.std.specs.Prelude.{◌≡◌, ◌≢◌, ℕ, ◌+◌, ◌-◌, ◌<◌, ◌≤◌, ◌⊎◌, List, length, codes, slice_index, slice_range, IsTrue, ◌↔◌}
use Rattle.memchr.specs.Find.{OccursAt}
use Rattle.infer_formats.specs.Runs.{IsAfterLast, IsRun}
use Rattle.infer_formats.specs.declared.script.Word.{Word}

-- a space or a tab stands between words
abbrev pub IsBlank : ℕ → Type 0
IsBlank x = (x ≡ 0x20) ⊎ (x ≡ 0x09)

-- 0A or 0D ends the line
abbrev pub IsLineEnd : ℕ → Type 0
IsLineEnd x = (x ≡ 0x0A) ⊎ (x ≡ 0x0D)

-- any other byte is one of a word
abbrev pub IsWordByte : ℕ → Type 0
IsWordByte x = (x ≢ 0x20) × (x ≢ 0x09) × (x ≢ 0x0A) × (x ≢ 0x0D)

-- from `from` up to `to` stands a word of the first line, whole: a byte comes after it. The line begins at 2
pub record IsWord (b : List ℕ) (from to : ℕ) : Type 0 where
  pub low : 2 ≤ from
  pub line : (k : ℕ) → 2 ≤ k → k < from → ¬ IsLineEnd (slice_index b k)
  pub begins : 2 < from → IsBlank (slice_index b (from - 1))
  pub some : from < to
  pub run : IsRun IsWordByte b from to

-- it is the first word from `place` on that has the property
pub record IsNextWord (b : List ℕ) (Has : ℕ → ℕ → Type 0) (place from to : ℕ) : Type 0 where
  pub word : IsWord b from to
  pub low : place ≤ from
  pub has : Has from to
  pub before : (p q : ℕ) → place ≤ p → p < from → IsWord b p q → ¬ Has p q

-- its name stands from `at` on, which is what follows its last "/", or all of it
abbrev pub IsNameOf : List ℕ → ℕ → ℕ → ℕ → Type 0
IsNameOf b from to at = IsAfterLast 0x2F b from to at

-- its name is "env"
abbrev pub IsEnv : List ℕ → ℕ → ℕ → Type 0
IsEnv b from to = (at : ℕ) × IsNameOf b from to at × OccursAt b (codes "env") at × (at + 3 ≡ to)

-- "=" stands in it
abbrev pub HasEquals : List ℕ → ℕ → ℕ → Type 0
HasEquals b from to = (k : ℕ) × (from ≤ k) × (k < to) × (slice_index b k ≡ 0x3D)

-- what is told of a word is true: where its name begins, and whether it has "="
abbrev pub IsRead : List ℕ → Word → Type 0
IsRead b w = IsNameOf b w.from w.to w.name × (IsTrue w.has_equals ↔ HasEquals b w.from w.to)

-- from `from` up to `at` stands a folder, or nothing: bytes of a word without "=", of which the last is "/"
pub record IsFolder (b : List ℕ) (from at : ℕ) : Type 0 where
  pub low : from ≤ at
  pub high : at ≤ length b
  pub bytes : (k : ℕ) → from ≤ k → k < at → IsWordByte (slice_index b k) × (slice_index b k ≢ 0x3D)
  pub ends : from < at → slice_index b (at - 1) ≡ 0x2F

-- `env` takes it for itself: it begins with "-", or has "="
abbrev pub IsSetting : List ℕ → ℕ → ℕ → Type 0
IsSetting b from to = (slice_index b from ≡ 0x2D) ⊎ HasEquals b from to

-- the first word of the line
abbrev pub IsFirstWord : List ℕ → ℕ → ℕ → Type 0
IsFirstWord b from to = IsNextWord b (λ p q. Unit {0}) 2 from to

-- the first word names the program; or it is `env`, and the next that it does not take for itself does
abbrev pub NamesProgram : List ℕ → ℕ → ℕ → Type 0
NamesProgram b from to =
    (IsFirstWord b from to × (¬ IsEnv b from to))
    ⊎ ((p q : ℕ) × IsFirstWord b p q × IsEnv b p q × IsNextWord b (λ i j. ¬ IsSetting b i j) q from to)

-- a digit or a dot, as in the number of a version
abbrev pub IsVersionByte : ℕ → Type 0
IsVersionByte x = ((0x30 ≤ x) × (x ≤ 0x39)) ⊎ (x ≡ 0x2E)

-- without the digits and dots at its end, the name from `at` up to `to` ends at `end`
pub record EndsBare (b : List ℕ) (at to end : ℕ) : Type 0 where
  pub low : at ≤ end
  pub high : end ≤ to
  pub dropped : (k : ℕ) → end ≤ k → k < to → IsVersionByte (slice_index b k)
  pub kept : at < end → ¬ IsVersionByte (slice_index b (end - 1))

-- the name of the program stands from `at` up to `end`
pub record IsProgramAt (b : List ℕ) (at end : ℕ) : Type 0 where
  pub from : ℕ
  pub to : ℕ
  pub word : NamesProgram b from to
  pub name : IsNameOf b from to at
  pub bare : EndsBare b at to end

-- b begins with "#!", and its first line names this program
abbrev pub IsProgram : List ℕ → List ℕ → Type 0
IsProgram name b = OccursAt b (codes "#!") 0 × ((at end : ℕ) × IsProgramAt b at end × (name ≡ slice_range b at end))

-- a byte of a program's name is one of a word, and no "/"
abbrev pub IsNameByte : ℕ → Type 0
IsNameByte x = IsWordByte x × (x ≢ 0x2F)
