-- What crosses to C: rows and classes as numbers.
use Rattle.std.specs.Prelude.{◌≡◌, ℕ, ℤ, pos, negsuc, List, Option, None, Some}
use Rattle.std.specs.List.{slice_get}
use Rattle.infer.specs.Decided.{MayBecomeRow}
use Rattle.infer.specs.Triple.{Triple}
use Rattle.infer.specs.Walks.{RowHas}
use Rattle.infer.specs.declared.table.file_type.MatcherType.{MatcherType}
use Rattle.infer.specs.declared.table.file_type.MatcherType.TheVariants.{App, Archive, Audio, Book, Doc, Font, Image, Text, Video, Custom}
use Rattle.infer_more.specs.Samples.{HasAnswer, HasNoSample, sample_at}
use Rattle.infer_more.specs.Wider as wider
use Rattle.infer_more.specs.Wider.{shown}

-- the number of a row, and -1 for none
abbrev pub row_code : Option ℕ → ℤ
row_code (Some i) = pos i
row_code None = negsuc 0

-- the triple of the row with this number, built-in or further, if there is one
abbrev pub triple_at : ℤ → Option Triple
triple_at (pos i) = slice_get shown i
triple_at (negsuc i) = None

-- there is a row with this number, built-in or further, and its signature accepts the buffer
abbrev pub AcceptsAt : List ℕ → ℤ → Type 0
AcceptsAt b (pos i) = wider.AcceptsAt b i
AcceptsAt b (negsuc i) = ⊥

-- there is a built-in row with this number, and some bytes after the buffer make it accept
abbrev pub MayBecomeAt : List ℕ → ℤ → Type 0
MayBecomeAt b (pos i) = RowHas (MayBecomeRow b) i
MayBecomeAt b (negsuc i) = ⊥

-- the sample of row i, built-in or further, and none if it has none
abbrev pub IsSample : ℕ → Option (List ℕ) → Type 0
IsSample i (Some sample) = (sample_at i ≡ Some sample) × HasAnswer i sample
IsSample i None = HasNoSample i

-- the sample of the row with this number, and none if it is no number of a row
abbrev pub IsSampleOf : ℤ → Option (List ℕ) → Type 0
IsSampleOf (pos i) sample = IsSample i sample
IsSampleOf (negsuc i) sample = sample ≡ None

-- the number of a class
abbrev pub class_code : MatcherType → ℤ
class_code App = pos 0
class_code Archive = pos 1
class_code Audio = pos 2
class_code Book = pos 3
class_code Doc = pos 4
class_code Font = pos 5
class_code Image = pos 6
class_code Text = pos 7
class_code Video = pos 8
class_code Custom = pos 9

-- the class with this number, and none if no class has it
abbrev pub IsClassOf : ℤ → Option MatcherType → Type 0
IsClassOf code (Some class) = class_code class ≡ code
IsClassOf code None = (class : MatcherType) → ¬ (class_code class ≡ code)
