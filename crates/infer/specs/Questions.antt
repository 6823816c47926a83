-- What a question asks for.
use Rattle.std.specs.Prelude.{◌≡◌, ℕ, List}
use Rattle.infer.specs.First.{SomeHas}
use Rattle.infer.specs.Row.{Row}
use Rattle.infer.specs.Triple.{Triple}
use Rattle.infer.specs.declared.table.file_type.MatcherType.{MatcherType}

-- some element has both properties
abbrev pub SomeBoth : {A : Type 0} → (A → Type 0) → (A → Type 0) → List A → Type 0
SomeBoth P Q xs = SomeHas (λ x. P x × Q x) xs

module _ {S : Type 0} where
  -- the row has this extension, MIME type or class
  abbrev pub HasExtension : List ℕ → Row S → Type 0
  HasExtension text r = r.shows.extension ≡ text

  abbrev pub HasMimeType : List ℕ → Row S → Type 0
  HasMimeType text r = r.shows.mime_type ≡ text

  abbrev pub HasClass : MatcherType → Row S → Type 0
  HasClass class r = r.shows.class ≡ class

  -- the row is one that is asked for: what it shows has the property that a question asks for
  abbrev pub IsAsked : (Triple → Type 0) → Row S → Type 0
  IsAsked asked r = asked r.shows
