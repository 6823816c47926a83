-- JSON objects by their first key.
use Rattle.std.specs.Prelude.{◌≡◌, ◌⊎◌, ◌==◌, ℕ, IsTrue, Bool, not, List, [], ◌∷◌, ◌++◌}
use Rattle.std.specs.List.{list_all}
use Rattle.infer_formats.specs.Json.{IsBlank, UpToMark}

-- s is white space, perhaps none, then the text, and then what is left
abbrev pub StandsNext : List ℕ → List ℕ → List ℕ → Type 0
StandsNext t [] left = [] ≡ t ++ left
StandsNext t (x ∷ s) left = (x ∷ s ≡ t ++ left) ⊎ (IsBlank x × StandsNext t s left)

-- the text between quotes
abbrev pub in_quotes : List ℕ → List ℕ
in_quotes t = 0x22 ∷ (t ++ 0x22 ∷ [])

-- an object begins w, whose first key is k; after the colon stands what is left
abbrev pub BeginsByKey : List ℕ → List ℕ → List ℕ → Type 0
BeginsByKey k w left =
    (inside after : List ℕ) × StandsNext (0x7B ∷ []) w inside × StandsNext (in_quotes k) inside after × StandsNext (0x3A ∷ []) after left

-- and the text v is its value, or such a text begins there
abbrev pub BeginsByValue : List ℕ → List ℕ → List ℕ → Type 0
BeginsByValue k v w = (value left : List ℕ) × BeginsByKey k w value × StandsNext (in_quotes v) value left

-- after a byte order mark, if there is one, an object begins whose first key is k
abbrev pub HasFirstKey : List ℕ → List ℕ → Type 0
HasFirstKey k = UpToMark (λ w. (left : List ℕ) × BeginsByKey k w left)

-- and the text v is the value
abbrev pub HasFirstKeyWith : List ℕ → List ℕ → List ℕ → Type 0
HasFirstKeyWith k v = UpToMark (BeginsByValue k v)

-- white space stands first in b, perhaps none, and then the byte
abbrev pub StandsFirst : ℕ → List ℕ → Type 0
StandsFirst x b = (left : List ℕ) × StandsNext (x ∷ []) b left

-- no quote stands in the text
abbrev pub has_no_quote : List ℕ → Bool
has_no_quote t = list_all (λ x. not (x == 0x22)) t

-- s is the text, in which no quote stands, then a quote, and then what is left
abbrev pub EndsInQuote : List ℕ → List ℕ → List ℕ → Type 0
EndsInQuote t left s = IsTrue (has_no_quote t) × (s ≡ t ++ 0x22 ∷ left)

-- after a byte order mark, if there is one, an object begins b, and k, in which no quote stands, is its first key; after
-- the colon stands what is left
abbrev pub IsFirstKey : List ℕ → List ℕ → List ℕ → Type 0
IsFirstKey k left b = IsTrue (has_no_quote k) × UpToMark (λ w. BeginsByKey k w left) b

-- and the text is the value there, or such a text begins there
abbrev pub HasValue : List ℕ → List ℕ → Type 0
HasValue v value = (left : List ℕ) × StandsNext (in_quotes v) value left
