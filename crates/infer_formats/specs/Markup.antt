-- Markup, by its root element: the first element, after a prolog of white space, processing instructions, comments and
-- at most one document type declaration.
use Rattle.std.specs.Prelude.{◌≡◌, ◌≢◌, ◌↔◌, ℕ, ◌+◌, ◌-◌, ◌<◌, ◌≤◌, ◌⊎◌, All, Bool, IsTrue, List, [], ◌∷◌, ◌++◌, length, codes, drop, slice_index, slice_range, Option, None, Some, MatchOption}
use Rattle.memchr.specs.Find.{OccursAt}
use Rattle.infer_deep.specs.Open.{AgreesAt}
use Rattle.infer_deep.specs.Places.{IsFirstPlace}
use Rattle.infer_formats.specs.Runs.{IsAfterLast, IsRun}
use Rattle.infer_formats.specs.declared.markup.Root.{Root}

-- white space, of which XML has no 0C
abbrev pub IsXmlSpace : ℕ → Type 0
IsXmlSpace x = (x ≡ 0x09) ⊎ (x ≡ 0x0A) ⊎ (x ≡ 0x0D) ⊎ (x ≡ 0x20)

-- what is neither white space, ">" nor "/" is a byte of an element's name
abbrev pub IsNameByte : ℕ → Type 0
IsNameByte x = (¬ IsXmlSpace x) × (x ≢ 0x3E) × (x ≢ 0x2F)

-- white space, ">" and "[" end the name of a document type
abbrev pub EndsType : ℕ → Type 0
EndsType x = IsXmlSpace x ⊎ (x ≡ 0x3E) ⊎ (x ≡ 0x5B)

-- from p up to q stands white space, at least a byte of it, and all that stands there
abbrev pub IsSpaceRun : List ℕ → ℕ → ℕ → Type 0
IsSpaceRun b p q = (p < q) × IsRun IsXmlSpace b p q

-- from p up to q stands `opening`, then all before the first `closing` that comes after it, and that
abbrev pub IsEnclosed : List ℕ → List ℕ → List ℕ → ℕ → ℕ → Type 0
IsEnclosed b opening closing p q =
    OccursAt b opening p
    × ((e : ℕ) × IsFirstPlace OccursAt b closing (p + length opening) (length b) e × (q ≡ e + length closing))

-- from p up to q stands white space, a processing instruction or a comment
abbrev pub IsMisc : List ℕ → ℕ → ℕ → Type 0
IsMisc b p q =
    IsSpaceRun b p q ⊎ IsEnclosed b (codes "<?") (codes "?>") p q ⊎ IsEnclosed b (codes "<!--") (codes "-->") p q

-- neither ">" nor "["
abbrev pub IsPlainByte : ℕ → Type 0
IsPlainByte x = (x ≢ 0x3E) × (x ≢ 0x5B)

-- from p up to q stands what has an end of its own: a text in quotes, a processing instruction or a comment
abbrev pub IsSealed : List ℕ → ℕ → ℕ → Type 0
IsSealed b p q =
    IsEnclosed b (codes "\"") (codes "\"") p q ⊎ IsEnclosed b (codes "'") (codes "'") p q
    ⊎ IsEnclosed b (codes "<?") (codes "?>") p q ⊎ IsEnclosed b (codes "<!--") (codes "-->") p q

-- one of these begins at p
abbrev pub OpensSeal : List ℕ → ℕ → Type 0
OpensSeal b p = OccursAt b (codes "\"") p ⊎ OccursAt b (codes "'") p ⊎ OccursAt b (codes "<?") p ⊎ OccursAt b (codes "<!--") p

-- r is what follows on the byte at p, or on what begins by it and has an end of its own; none if that does not end
abbrev pub IsPastPiece : List ℕ → ℕ → Option ℕ → Type 0
IsPastPiece b p r =
    MatchOption r (OpensSeal b p × ((q : ℕ) → ¬ IsSealed b p q)) (λ q. IsSealed b p q ⊎ ((¬ OpensSeal b p) × (q ≡ p + 1)))

-- an internal subset goes on from p up to the "]" at `end`, the first that stands in none of these
pub data EndsSubset (b : List ℕ) (end : ℕ) : ℕ → Type 0 where
  ends_here : slice_index b end ≡ 0x5D → EndsSubset b end end
  past_sealed : (p q : ℕ) → IsSealed b p q → EndsSubset b end q → EndsSubset b end p
  past_byte : (p : ℕ) → (¬ OpensSeal b p) → (slice_index b p ≢ 0x5D) → EndsSubset b end (p + 1) → EndsSubset b end p

-- the first ">" from `from` on is at `close`, and no "[" stands before it
abbrev pub ClosesPlain : List ℕ → ℕ → ℕ → Type 0
ClosesPlain b from close = IsRun IsPlainByte b from close × (slice_index b close ≡ 0x3E)

-- after the "[" at `bracket` an internal subset goes on up to a "]", and after that white space, perhaps none, up to the ">" at
-- `close`
abbrev pub ClosesAfter : List ℕ → ℕ → ℕ → Type 0
ClosesAfter b bracket close =
    (end : ℕ) × EndsSubset b end (bracket + 1) × (end < close) × ((k : ℕ) → end < k → k < close → IsXmlSpace (slice_index b k))
    × (slice_index b close ≡ 0x3E)

-- the first "[" from `from` on, no ">" before it, has such a ">"
abbrev pub ClosesSubset : List ℕ → ℕ → ℕ → Type 0
ClosesSubset b from close =
    (bracket : ℕ) × IsRun IsPlainByte b from bracket × (slice_index b bracket ≡ 0x5B) × ClosesAfter b bracket close

abbrev pub ClosesDeclaration : List ℕ → ℕ → ℕ → Type 0
ClosesDeclaration b from close = ClosesPlain b from close ⊎ ClosesSubset b from close

-- a document type declaration stands at p: "<!DOCTYPE", white space, a name that begins at `name`, and all up to the
-- ">" at `close`
pub record IsDoctype (b : List ℕ) (p name close : ℕ) : Type 0 where
  pub starts : OccursAt b (codes "<!DOCTYPE") p
  pub space : IsSpaceRun b (p + 9) name
  pub closes : ClosesDeclaration b name close

-- a part of the prolog stands from p up to q. d is where the document type's name begins if one was declared before p,
-- and e the same before q. A second declaration is no part
abbrev pub IsPart : List ℕ → ℕ → Option ℕ → ℕ → Option ℕ → Type 0
IsPart b p d q e =
    (IsMisc b p q × (e ≡ d))
    ⊎ ((name close : ℕ) × IsDoctype b p name close × (d ≡ None) × (q ≡ close + 1) × (e ≡ Some name))

-- the text from p up to q is the whole name of the document type, if one was declared
abbrev pub AgreesWithDoctype : List ℕ → Option ℕ → ℕ → ℕ → Type 0
AgreesWithDoctype b None p q = Unit {0}
AgreesWithDoctype b (Some name) p q =
    OccursAt b (slice_range b p q) name × (name + (q - p) < length b) × EndsType (slice_index b (name + (q - p)))

-- "!" and "?" begin no element's name
abbrev pub BeginsElement : ℕ → Type 0
BeginsElement x = (x ≢ 0x21) × (x ≢ 0x3F)

-- "<" stands at p, and after it a byte that can begin an element's name
abbrev pub StartsElement : List ℕ → ℕ → Type 0
StartsElement b p = (p + 1 < length b) × (slice_index b p ≡ 0x3C) × BeginsElement (slice_index b (p + 1))

-- the tag of an element starts at p: "<", and a name that ends at `to`, within b, and is that of the document type d.
-- What follows the name's last ":", or all of it, begins at `at` and is not empty
pub record StartsTag (b : List ℕ) (at to p : ℕ) (d : Option ℕ) : Type 0 where
  pub starts : slice_index b p ≡ 0x3C
  pub name : IsRun IsNameByte b (p + 1) to
  pub begins : BeginsElement (slice_index b (p + 1))
  pub local : IsAfterLast 0x3A b (p + 1) to at
  pub some : at < to
  pub agrees : AgreesWithDoctype b d (p + 1) to

-- the first thing from p on that is no part of the prolog is that tag: it starts at p, or follows on a part that stands
-- there
pub data ReachesTag (b : List ℕ) (at to : ℕ) : ℕ → Option ℕ → Type 0 where
  here : (p : ℕ) (d : Option ℕ) → StartsTag b at to p d → ReachesTag b at to p d
  later : (p : ℕ) (d : Option ℕ) (q : ℕ) (e : Option ℕ)
      → IsPart b p d q e → ReachesTag b at to q e → ReachesTag b at to p d

-- from `start` on a prolog ends at `place`, whatever bytes follow b: a tag that it leads to starts there. d is where the
-- name of the document type begins, if one was declared
pub record EndsProlog (b : List ℕ) (start place : ℕ) (d : Option ℕ) : Type 0 where
  pub within : place ≤ length b
  pub leads : (more : List ℕ) (at to : ℕ) → ReachesTag (b ++ more) at to start None ↔ ReachesTag (b ++ more) at to place d
  pub ends : (q : ℕ) (e : Option ℕ) → ¬ IsPart b place d q e

-- the byte order mark of UTF-8
abbrev pub utf8_mark : List ℕ
utf8_mark = 0xEF ∷ 0xBB ∷ 0xBF ∷ []

-- the prolog begins at p: at 0, or after a byte order mark if there is one
abbrev pub BeginsAt : List ℕ → ℕ → Type 0
BeginsAt b p = (OccursAt b utf8_mark 0 × (p ≡ 3)) ⊎ ((¬ OccursAt b utf8_mark 0) × (p ≡ 0))

-- the root element has this local name, and `rest` is what comes after it in b
abbrev pub IsRootElement : List ℕ → List ℕ → List ℕ → Type 0
IsRootElement name rest b =
    (p at to : ℕ) × BeginsAt b p × ReachesTag b at to p None × (name ≡ slice_range b at to) × (rest ≡ drop to b)

-- the root element of b is this one, or b has none
abbrev pub IsRootOf : Option Root → List ℕ → Type 0
IsRootOf root b = MatchOption root ((name rest : List ℕ) → ¬ IsRootElement name rest b) (λ r. IsRootElement r.name.now r.rest.now b)

-- the text stands in `rest` before its first ">", or anywhere if it has none
abbrev pub HasInTag : List ℕ → List ℕ → Type 0
HasInTag text rest = (p : ℕ) × OccursAt rest text p × ((k : ℕ) → k < p + length text → slice_index rest k ≢ 0x3E)

-- the root element has this local name
abbrev pub HasRoot : List ℕ → List ℕ → Type 0
HasRoot name b = (rest : List ℕ) × IsRootElement name rest b

-- and the text in its tag after the name
abbrev pub HasRootWith : List ℕ → List ℕ → List ℕ → Type 0
HasRootWith name text b = (rest : List ℕ) × IsRootElement name rest b × HasInTag text rest

-- a tag has ended, of which `rest` follows on the name
abbrev pub HasClosing : List ℕ → Type 0
HasClosing rest = (k : ℕ) × (k < length rest) × (slice_index rest k ≡ 0x3E)

-- whatever bytes follow b, its root element has the same name, and the same texts in its tag
abbrev pub DecidesRoot : List ℕ → Type 0
DecidesRoot b = (m n : List ℕ) → All (λ x. x < 256) m → All (λ x. x < 256) n → (name text : List ℕ)
    → (HasRoot name (b ++ m) → HasRoot name (b ++ n)) × (HasRootWith name text (b ++ m) → HasRootWith name text (b ++ n))

-- P asks for nothing but the root element: where that is told, P is
abbrev pub IsOfRoot : (List ℕ → Type 0) → Type 0
IsOfRoot P = (b m n : List ℕ) → DecidesRoot b → All (λ x. x < 256) m → All (λ x. x < 256) n → P (b ++ m) → P (b ++ n)

-- and so it is told by this root element, if there is one, whether a buffer has P
abbrev pub DecidesByRoot : Option Root → (List ℕ → Type 0) → Bool → Type 0
DecidesByRoot root P answer = IsOfRoot P × ((b : List ℕ) → IsRootOf root b → (IsTrue answer ↔ P b))

-- after a "<" the name of an element stands at p, or another "<" there or after
abbrev pub MayStart : List ℕ → ℕ → Type 0
MayStart b p = BeginsElement (slice_index b p) ⊎ ((j : ℕ) × (p ≤ j) × (slice_index b j ≡ 0x3C))

-- b begins with a byte order mark, or with white space, perhaps none, and such a "<"
abbrev pub MayBeRooted : List ℕ → Type 0
MayBeRooted b =
    OccursAt b utf8_mark 0
    ⊎ ((k : ℕ) × ((j : ℕ) → j < k → IsXmlSpace (slice_index b j)) × (slice_index b k ≡ 0x3C) × MayStart b (k + 1))

-- from p on b has nothing but white space, or "<" stands at p, as far as b goes
abbrev pub MayReachTag : List ℕ → ℕ → Type 0
MayReachTag b p = ((k : ℕ) → p ≤ k → k < length b → IsXmlSpace (slice_index b k)) ⊎ AgreesAt b (codes "<") p
