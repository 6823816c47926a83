-- Laws of content types and of computed types.
use Rattle.std.specs.Prelude.{◌≡◌, Bool, if◌then◌else◌, ◌<◌, ◌≤◌, ◌↔◌, ◌⊎◌, ◌++◌, ◌∷◌, [], Any, IsTrue, List, Option, None, Some, ℕ, codes, length, slice_index}
use Rattle.std.specs.List.{concat, filter}
use Rattle.std.specs.Str.{bytes_eq}
use Rattle.mime_types.specs.Groups.{IsJavaScript, essence}
use Rattle.mime_types.specs.Mime.{Kind}
use Rattle.mime_sniff.specs.Computed.{IsAskedOf, IsComputed, IsSuppliedScriptable, IsUnknown, Supply, GivesScriptable, otherwise, rules_of}
use Rattle.mime_sniff.specs.Go.{IsContentType}
use Rattle.mime_sniff.specs.Go as go
use Rattle.mime_sniff.specs.Growth.{IsDecided}
use Rattle.infer_deep.specs.Text.{IsHtml}
use Rattle.infer_formats.specs.Text.{IsBinary}
use Rattle.infer_sig.specs.Archive as Archive
use Rattle.infer_sig.specs.Audio as Audio
use Rattle.infer_sig.specs.Image as Image
use Rattle.infer_sig.specs.Signature.{Alternative, accepts}
use Rattle.mime_sniff.specs.Rule.{Accepts, Rule}
use Rattle.mime_sniff.specs.Standard.{archives, header, markup, media, scriptable, texts}
use Rattle.mime_sniff.specs.Table.{images, sounds}
use Rattle.mime_sniff.specs.declared.question.Question.{Question}

-- a buffer has one content type
abbrev pub HasOneType : Type 0
HasOneType = (b s t : List ℕ) → IsContentType b s → IsContentType b t → s ≡ t

-- it is that of the header
abbrev pub HeaderDecides : Type 0
HeaderDecides = (b t : List ℕ) → IsContentType (go.header b) t ↔ IsContentType b t

-- what is supplied and a buffer have one computed type
abbrev pub ComputesOne : Type 0
ComputesOne = (s : Supply) (b : List ℕ) (t u : Option (List ℕ)) → IsComputed s b t → IsComputed s b u → t ≡ u

-- it is that of the header, and so that of the bytes that a sniffer of pieces keeps
abbrev pub HeaderComputes : Type 0
HeaderComputes = (s : Supply) (b : List ℕ) (t : Option (List ℕ)) → IsComputed s (header b) t ↔ IsComputed s b t

-- what a sniffer of pieces keeps that has kept something before
abbrev pub kept_of : List ℕ → List (List ℕ) → List ℕ
kept_of kept [] = kept
kept_of kept (piece ∷ pieces) = kept_of (header (kept ++ piece)) pieces

-- it keeps the header of the whole, however that is cut
abbrev pub KeepsHeader : Type 0
KeepsHeader = (pieces : List (List ℕ)) → kept_of [] pieces ≡ header (concat pieces)

-- after a whole header no bytes change what is computed
abbrev pub DecidesWhenFull : Type 0
DecidesWhenFull = (s : Supply) (b : List ℕ) → 1445 ≤ length b → IsDecided s b

-- and what is decided stays decided
abbrev pub DecidedStays : Type 0
DecidedStays = (s : Supply) (b more : List ℕ) (told : Option (List ℕ)) → IsDecided s b → IsComputed s b told → IsDecided s (b ++ more)

-- nothing tells the type, sniffing is not forbidden, and what may run scripts accepts the bytes
abbrev pub MayEscalate : Supply → List ℕ → Type 0
MayEscalate s b = IsUnknown s.kind × (¬ IsTrue s.no_sniff) × Any (Accepts (header b)) scriptable

-- the rows that are asked of a resource of which nothing is known: all but what text is by default
abbrev pub unscripted_rows : List Rule
unscripted_rows = texts ++ (images ++ (media ++ archives))

abbrev pub rows_of_unknown : Bool → List Rule
rows_of_unknown no_sniff = if no_sniff then unscripted_rows else scriptable ++ unscripted_rows

-- what one of them tells is told whatever follows
abbrev pub RowsStay : Type 0
RowsStay =
    (s : Supply) (b more : List ℕ) (told later : Option (List ℕ)) → IsUnknown s.kind → Any (Accepts (header b)) (rows_of_unknown s.no_sniff)
    → IsComputed s b told → IsComputed s (b ++ more) later → later ≡ told

-- and binary data that none of them accepts stays what it is as long as none does
abbrev pub OctetsStay : Type 0
OctetsStay =
    (s : Supply) (b more : List ℕ) (told later : Option (List ℕ)) → IsUnknown s.kind → IsBinary (header b)
    → (¬ Any (Accepts (header (b ++ more))) (rows_of_unknown s.no_sniff)) → IsComputed s b told → IsComputed s (b ++ more) later → later ≡ told

-- a computed type may run scripts only if the supplied one may, or so
abbrev pub Escalates : Type 0
Escalates = (s : Supply) (b : List ℕ) (told : Option (List ℕ)) → IsComputed s b told → GivesScriptable s told → IsSuppliedScriptable s ⊎ MayEscalate s b

-- and where it may so, it does
abbrev pub EscalatesSo : Type 0
EscalatesSo = (s : Supply) (b : List ℕ) (told : Option (List ℕ)) → IsComputed s b told → MayEscalate s b → GivesScriptable s told

-- and whatever follows then, it goes on to
abbrev pub EscalatesForGood : Type 0
EscalatesForGood =
    (s : Supply) (b more : List ℕ) (told : Option (List ℕ)) → MayEscalate s b → IsComputed s (b ++ more) told → GivesScriptable s told

-- a supplied type that tells something stays, or becomes what one of the rules tells that are asked of it: an image another
-- image, audio or video another of these, and a text of an old server a text or binary data
abbrev pub StaysOfItsKind : Type 0
StaysOfItsKind =
    (s : Supply) (k : Kind) (q : Question) (b : List ℕ) (told : Option (List ℕ)) → s.kind ≡ Some k → (¬ IsUnknown s.kind) → IsAskedOf s k q → IsComputed s b told
    → (told ≡ otherwise q) ⊎ Any (λ rule. told ≡ Some rule.mime_type) (rules_of q)

-- where sniffing is forbidden it stays, whatever the bytes are
abbrev pub StaysIfForbidden : Type 0
StaysIfForbidden =
    (s : Supply) (k : Kind) (b : List ℕ) (told : Option (List ℕ)) → s.kind ≡ Some k → (¬ IsUnknown s.kind) → IsTrue s.no_sniff → IsComputed s b told → told ≡ None

-- a type that is told in place of the supplied one is no JavaScript
abbrev pub GivesNoScript : Type 0
GivesNoScript = (s : Supply) (b t : List ℕ) (k : Kind) → IsComputed s b (Some t) → essence k ≡ t → ¬ IsJavaScript k

-- the rules of a type
abbrev pub of_type : List ℕ → List Rule → List Rule
of_type t rules = filter (λ rule. bytes_eq rule.mime_type t) rules

-- each is a byte
abbrev pub AreBytes : List ℕ → Type 0
AreBytes b = (i : ℕ) → slice_index b i < 256

-- one of the rules accepts a buffer just if the library's signature does
abbrev pub Shares : List Rule → List Alternative → Type 0
Shares rules signature = (b : List ℕ) → AreBytes b → Any (Accepts b) rules ↔ IsTrue (accepts signature b)

-- what the standard and the library tell alike: HTML by its tags, and five types by fixed bytes
pub record SharesRows : Type 0 where
  pub html : (b : List ℕ) → AreBytes b → Any (Accepts b) (of_type (codes "text/html") markup) ↔ IsHtml b
  pub bmp : Shares (of_type (codes "image/bmp") images) Image.bmp
  pub jpeg : Shares (of_type (codes "image/jpeg") images) Image.jpeg
  pub aiff : Shares (of_type (codes "audio/aiff") sounds) Audio.aiff
  pub wav : Shares (of_type (codes "audio/wave") sounds) Audio.wav
  pub gz : Shares (of_type (codes "application/x-gzip") archives) Archive.gz
