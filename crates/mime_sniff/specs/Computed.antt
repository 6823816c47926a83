-- The type that the standard computes of a resource.
use Rattle.std.specs.Prelude.{◌≡◌, ◌⊎◌, Bool, IfSome, IsTrue, List, MatchOption, Option, None, Some, [], ◌∷◌, ◌++◌, codes, if◌then◌else◌, option_map, ℕ}
use Rattle.std.specs.Option.{option_or}
use Rattle.mime_types.specs.Groups.{Is, IsAudioOrVideo, IsHtml, IsImage, IsScriptable, IsXml, essence}
use Rattle.mime_types.specs.Mime.{Kind}
use Rattle.mime_types.specs.Seen.{kind_of}
use Rattle.mime_sniff.specs.Rule.{Accepts, Rule, FindsFirst}
use Rattle.mime_sniff.specs.Standard.{fonts, header, media, octets, scriptable, text_or_binary_rules, unscripted}
use Rattle.mime_sniff.specs.Table.{images}
use Rattle.mime_sniff.specs.declared.computed.Computed.{Computed}
use Rattle.mime_sniff.specs.declared.computed.Computed.TheVariants.{Same, Sniffed}
use Rattle.mime_sniff.specs.declared.context.Context.{Context}
use Rattle.mime_sniff.specs.declared.context.Context.TheVariants.{AudioOrVideo, Browsing, CacheManifest, Font, Image, Plugin, Script, Style, TextTrack}
use Rattle.mime_sniff.specs.declared.question.Question.{Question}
use Rattle.mime_sniff.specs.declared.question.Question.TheVariants.{Anything, Fonts, Images, Manifest, Media, Nothing, Octets, TextOrBinary, Unscripted, Vtt}
use Rattle.mime_sniff.specs.declared.supplied.Supplied.{Supplied}

-- what is known before the bytes are looked at: the type, if one is, whether sniffing is forbidden, and whether the
-- type is one that old servers send of every file
pub record Supply : Type 0 where
  pub kind : Option Kind
  pub no_sniff : Bool
  pub apache_bug : Bool

abbrev pub supply_of : Supplied → Supply
supply_of s = record { kind = option_map kind_of s.mime_type; no_sniff = s.no_sniff; apache_bug = s.check_for_apache_bug }

-- nothing is supplied, or a type that tells nothing
abbrev pub IsUnknown : Option Kind → Type 0
IsUnknown None = Unit {0}
IsUnknown (Some k) = Is (codes "unknown") (codes "unknown") k ⊎ Is (codes "application") (codes "unknown") k ⊎ Is (codes "*") (codes "*") k

-- a text, by a header that old servers send of every file
abbrev pub IsMislabelled : Supply → Kind → Type 0
IsMislabelled s k = Is (codes "text") (codes "plain") k × IsTrue s.apache_bug

-- the type stays whatever the bytes are
abbrev pub IsFinal : Supply → Kind → Type 0
IsFinal s k = IsXml k ⊎ IsHtml k ⊎ IsTrue s.no_sniff

-- no bytes are asked about such a type
abbrev pub IsOther : Supply → Kind → Type 0
IsOther s k = (¬ IsMislabelled s k) × (¬ IsImage k) × (¬ IsAudioOrVideo k)

-- what is asked in a page of a type that tells something
abbrev pub IsAskedOf : Supply → Kind → Question → Type 0
IsAskedOf s k TextOrBinary = (¬ IsFinal s k) × IsMislabelled s k
IsAskedOf s k Images = (¬ IsFinal s k) × IsImage k
IsAskedOf s k Media = (¬ IsFinal s k) × IsAudioOrVideo k
IsAskedOf s k Nothing = IsFinal s k ⊎ IsOther s k
IsAskedOf s k other = ⊥

-- and where nothing is known
abbrev pub asked_of_unknown : Bool → Question
asked_of_unknown no_sniff = if no_sniff then Unscripted else Anything

abbrev pub IsAsked : Supply → Question → Type 0
IsAsked s q =
    (IsUnknown s.kind × (q ≡ asked_of_unknown s.no_sniff)) ⊎ ((¬ IsUnknown s.kind) × IfSome s.kind (λ k. IsAskedOf s k q))

-- no bytes are asked about what is supplied: the type stays
abbrev pub AsksNothing : Supply → Type 0
AsksNothing s = IsAsked s Nothing

-- the rules of a question, and what is told if none of them accepts
abbrev pub rules_of : Question → List Rule
rules_of Anything = scriptable ++ unscripted
rules_of Unscripted = unscripted
rules_of TextOrBinary = text_or_binary_rules
rules_of Images = images
rules_of Media = media
rules_of Fonts = fonts
rules_of Nothing = []
rules_of Octets = []
rules_of Vtt = []
rules_of Manifest = []

abbrev pub otherwise : Question → Option (List ℕ)
otherwise Anything = Some octets
otherwise Unscripted = Some octets
otherwise TextOrBinary = Some octets
otherwise Images = None
otherwise Media = None
otherwise Fonts = None
otherwise Nothing = None
otherwise Octets = Some octets
otherwise Vtt = Some (codes "text/vtt")
otherwise Manifest = Some (codes "text/cache-manifest")

-- the answer: the type of the first rule that accepts, or what is told otherwise. None is the supplied type, if there is
-- one
abbrev pub Answers : Question → List ℕ → Option (List ℕ) → Type 0
Answers q b told = (first : Option (List ℕ)) × FindsFirst (Accepts b) (rules_of q) first × (told ≡ option_or first (otherwise q))

abbrev pub told_by : Computed → Option (List ℕ)
told_by Same = None
told_by (Sniffed t) = Some t.now

-- the computed type
abbrev pub IsComputed : Supply → List ℕ → Option (List ℕ) → Type 0
IsComputed s b told = (q : Question) × IsAsked s q × Answers q (header b) told

-- where the context tells what is asked, XML stays
abbrev pub IsSuppliedXml : Supply → Type 0
IsSuppliedXml s = MatchOption s.kind ⊥ IsXml

abbrev pub UnlessXml : Supply → Question → Question → Type 0
UnlessXml s asked q = (IsSuppliedXml s × (q ≡ Nothing)) ⊎ ((¬ IsSuppliedXml s) × (q ≡ asked))

-- what is asked in a context
abbrev pub IsAskedIn : Context → Supply → Question → Type 0
IsAskedIn Browsing s q = IsAsked s q
IsAskedIn Image s q = UnlessXml s Images q
IsAskedIn AudioOrVideo s q = UnlessXml s Media q
IsAskedIn Font s q = UnlessXml s Fonts q
IsAskedIn Plugin s q = MatchOption s.kind (q ≡ Octets) (λ k. q ≡ Nothing)
IsAskedIn Style s q = q ≡ Nothing
IsAskedIn Script s q = q ≡ Nothing
IsAskedIn TextTrack s q = q ≡ Vtt
IsAskedIn CacheManifest s q = q ≡ Manifest

abbrev pub IsComputedIn : Context → Supply → List ℕ → Option (List ℕ) → Type 0
IsComputedIn c s b told = (q : Question) × IsAskedIn c s q × Answers q (header b) told

-- a type that is told may run scripts
abbrev pub IsScriptableText : List ℕ → Type 0
IsScriptableText t = (k : Kind) × (essence k ≡ t) × IsScriptable k

-- the supplied type, or what is told in place of it, may run scripts
abbrev pub IsSuppliedScriptable : Supply → Type 0
IsSuppliedScriptable s = MatchOption s.kind ⊥ IsScriptable

abbrev pub GivesScriptable : Supply → Option (List ℕ) → Type 0
GivesScriptable s told = MatchOption told (IsSuppliedScriptable s) IsScriptableText

-- headers that old servers send of every file that they know no type of
abbrev pub apache_bugs : List (List ℕ)
apache_bugs =
    codes "text/plain" ∷ codes "text/plain; charset=ISO-8859-1" ∷ codes "text/plain; charset=iso-8859-1"
    ∷ codes "text/plain; charset=UTF-8" ∷ []
