-- Groups of MIME types. No parameter counts.
use Rattle.std.specs.Prelude.{◌≡◌, ◌⊎◌, ℕ, List, [], ◌∷◌, ◌++◌, Any, codes}
use Rattle.mime_types.specs.Mime.{Kind}
use Rattle.mime_types.specs.Text.{lower}

-- the essence, as "text/html"
abbrev pub essence : Kind → List ℕ
essence k = k.type_name ++ 0x2F ∷ k.subtype

abbrev pub HasType : List ℕ → Kind → Type 0
HasType type_name k = k.type_name ≡ type_name

-- the type, and one of the subtypes, in lower case
abbrev pub IsOneOf : List ℕ → List (List ℕ) → Kind → Type 0
IsOneOf type_name subtypes k = HasType type_name k × Any (λ s. k.subtype ≡ lower s) subtypes

abbrev pub Is : List ℕ → List ℕ → Kind → Type 0
Is type_name subtype k = HasType type_name k × (k.subtype ≡ subtype)

-- the subtype is something, perhaps nothing, and then the ending
abbrev pub EndsIn : List ℕ → Kind → Type 0
EndsIn ending k = (start : List ℕ) × (k.subtype ≡ start ++ ending)

abbrev pub IsImage : Kind → Type 0
IsImage k = HasType (codes "image") k

abbrev pub IsAudioOrVideo : Kind → Type 0
IsAudioOrVideo k = HasType (codes "audio") k ⊎ HasType (codes "video") k ⊎ Is (codes "application") (codes "ogg") k

abbrev pub fonts : List (List ℕ)
fonts =
    codes "font-cff" ∷ codes "font-off" ∷ codes "font-sfnt" ∷ codes "font-ttf" ∷ codes "font-woff" ∷ codes "vnd.ms-fontobject"
    ∷ codes "vnd.ms-opentype" ∷ []

abbrev pub IsFont : Kind → Type 0
IsFont k = HasType (codes "font") k ⊎ IsOneOf (codes "application") fonts k

abbrev pub IsZipBased : Kind → Type 0
IsZipBased k = EndsIn (codes "+zip") k ⊎ Is (codes "application") (codes "zip") k

abbrev pub archives : List (List ℕ)
archives = codes "x-rar-compressed" ∷ codes "zip" ∷ codes "x-gzip" ∷ []

abbrev pub IsArchive : Kind → Type 0
IsArchive k = IsOneOf (codes "application") archives k

abbrev pub IsXml : Kind → Type 0
IsXml k = EndsIn (codes "+xml") k ⊎ Is (codes "text") (codes "xml") k ⊎ Is (codes "application") (codes "xml") k

abbrev pub IsHtml : Kind → Type 0
IsHtml k = Is (codes "text") (codes "html") k

-- what may run scripts as a document
abbrev pub IsScriptable : Kind → Type 0
IsScriptable k = IsXml k ⊎ IsHtml k ⊎ Is (codes "application") (codes "pdf") k

abbrev pub application_scripts : List (List ℕ)
application_scripts = codes "ecmascript" ∷ codes "javascript" ∷ codes "x-ecmascript" ∷ codes "x-javascript" ∷ []

abbrev pub text_scripts : List (List ℕ)
text_scripts =
    codes "ecmascript" ∷ codes "javascript" ∷ codes "javascript1.0" ∷ codes "javascript1.1" ∷ codes "javascript1.2" ∷ codes "javascript1.3"
    ∷ codes "javascript1.4" ∷ codes "javascript1.5" ∷ codes "jscript" ∷ codes "livescript" ∷ codes "x-ecmascript" ∷ codes "x-javascript" ∷ []

abbrev pub IsJavaScript : Kind → Type 0
IsJavaScript k = IsOneOf (codes "application") application_scripts k ⊎ IsOneOf (codes "text") text_scripts k

abbrev pub IsJson : Kind → Type 0
IsJson k = EndsIn (codes "+json") k ⊎ Is (codes "application") (codes "json") k ⊎ Is (codes "text") (codes "json") k
