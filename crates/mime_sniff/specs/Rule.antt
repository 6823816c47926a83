-- Rules, in order: what each asks of a buffer, and the type that it tells.
use Rattle.std.specs.Prelude.{◌≡◌, ℕ, List, ◌∷◌, ◌++◌, All, MatchOption, Option}
use Rattle.infer_formats.specs.Text.{IsBinary}
use Rattle.mime_sniff.specs.Mp3.{IsMp3}
use Rattle.mime_sniff.specs.Mp4.{IsMp4, IsMp4OfAnyBox}
use Rattle.mime_sniff.specs.Row.{AcceptsFixed, Fits, Pattern}
use Rattle.mime_sniff.specs.Webm.{IsWebm}

-- a pattern, MP4 in one of two ways, WebM, MP3, or no byte of binary data
pub data Signature : Type 0 where
  fixed : Pattern → Signature
  mp4 : Signature
  mp4_of_any_box : Signature
  webm : Signature
  mp3 : Signature
  no_data : Signature

pub record Rule : Type 0 where
  pub signature : Signature
  pub mime_type : List ℕ

-- the buffer has what the signature asks
abbrev pub IsAccepted : Signature → List ℕ → Type 0
IsAccepted (fixed pattern) b = AcceptsFixed pattern b
IsAccepted mp4 b = IsMp4 b
IsAccepted mp4_of_any_box b = IsMp4OfAnyBox b
IsAccepted webm b = IsWebm b
IsAccepted mp3 b = IsMp3 b
IsAccepted no_data b = ¬ IsBinary b

abbrev pub Accepts : List ℕ → Rule → Type 0
Accepts b rule = IsAccepted rule.signature b

-- b, before which all was passed over that is ignored, fits the rule's pattern
abbrev pub FitsSignature : List ℕ → Signature → Type 0
FitsSignature b (fixed pattern) = Fits pattern b
FitsSignature b other = ⊥

abbrev pub FitsRule : List ℕ → Rule → Type 0
FitsRule b rule = FitsSignature b rule.signature

-- the rule is the first of these with the property
pub record IsFirst (P : Rule → Type 0) (rules : List Rule) (rule : Rule) : Type 0 where
  pub before : List Rule
  pub after : List Rule
  pub whole : rules ≡ before ++ rule ∷ after
  pub refused : All (λ other. ¬ P other) before
  pub has : P rule

-- the type of the first of the rules with the property, and none only if none has it
abbrev pub FindsFirst : (Rule → Type 0) → List Rule → Option (List ℕ) → Type 0
FindsFirst P rules told =
    MatchOption told (All (λ rule. ¬ P rule) rules) (λ t. (rule : Rule) × IsFirst P rules rule × (rule.mime_type ≡ t))
