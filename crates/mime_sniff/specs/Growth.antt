-- What is told of bytes that may go on, whatever follows them.
use Rattle.std.specs.Prelude.{◌≡◌, Any, ℕ, ◌≤◌, List, ◌++◌, Option, None, Some, bit_and, length, slice_index}
use Rattle.infer_deep.specs.Signatures.{MayBecome}
use Rattle.mime_sniff.specs.Computed.{Answers, IsComputed, Supply}
use Rattle.mime_sniff.specs.Rule.{Accepts, FitsRule, Rule, FindsFirst}
use Rattle.mime_sniff.specs.Standard.{header, scriptable}
use Rattle.mime_sniff.specs.declared.question.Question.{Question}

-- whatever follows b, the rules tell this; and so if b is asked as it is, after what is ignored
abbrev pub FindForGood : List ℕ → List Rule → Option (List ℕ) → Type 0
FindForGood b rules told = (more : List ℕ) → FindsFirst (Accepts (b ++ more)) rules told

abbrev pub FitForGood : List ℕ → List Rule → Option (List ℕ) → Type 0
FitForGood text rules told = (more : List ℕ) → FindsFirst (FitsRule (text ++ more)) rules told

abbrev pub AnswerForGood : Question → List ℕ → Option (List ℕ) → Type 0
AnswerForGood q b told = (more : List ℕ) → Answers q (b ++ more) told

-- what is known of some rules, or of those after them if the first ones tell nothing
abbrev pub found_or_else : {T : Type 0} → Option (Option T) → Option (Option T) → Option (Option T)
found_or_else None after = None
found_or_else (Some None) after = after
found_or_else (Some (Some t)) after = Some (Some t)

-- whatever follows b, it has not the property
abbrev pub NeverHolds : (List ℕ → Type 0) → List ℕ → Type 0
NeverHolds P b = (more : List ℕ) → ¬ P (b ++ more)

-- a rule of what may run scripts accepts b; and none does, whatever follows it
abbrev pub Scripts : List ℕ → Type 0
Scripts b = Any (Accepts (header b)) scriptable

abbrev pub NeverScripts : List ℕ → Type 0
NeverScripts b = NeverHolds Scripts b

-- and some bytes after b, however many, make one accept it
abbrev pub MayScript : List ℕ → Type 0
MayScript b = MayBecome (λ c. Any (Accepts c) scriptable) b

-- the bytes of b that are there are those of a header of MPEG audio
pub record MayBeginHeader (b : List ℕ) : Type 0 where
  pub sync : 1 ≤ length b → slice_index b 0 ≡ 0xFF
  pub layer : 2 ≤ length b → bit_and (slice_index b 1) 0xE6 ≡ 0xE2
  pub rate : 3 ≤ length b → ¬ (bit_and (slice_index b 2) 0xF0 ≡ 0xF0)
  pub samples : 3 ≤ length b → ¬ (bit_and (slice_index b 2) 0x0C ≡ 0x0C)

-- whatever follows b, the computed type stays
abbrev pub IsDecided : Supply → List ℕ → Type 0
IsDecided s b = (more : List ℕ) (told : Option (List ℕ)) → IsComputed s b told → IsComputed s (b ++ more) told
