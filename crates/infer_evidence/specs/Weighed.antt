-- What a buffer has of a signature that the code lists, place by place.
use Rattle.std.specs.Prelude.{◌≡◌, ◌≢◌, ◌+◌, ◌-◌, ◌<◌, ◌≤◌, ℕ, List, [], ◌∷◌, All, Any, IsTrue, length, max, slice_index}
use denote.Ref.{Bor}
use Rattle.infer_sig.specs.Places.{StandsByPlace}
use Rattle.infer_sig.specs.Signature as fixed
use Rattle.infer_sig.specs.Signature.{allows}
use Rattle.infer_evidence.specs.Evidence.{IsSame}
use Rattle.infer_evidence.specs.Listed.{set_listed}
use Rattle.infer_evidence.specs.declared.weighing.Refusal.{Refusal}
use Rattle.infer_evidence.specs.declared.signature.Alternative.{Alternative}
use Rattle.infer_evidence.specs.declared.signature.Part.{Part}
use Rattle.infer_evidence.specs.declared.signature.Part.TheVariants.{AnyText, Byte, Text}

-- the buffer has what the part asks
abbrev pub HasPart : List ℕ → Part → Type 0
HasPart b (Text place t) = StandsByPlace place t.now b
HasPart b (AnyText place ts) = Any (λ t. StandsByPlace place t.now b) ts.now
HasPart b (Byte place set) = (place < length b) × IsTrue (allows (set_listed set) (slice_index b place))

-- and the least length, and what each of these asks
abbrev pub HasParts : {P : Type 0} → (P → List ℕ → Type 0) → List ℕ → ℕ → List P → Type 0
HasParts asks b least parts = (least ≤ length b) × All (λ p. asks p b) parts

-- and what an alternative asks
abbrev pub HasAlternative : List ℕ → Alternative → Type 0
HasAlternative b a = HasParts (λ part c. HasPart c part) b a.least a.parts.now

-- and this of some alternative
abbrev pub HasSignature : List ℕ → List Alternative → Type 0
HasSignature b alternatives = Any (HasAlternative b) alternatives

-- none of the texts stands in the buffer from the place on
abbrev pub StandsNone : ℕ → List (Bor (List ℕ)) → List ℕ → Type 0
StandsNone place ts b = All (λ t. ¬ StandsByPlace place t.now b) ts

-- where the text should have a byte the buffer has another
pub record Differs (place : ℕ) (t b : List ℕ) (k : ℕ) : Type 0 where
  pub low : place ≤ k
  pub high : k < place + length t
  pub here : k < length b
  pub other : slice_index b k ≢ slice_index t (k - place)

-- c has the bytes of b that it lacks a part by, and the length of b if this is needed
abbrev pub IsSameTo : List ℕ → List ℕ → Refusal → Type 0
IsSameTo b c l = IsSame b c l.range × (IsTrue l.exact → length c ≡ length b)

-- how many parts an alternative has, and the one that has most
abbrev pub part_count : fixed.Alternative → ℕ
part_count (fixed.at_least n parts) = length parts

abbrev pub most_parts : List fixed.Alternative → ℕ
most_parts [] = 0
most_parts (a ∷ alternatives) = max (part_count a) (most_parts alternatives)

-- how many ranges a signature asks for at most: one of each part of an alternative that the buffer has, or one of each alternative
abbrev pub most_ranges : List fixed.Alternative → ℕ
most_ranges alternatives = max (length alternatives) (most_parts alternatives)
