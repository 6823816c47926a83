-- Laws of the first row that accepts a buffer.
use Rattle.std.specs.Prelude.{◌≡◌, ◌≢◌, ◌<◌, ◌≤◌, ◌⊎◌, ℕ, Bool, false, not, List, ◌++◌, Option, None, Some, Result, IfOk, length, option_map, take, IsTrue}
use Rattle.infer.specs.Buffer.{IsBuffer, head}
use Rattle.infer.specs.Caller.{Contracts}
use Rattle.infer.specs.First.{IsAnswer, IsFirst, IsFirstOf}
use Rattle.infer.specs.Matchers.{is_far_row}
use Rattle.infer.specs.Questions.{HasExtension, HasMimeType, SomeBoth}
use Rattle.infer.specs.Reading.{AnswersFront, AnswersSome}
use Rattle.infer.specs.Row.{Row, Accepts}
use Rattle.infer.specs.Rows.{Signature, AnyAccepts, IsAcceptedBy}
use Rattle.infer.specs.Table.{table}
use Rattle.infer.specs.Triple.{Triple, triple_of}
use Rattle.infer.specs.declared.read.fault.Fault.{Fault}
use Rattle.infer.specs.declared.table.file_type.FileType.{FileType}

-- the first index is not greater than the second; none is the greatest
abbrev pub IsNotLater : Option ℕ → Option ℕ → Type 0
IsNotLater o None = Unit {0}
IsNotLater None (Some j) = ⊥
IsNotLater (Some i) (Some j) = i ≤ j

module _ {X : Type 0} {g : Contracts X} where
  -- what the signature accepts, it accepts however the buffer goes on
  abbrev pub AnyLasts : Signature X g → Type 0
  AnyLasts s = (short more : List ℕ) → IsBuffer (short ++ more) → IsAcceptedBy s short → IsAcceptedBy s (short ++ more)

  -- bytes after a buffer never make its first row a later one
  abbrev pub IsSteady : List (Row (Signature X g)) → Type 0
  IsSteady all =
      (short more : List ℕ) (before after : Option ℕ) → IsBuffer (short ++ more)
      → IsFirstOf (AnyAccepts short) all before → IsFirstOf (AnyAccepts (short ++ more)) all after → IsNotLater after before

  -- some row with the extension of the answer accepts the buffer, and some row with its MIME type
  abbrev pub AnswersAreNamed : List (Row (Signature X g)) → Type 0
  AnswersAreNamed all =
      (buf : List ℕ) (t : Triple) → IsAnswer (AnyAccepts buf) all (Some t)
      → SomeBoth (HasExtension t.extension) (AnyAccepts buf) all × SomeBoth (HasMimeType t.mime_type) (AnyAccepts buf) all

  -- two readers that have the same n bytes left at the front have the same answer within n bytes
  abbrev pub ReadersAreAlike : List (Row (Signature X g)) → Type 0
  ReadersAreAlike all =
      (n : ℕ) (s t : List ℕ) (r q : Result (Option FileType) Fault) → head n s ≡ head n t
      → AnswersFront n (λ b. IsAnswer (AnyAccepts b) all) (Some s) r → AnswersFront n (λ b. IsAnswer (AnyAccepts b) all) (Some t) q
      → IfOk r (λ found. IfOk q (λ other. option_map triple_of found ≡ option_map triple_of other))

  -- what holds of a call's answer by these rows holds by the built-in rows
  pub record AnswersAsBuiltIn (all : List (Row (Signature X g))) : Type 0 where
    pub answer : (buf : List ℕ) (o : Option Triple) → IsAnswer (AnyAccepts buf) all o → IsAnswer (Accepts buf) table o
    pub file : (n : ℕ) (result : Result (Option FileType) Fault)
        → AnswersSome n (λ b. IsAnswer (AnyAccepts b) all) result → AnswersSome n (λ b. IsAnswer (Accepts b) table) result
    pub front : (n : ℕ) (left : Option (List ℕ)) (result : Result (Option FileType) Fault)
        → AnswersFront n (λ b. IsAnswer (AnyAccepts b) all) left result → AnswersFront n (λ b. IsAnswer (Accepts b) table) left result

-- the answer is a far row
abbrev pub answers_far : Option ℕ → Bool
answers_far None = false
answers_far (Some i) = is_far_row i

-- every other answer is that of the first 1024 bytes
abbrev pub FrontDecides : Type 0
FrontDecides =
    (buf : List ℕ) (o : Option ℕ) → IsFirstOf (Accepts buf) table o → IsTrue (not (answers_far o))
    → IsFirstOf (Accepts (take 1024 buf)) table o

-- two buffers with the same first 1024 bytes have the same answer, unless that of one of them is a far row
abbrev pub AnswersAreLocal : Type 0
AnswersAreLocal =
    (a b : List ℕ) (o p : Option ℕ) → take 1024 a ≡ take 1024 b → IsFirstOf (Accepts a) table o → IsFirstOf (Accepts b) table p
    → (o ≡ p) ⊎ IsTrue (answers_far o) ⊎ IsTrue (answers_far p)

-- after 1024 bytes an answer stays, or gives way to a far row
abbrev pub OnlyFarRowsFollow : Type 0
OnlyFarRowsFollow =
    (short more : List ℕ) (before after : Option ℕ) → 1024 ≤ length short
    → IsFirstOf (Accepts short) table before → IsFirstOf (Accepts (short ++ more)) table after
    → (after ≡ before) ⊎ IsTrue (answers_far after)

-- the buffer has row i as its first, and its first n bytes, which are not all, have another answer
pub record Breaks (n i : ℕ) (buf : List ℕ) : Type 0 where
  pub bytes : IsBuffer buf
  pub long : n < length buf
  pub first : IsFirst (Accepts buf) table i
  pub front : Option ℕ
  pub front_first : IsFirstOf (Accepts (take n buf)) table front
  pub other : front ≢ Some i
