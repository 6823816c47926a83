-- What holds of a call that reads at most n bytes and answers about them, as the built-in rows do or others.
use Rattle.std.specs.Prelude.{◌≡◌, ◌≤◌, ℕ, List, Option, Some, Result, Ok, Err, IfOk, IfSome, IsErrOf, OnErr, OnOk, drop, length, option_map}
use Rattle.std.specs.IoError.{error_kind}
use Rattle.std.specs.declared.io.Error.{Error}
use Rattle.infer.specs.Buffer.{IsBuffer, head}
use Rattle.infer.specs.Fault.{OpensNothing, read_fault}
use Rattle.infer.specs.Triple.{Triple, triple_of}
use Rattle.infer.specs.Watched.{Loses, fault_of, inner}
use Rattle.infer.specs.declared.read.fault.Fault.{Fault}
use Rattle.infer.specs.declared.read.fault.Fault.TheVariants.{Memory, Open}
use Rattle.infer.specs.declared.read.watched.Watched.{Watched}
use Rattle.infer.specs.declared.table.file_type.FileType.{FileType}

module _ {T : Type 0} (n : ℕ) (Answers : List ℕ → T → Type 0) where
  -- an answer is that of some bytes, at most n
  abbrev pub IdentifiesSome : Result T Fault → Type 0
  IdentifiesSome result = IfOk result (λ found. (b : List ℕ) × IsBuffer b × (length b ≤ n) × Answers b found)

  -- an answer is that of the first n bytes of those that were left, if these are known
  abbrev pub IdentifiesFront : Option (List ℕ) → Result T Fault → Type 0
  IdentifiesFront left result = IfOk result (λ found. IfSome left (λ s. Answers (head n s) found))

-- What holds of a watched reader. An answer is that of its first n bytes, which alone it loses, if its bytes are known, and
-- that of some bytes at any rate. The result is `Read(kind)` exactly if its fault is now that kind, and what it lost then is
-- fewer bytes. Want of memory leaves it as it was. Nothing is opened.
pub record IdentifiesReader {R T : Type 0} (remaining : R → Option (List ℕ)) (n : ℕ) (Answers : List ℕ → T → Type 0) (old new : Watched R)
    (result : Result T Fault) : Type 0 where
  pub answer : IdentifiesFront n Answers (remaining (inner old)) result
  pub rest : OnOk result (IfSome (remaining (inner old)) (λ s. remaining (inner new) ≡ Some (drop n s)))
  pub some_bytes : IdentifiesSome n Answers result
  pub fault : fault_of new ≡ read_fault result
  pub memory : IsErrOf result Memory → new ≡ old
  pub opens_nothing : OpensNothing result
  pub lost : OnErr result (Loses n (remaining (inner old)) (remaining (inner new)))

-- What holds of a file that was to be opened: if it was, what holds of a watched reader, and otherwise `Open(kind)`, of the
-- kind of the error in its place. So the result is that fault exactly if opening gave such an error.
abbrev pub IdentifiesOpened : {R T : Type 0} (remaining : R → Option (List ℕ)) (n : ℕ) (Answers : List ℕ → T → Type 0)
    (old new : Result (Watched R) Error) → Result T Fault → Type 0
IdentifiesOpened remaining n Answers (Ok old) (Ok new) result = IdentifiesReader remaining n Answers old new result
IdentifiesOpened remaining n Answers (Ok old) (Err error) result = ⊥
IdentifiesOpened remaining n Answers (Err error) new result = result ≡ Err (Open (error_kind error))

-- the type shows what answers
abbrev pub ShowsAnswer : (List ℕ → Option Triple → Type 0) → List ℕ → Option FileType → Type 0
ShowsAnswer Answers b found = Answers b (option_map triple_of found)

-- an answer is a type that shows the answer about some bytes, at most n
abbrev pub AnswersSome : ℕ → (List ℕ → Option Triple → Type 0) → Result (Option FileType) Fault → Type 0
AnswersSome n Answers = IdentifiesSome n (ShowsAnswer Answers)

-- an answer is a type that shows that about the first n bytes of those that were left, if these are known
abbrev pub AnswersFront : ℕ → (List ℕ → Option Triple → Type 0) → Option (List ℕ) → Result (Option FileType) Fault → Type 0
AnswersFront n Answers = IdentifiesFront n (ShowsAnswer Answers)

-- what holds of a watched reader where an answer is a type
abbrev pub AnswersReader : {R : Type 0} (remaining : R → Option (List ℕ)) (n : ℕ) (Answers : List ℕ → Option Triple → Type 0)
    (old new : Watched R) → Result (Option FileType) Fault → Type 0
AnswersReader remaining n Answers = IdentifiesReader remaining n (ShowsAnswer Answers)

-- what holds of a file that was to be opened where an answer is a type
abbrev pub AnswersOpened : {R : Type 0} (remaining : R → Option (List ℕ)) (n : ℕ) (Answers : List ℕ → Option Triple → Type 0)
    (old new : Result (Watched R) Error) → Result (Option FileType) Fault → Type 0
AnswersOpened remaining n Answers = IdentifiesOpened remaining n (ShowsAnswer Answers)
