-- What a call writes.
use Rattle.std.specs.Prelude.{◌≡◌, ℕ, List, Option, is_some, length}
use Rattle.infer_label.specs.Label.{IsLabel, Label}
use Rattle.infer_label.specs.Line.{line}
use Rattle.infer_label.specs.Options.{Options, gives_why}
use Rattle.infer_label.specs.Why.{IsWhy, Why}
use Rattle.infer_label.specs.Writes.{laid, saturated}
use Rattle.infer_label.specs.declared.Answer as code

-- the text is the line of an input with this name, of which b is looked at, and its length and what it tells were answered
pub record IsLineOf (o : Options) (name b : List ℕ) (answer : code.Answer) (text : List ℕ) : Type 0 where
  pub label : Label
  pub why : Option Why
  pub is_label : IsLabel o name b label
  pub is_why : IsWhy (gives_why o) o.look b why
  pub is : text ≡ line o name label why
  pub length : answer.len ≡ saturated (length text)
  pub known : answer.is_known ≡ is_some label.mime_type
  pub standing : answer.standing ≡ label.standing

-- it was laid into the room
abbrev pub WritesLine : Options → (name b : List ℕ) → code.Answer → (old new : List ℕ) → Type 0
WritesLine o name b answer old new = (text : List ℕ) × IsLineOf o name b answer text × (new ≡ laid text old)
