-- What is told of a name and bytes.
use Rattle.std.specs.Prelude.{◌≡◌, ℕ, List, Option, option_map}
use Rattle.infer.specs.Triple.{Triple, triple_of}
use Rattle.infer_more.specs.Wider.{IsWiderAnswer}
use Rattle.infer_named.specs.Bytes.{IsKind, lead_of}
use Rattle.infer_named.specs.Key.{Key}
use Rattle.infer_named.specs.Listed.{key_listed, type_listed}
use Rattle.infer_named.specs.Join.{Answer, Told, answer, join, of_bytes, of_name}
use Rattle.infer_named.specs.Names.{IsKey}
use Rattle.infer_named.specs.Table.{keys}
use Rattle.infer_named.specs.declared.bytes.Kind.{Kind}
use Rattle.infer_named.specs.declared.join.Named.{Named}
use Rattle.infer_named.specs.declared.join.Told as code
use Rattle.infer_named.specs.declared.join.Told.TheVariants.{Bytes, Name}

-- the type that is told, as the code has it
abbrev pub told_listed : code.Told → Told
told_listed (Bytes t) = of_bytes (triple_of t)
told_listed (Name t) = of_name (type_listed t)

abbrev pub answer_of : Named → Answer
answer_of n = answer n.standing (option_map told_listed n.told)

-- the key that the answer has
abbrev pub key_of : Named → Option Key
key_of n = option_map (λ k. key_listed k.now) n.key

-- the key is that of the name, and the answer is what it, the wider answer of the buffer, its kind and its lead tell
pub record IsNamed (name b : List ℕ) (n : Named) : Type 0 where
  pub wider : Option Triple
  pub is_key : IsKey keys name (key_of n)
  pub is_wider : IsWiderAnswer b wider
  pub is : (kind : Kind) → IsKind b kind → answer_of n ≡ join (key_of n) wider kind (lead_of b)
