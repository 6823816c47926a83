-- What a type shows of itself.
use Rattle.std.specs.Prelude.{ℕ, List}
use Rattle.infer.specs.declared.table.file_type.MatcherType.{MatcherType}
use Rattle.infer.specs.declared.table.file_type.FileType.{FileType}

-- a class, a MIME type and an extension
pub record Triple : Type 0 where
  pub class : MatcherType
  pub mime_type : List ℕ
  pub extension : List ℕ

abbrev pub triple : MatcherType → List ℕ → List ℕ → Triple
triple class mime_type extension = record { class = class; mime_type = mime_type; extension = extension }

-- the three values of a type
abbrev pub triple_of : FileType → Triple
triple_of t = triple t.matcher_type t.mime_type.now t.extension.now
