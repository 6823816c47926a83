-- Texts with a zero after them.
use Rattle.std.specs.Prelude.{ℕ, List, [], ◌∷◌, ◌++◌}
use Rattle.infer.specs.Triple.{Triple}
use Rattle.infer_more.specs.declared.row_data.EndedTexts.{EndedTexts}

-- the text and a zero after it
abbrev pub ended : List ℕ → List ℕ
ended text = text ++ (0 ∷ [])

-- a MIME type and an extension, each with its zero
pub record Ended : Type 0 where
  pub mime_type : List ℕ
  pub extension : List ℕ

abbrev pub ended_listed : EndedTexts → Ended
ended_listed texts = record { mime_type = texts.mime_type.now; extension = texts.extension.now }

-- those that the triple shows
abbrev pub ended_shown : Triple → Ended
ended_shown t = record { mime_type = ended t.mime_type; extension = ended t.extension }
