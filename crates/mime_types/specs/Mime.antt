-- MIME types.
use Rattle.std.specs.Prelude.{ℕ, List}

pub record Parameter : Type 0 where
  pub name : List ℕ
  pub value : List ℕ

-- a type and a subtype, as "text" and "html"
pub record Kind : Type 0 where
  pub type_name : List ℕ
  pub subtype : List ℕ

pub record Mime : Type 0 where
  pub kind : Kind
  pub parameters : List Parameter
