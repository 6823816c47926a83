-- The tokens of which signatures are written.
use Rattle.std.specs.Prelude.{ℕ, List}
use Rattle.infer_formats.specs.declared.token.Token as tokens
use Rattle.infer_formats.specs.declared.token.Token.TheVariants as listed

-- the bytes between quotes or braces, a separator, or a bare word
pub data Token : Type 0 where
  quoted : List ℕ → Token
  set : List ℕ → Token
  separator : ℕ → Token
  bare : List ℕ → Token

abbrev pub token_listed : tokens.Token → Token
token_listed (listed.Quoted text) = quoted text.now
token_listed (listed.Set digits) = set digits.now
token_listed (listed.Separator byte) = separator byte
token_listed (listed.Word word) = bare word.now
