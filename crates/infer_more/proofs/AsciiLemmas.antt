-- Texts of ASCII alone.
use Rattle.std.proofs.Common.{All, IsAscii, IsTrue, ℕ, List, [], ◌∷◌, ◌<◌}
use Rattle.std.proofs.lemmas.Bool.{and_parts, ltb-true}
use Rattle.std.proofs.lemmas.List.Elements.{All-cons, All-nil}
use Rattle.std.proofs.lemmas.Str.Ascii.{IsAscii-from_all}
use Rattle.std.specs.List.{list_all}
use Rattle.std.specs.Prelude.{nat_lt}

below : (text : List ℕ) → IsTrue (list_all (λ x. nat_lt x 128) text) → All (λ x. x < 128) text
below [] is = All-nil (λ x. x < 128)
below (x ∷ text) is =
    let parts = and_parts (nat_lt x 128) (list_all (λ x. nat_lt x 128) text) is in
    All-cons (λ x. x < 128) x text (ltb-true x 128 parts.0) (below text parts.1)

pub ascii_by_test : (text : List ℕ) → IsTrue (list_all (λ x. nat_lt x 128) text) → IsAscii text
ascii_by_test text is = IsAscii-from_all text (below text is)
