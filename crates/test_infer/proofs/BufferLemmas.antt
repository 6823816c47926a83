-- The elements of a slice of bytes are a buffer, and so are those after some.
use Rattle.std.proofs.Common.{◌<◌, ◌+◌, List, ℕ, ◌++◌, get_or, length, length-append, subst, arith}
use Rattle.std.proofs.lemmas.Grind.{get_or_default_zero}
use Rattle.std.proofs.lemmas.List.{get_or-append-add}
use Rattle.infer.specs.Buffer.{IsBuffer}

pub IsBuffer-bytes : (b : List ℕ) → ((i : ℕ) → get_or b i 0 < 256) → IsBuffer b
IsBuffer-bytes b h k d lt = rw (get_or_default_zero b k d lt) (h k)

pub IsBuffer-rest : (short more : List ℕ) → IsBuffer (short ++ more) → IsBuffer more
IsBuffer-rest short more h k d lt =
    subst (λ x. x < 256) (get_or-append-add short more k d) (h (length short + k) d (omega (arith, lt, length-append short more)))
