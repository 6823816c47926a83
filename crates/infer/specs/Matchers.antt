-- The signatures of all matchers, and what holds of a signature as buffers grow.
use Rattle.std.specs.Prelude.{◌<◌, ℕ, Bool, true, false, List, [], ◌∷◌, ◌++◌, length, map, not, IsTrue}
use Rattle.std.specs.List.{HoldsAt}
use Rattle.infer_deep.specs.Signatures.{IsNear}
use Rattle.infer_sig.specs.App.{coff_i386, coff_x64, coff_ia64}
use Rattle.infer.specs.BuiltIn.{BuiltIn, fixed, matroska, pdf, IsAccepted}
use Rattle.infer.specs.Table.{signature_of, table}

-- the signatures of all matchers: those of the rows by their numbers, then those of three without a row
unfoldable pub signatures : List BuiltIn
signatures = map (λ r. r.signature) table ++ fixed coff_i386 ∷ fixed coff_x64 ∷ fixed coff_ia64 ∷ []

-- more than the first 1024 bytes can decide about it: it is neither a fixed signature nor a window
abbrev pub is_far : BuiltIn → Bool
is_far (fixed alternatives) = false
is_far pdf = false
is_far (matroska doc_type) = false
is_far _ = true

-- so the row with the number m is
unfoldable pub is_far_row : ℕ → Bool
is_far_row m = is_far (signature_of m)

-- every matcher that is not of a far row answers on at least 1024 bytes as on the first 1024
abbrev pub OthersAreNear : List BuiltIn → Type 0
OthersAreNear ss = (m : ℕ) → m < length ss → IsTrue (not (is_far_row m)) → HoldsAt (λ s. IsNear (IsAccepted s)) ss m
