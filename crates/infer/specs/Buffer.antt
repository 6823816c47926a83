-- Buffers and streams: lists of bytes.
use Rattle.std.specs.Prelude.{◌<◌, ℕ, List, All, take}

-- a buffer is a list of bytes
abbrev pub IsBuffer : List ℕ → Type 0
IsBuffer b = All (λ x. x < 256) b

-- the first n bytes of a stream, or all if it has fewer
abbrev pub head : ℕ → List ℕ → List ℕ
head n stream = take n stream
