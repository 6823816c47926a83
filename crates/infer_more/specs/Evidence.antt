-- Which bytes of a buffer decide its wider answer.
use Rattle.std.specs.Prelude.{◌≡◌, ◌↔◌, ◌≤◌, ◌⊎◌, ℕ, IfSome, IsTrue, List, Option, MatchOption, length, nat_lt, slice_get, slice_index, take}
use Rattle.infer_deep.specs.Signatures.{MayBecome}
use Rattle.infer_evidence.specs.Evidence.{AgreesOn}
use Rattle.infer_evidence.specs.declared.ranges.Evidence.{Evidence}
use Rattle.infer_formats.specs.Markup.{IsRootOf, DecidesRoot}
use Rattle.infer_formats.specs.Open.{Stays}
use Rattle.infer.specs.Buffer.{IsBuffer}
use Rattle.infer_notation.specs.Alternative.{Accepted, Alternative}
use Rattle.infer_more.specs.Table.{further}
use Rattle.infer_more.specs.Index.{IsLeast, IsTried}
use Rattle.infer_more.specs.Wider.{IsWider, WidensAt}
use Rattle.infer_evidence.specs.Weighed.{HasParts}
use Rattle.infer_sig.specs.Signature.{has_part}
use Rattle.infer_more.specs.Listed.{part_listed, pieces_of}
use Rattle.infer_more.specs.declared.row_data.Alternative as code
use Rattle.infer_more.specs.declared.row_data.Alternative.TheVariants.{BinaryBytes, Bytes, Related}
use Rattle.infer_more.specs.declared.row_data.Bytes as listed
use Rattle.infer_more.specs.declared.row_data.Piece.{Piece}
use Rattle.infer_more.specs.declared.deciding_bytes.Question.{Question}
use Rattle.infer_more.specs.declared.deciding_bytes.RootRead.{RootRead}

-- every buffer that agrees with b on the evidence has this wider answer
abbrev pub Decides : Evidence → List ℕ → Option ℕ → Type 0
Decides e b answer = (c : List ℕ) → IsBuffer c → AgreesOn e b c → IsWider c answer

-- what agrees on the evidence after is what agrees on that before and of which P is known
abbrev pub Proves : Evidence → Evidence → List ℕ → (List ℕ → Type 0) → Type 0
Proves before after b P = (c : List ℕ) → IsBuffer c → AgreesOn after b c → AgreesOn before b c × P c

-- the signature of further row i accepts c just if it accepts b
abbrev pub IsAlikeAt : ℕ → List ℕ → List ℕ → Type 0
IsAlikeAt i b c = MatchOption (slice_get further i) (Unit {0}) (λ r. Accepted r.signature c ↔ Accepted r.signature b)

-- whatever bytes follow, it is told whether the signature accepts: it does so, or no bytes make it
abbrev pub IsSignatureDecided : List Alternative → List ℕ → Type 0
IsSignatureDecided signature b = Stays (Accepted signature) b ⊎ ¬ MayBecome (Accepted signature) b

-- and so of further row i
abbrev pub IsRowDecided : ℕ → List ℕ → Type 0
IsRowDecided i b = MatchOption (slice_get further i) (Unit {0}) (λ r. IsSignatureDecided r.signature b)

-- the root element that was read is that of b, and the front tells it
abbrev pub IsRootRead : RootRead → List ℕ → Type 0
IsRootRead read b = IsRootOf read.root b × IfSome read.front (λ n. (n ≤ length b) × DecidesRoot (take n b))

-- c has the byte of b at the place, or both end before it
abbrev pub IsSameAt : ℕ → List ℕ → List ℕ → Type 0
IsSameAt place b c = (nat_lt place (length c) ≡ nat_lt place (length b)) × (slice_index c place ≡ slice_index b place)

-- no row before the least widens the answer of the buffer
abbrev pub IsQuestion : Question → Type 0
IsQuestion q = IsRootRead q.read q.buf.now × ((i : ℕ) → WidensAt q.parent q.buf.now i → q.least ≤ i)

-- nor, of these, that of c
abbrev pub IsRuledOut : Question → List ℕ → List ℕ → Type 0
IsRuledOut q rows c = IsLeast (IsTried q.parent c rows) q.least q.least

-- the buffer has what the piece asks
abbrev pub HasPiece : Piece → List ℕ → Type 0
HasPiece p b = IsTrue (has_part b (part_listed p))

-- and the least length, and what each piece asks
abbrev pub HasBytes : List ℕ → listed.Bytes → Type 0
HasBytes b a = HasParts HasPiece b a.least (pieces_of a)

-- the alternative asks for bytes at fixed places alone, and the buffer has them not
abbrev pub LacksBytes : List ℕ → code.Alternative → Type 0
LacksBytes b (Bytes a) = ¬ HasBytes b a
LacksBytes b (BinaryBytes a) = ⊥
LacksBytes b (Related r) = ⊥
