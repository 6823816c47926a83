-- Texts as tokens write them: one between quotes, or pieces that are joined, as in `0A "v "`.
use Rattle.std.specs.Prelude.{ℕ, List, [], ◌∷◌, ◌++◌, Option, None, Some, length, map, nat_le, option_map, take, if◌then◌else◌}
use denote.Ref.{Bor}
use Rattle.infer_notation.specs.Tokens.{Token, bare, is_word, quoted, token_listed}
use Rattle.infer_notation.specs.Words.{◌>>=◌, bytes_of}
use Rattle.infer_notation.specs.declared.texts.Joined.{Joined}
use Rattle.infer_notation.specs.declared.texts.Text as texts
use Rattle.infer_notation.specs.declared.texts.Text.TheVariants as listed
use Rattle.infer_formats.specs.declared.token.Token as declared

-- the bytes of a piece: a text between quotes, or bytes
abbrev pub piece_of : Token → Option (List ℕ)
piece_of (quoted t) = Some t
piece_of (bare w) = bytes_of w
piece_of other = None

-- those of pieces, one after the other
abbrev pub pieces_of : List Token → Option (List ℕ)
pieces_of [] = Some []
pieces_of (t ∷ ts) = piece_of t >>= λ xs. option_map (λ ys. xs ++ ys) (pieces_of ts)

-- it has at most 64 bytes
abbrev pub in_room : List ℕ → Option (List ℕ)
in_room xs = if nat_le (length xs) 64 then Some xs else None

-- with the bytes before them
abbrev pub added : List ℕ → Option (List ℕ) → Option (List ℕ)
added before o = o >>= λ xs. in_room (before ++ xs)

-- a text between quotes, or pieces of at most 64 bytes in all
abbrev pub text_in : List Token → Option (List ℕ)
text_in [] = None
text_in (quoted t ∷ []) = Some t
text_in ts = pieces_of ts >>= in_room

abbrev pub joined_listed : Joined → List ℕ
joined_listed j = take j.count j.bytes

abbrev pub text_listed : texts.Text → List ℕ
text_listed (listed.Whole t) = t.now
text_listed (listed.Pieces j) = joined_listed j

-- what stands before the first of these words, and after it, if there is one
abbrev pub parted_at : List ℕ → List Token → List Token × Option (List Token)
parted_at w [] = ([], None)
parted_at w (t ∷ ts) = if is_word w t then ([], Some ts) else (t ∷ (parted_at w ts).0, (parted_at w ts).1)

abbrev pub after_listed : Option (Bor (List declared.Token)) → Option (List Token)
after_listed o = option_map (λ ts. map token_listed ts.now) o

abbrev pub parted_listed : Bor (List declared.Token) × Option (Bor (List declared.Token)) → List Token × Option (List Token)
parted_listed p = (map token_listed p.0.now, after_listed p.1)

-- the text before the first of these words, and what stands after it
abbrev pub text_before : List ℕ → List Token → Option (List ℕ × Option (List Token))
text_before w ts = option_map (λ t. (t, (parted_at w ts).1)) (text_in (parted_at w ts).0)

abbrev pub before_listed : texts.Text × Option (Bor (List declared.Token)) → List ℕ × Option (List Token)
before_listed p = (text_listed p.0, after_listed p.1)
