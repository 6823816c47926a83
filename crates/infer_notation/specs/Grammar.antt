-- The grammar of fixed signatures, over their tokens.
use Rattle.std.specs.Prelude.{◌≡◌, ◌+◌, ◌≤◌, ℕ, zero, suc, true, false, List, [], ◌∷◌, ◌++◌, Option, None, Some, codes, length, option_map, if◌then◌else◌}
use Rattle.std.specs.Option.{option_map_or}
use Rattle.infer_sig.specs.Signature.{Part, all_but, any_of, between, byte, text}
use Rattle.infer_notation.specs.Fixed.{Asked, Rest, asked_of, range_of, rest_of}
use Rattle.infer_notation.specs.Tokens.{Token, bare, separator, quoted, set, token_at}
use Rattle.infer_notation.specs.Words.{◌>>=◌, byte_of, bytes_of, is_blank, number_of}

-- the tokens of a text, after some bytes of one that was read already
abbrev pub tokens_at : ℕ → List ℕ → Option (List Token)
tokens_at read [] = Some []
tokens_at (suc read) (x ∷ xs) = tokens_at read xs
tokens_at zero (x ∷ xs) =
    if is_blank x then tokens_at zero xs else (token_at (x ∷ xs) >>= λ t. option_map (λ ts. t.0 ∷ ts) (tokens_at t.1 xs))

-- blanks may stand before each, and each is as long as it can be
abbrev pub tokens_of : List ℕ → Option (List Token)
tokens_of t = tokens_at 0 t

-- what is left of a text, after some bytes of a token that was read already, from the first place on at which a token is to
-- stand and none does. It is empty if there is no such place.
abbrev pub unread_at : ℕ → List ℕ → List ℕ
unread_at read [] = []
unread_at (suc read) (x ∷ xs) = unread_at read xs
unread_at zero (x ∷ xs) =
    if is_blank x then unread_at zero xs else option_map_or (λ t. unread_at t.1 xs) (token_at (x ∷ xs)) (x ∷ xs)

abbrev pub unread : List ℕ → List ℕ
unread t = unread_at 0 t

-- what is asked of the bytes from a place on: the part, how many bytes it takes, and the tokens that say so
pub data IsPiece : ℕ → List Token → Part → ℕ → Type 0 where
  a_text : (p : ℕ) (xs : List ℕ) → IsPiece p (quoted xs ∷ []) (text p xs) (length xs)
  some_bytes : (p : ℕ) (w xs : List ℕ) → range_of w ≡ None → bytes_of w ≡ Some xs → IsPiece p (bare w ∷ []) (text p xs) (length xs)
  a_range : (p : ℕ) (w : List ℕ) (low high : ℕ) → range_of w ≡ Some (low, high) → low ≤ high → IsPiece p (bare w ∷ []) (byte p (between low high)) 1
  a_set : (p : ℕ) (digits : List ℕ) (x : ℕ) (xs : List ℕ) → bytes_of digits ≡ Some (x ∷ xs) → IsPiece p (set digits ∷ []) (byte p (any_of (x ∷ xs))) 1
  another : (p : ℕ) (w : List ℕ) (x : ℕ) → byte_of w ≡ Some x → IsPiece p (bare (codes "not") ∷ bare w ∷ []) (byte p (all_but x)) 1

-- what a signature is made of: alternatives; parts, pieces and what follows a piece, in an alternative of a least length
-- from a place on; and what follows an alternative
pub data Symbol : Type 0 where
  signature : Symbol
  parts : ℕ → ℕ → Symbol
  pieces : ℕ → ℕ → Symbol
  rest : ℕ → ℕ → Symbol
  others : Symbol

-- The tokens are one of that symbol, which adds these parts to the alternative that is open, and binary data or not, and
-- these alternatives.
--     signature  is  NUMBER ":" parts
--     parts      is  "@" NUMBER pieces, from no place before the end of the part before it
--     pieces     is  a piece within the least length, and a rest
--     rest       is  pieces, or "," parts, or "and" "binary" others, or others
--     others     is  nothing, or "or" signature
pub data Derives : Symbol → List Token → Rest → Type 0 where
  opened : (w : List ℕ) (n : ℕ) (ts : List Token) (r : Rest) → number_of w ≡ Some n → Derives (parts n 0) ts r
      → Derives signature (bare w ∷ separator 0x3A ∷ ts) (rest_of [] false (asked_of n r.parts r.binary ∷ r.alternatives))
  placed : (n p : ℕ) (w : List ℕ) (q : ℕ) (ts : List Token) (r : Rest) → number_of w ≡ Some q → p ≤ q → Derives (pieces n q) ts r
      → Derives (parts n p) (separator 0x40 ∷ bare w ∷ ts) r
  asked : (n p : ℕ) (written : List Token) (part : Part) (size : ℕ) (ts : List Token) (r : Rest) → IsPiece p written part size → p + size ≤ n
      → Derives (rest n (p + size)) ts r → Derives (pieces n p) (written ++ ts) (rest_of (part ∷ r.parts) r.binary r.alternatives)
  more : (n p : ℕ) (ts : List Token) (r : Rest) → Derives (pieces n p) ts r → Derives (rest n p) ts r
  comma : (n p : ℕ) (ts : List Token) (r : Rest) → Derives (parts n p) ts r → Derives (rest n p) (separator 0x2C ∷ ts) r
  with_data : (n p : ℕ) (ts : List Token) (ys : List Asked) → Derives others ts (rest_of [] false ys)
      → Derives (rest n p) (bare (codes "and") ∷ bare (codes "binary") ∷ ts) (rest_of [] true ys)
  without : (n p : ℕ) (ts : List Token) (ys : List Asked) → Derives others ts (rest_of [] false ys) → Derives (rest n p) ts (rest_of [] false ys)
  ended : Derives others [] (rest_of [] false [])
  other : (ts : List Token) (ys : List Asked) → Derives signature ts (rest_of [] false ys) → Derives others (bare (codes "or") ∷ ts) (rest_of [] false ys)

-- the text describes the alternatives
abbrev pub IsSignature : List ℕ → List Asked → Type 0
IsSignature t ys = (ts : List Token) × (tokens_of t ≡ Some ts) × Derives signature ts (rest_of [] false ys)
