-- Fixed signatures as a text writes them, as in `14: @0 "qoif" or 8: @4 {01 02}, @6 00..1F`.
use Rattle.std.specs.Prelude.{◌+◌, ◌==◌, ◌&&◌, ◌||◌, ℕ, zero, suc, Bool, true, false, not, List, [], ◌∷◌, Option, None, Some, codes, length, nat_le, option_map, if◌then◌else◌}
use Rattle.std.specs.Int.{is_in_range}
use Rattle.std.specs.List.{list_all, list_any}
use Rattle.std.specs.Str.{bytes_eq}
use Rattle.infer_sig.specs.Signature.{Alternative, Part, all_but, any_of, at_least, between, byte, fits, has_part, text}
use Rattle.infer_notation.specs.Tokens.{Token, bare, separator, quoted, set, token_at}
use Rattle.infer_notation.specs.Words.{◌>>=◌, byte_of, byte_with, bytes_of, is_blank, number_of}
use Rattle.infer_notation.specs.declared.fixed.Cursor.{Cursor}
use Rattle.infer_notation.specs.declared.fixed.Effect as effects
use Rattle.infer_notation.specs.declared.fixed.Effect.TheVariants as seen
use Rattle.infer_notation.specs.declared.signature.State.{State}
use Rattle.infer_notation.specs.declared.fixed.Wanted.{Wanted}
use Rattle.infer_notation.specs.declared.fixed.Wanted.TheVariants.{Length, Colon, At, Place, Bytes, More, Byte, Binary, Or}

-- the bytes from the first one of two up to the second one, as in "30..39"
abbrev pub range_of : List ℕ → Option (ℕ × ℕ)
range_of (a ∷ b ∷ c ∷ d ∷ e ∷ f ∷ []) =
    if c == 0x2E && d == 0x2E then (byte_with a b >>= λ low. option_map (λ high. (low, high)) (byte_with e f)) else None
range_of other = None

-- an alternative, and whether it asks for a byte of binary data too
pub record Asked : Type 0 where
  pub bytes : Alternative
  pub binary : Bool

-- what a token adds: nothing, a further part of the last alternative, binary data of it, or a further alternative of a
-- least length
pub data Effect : Type 0 where
  nothing : Effect
  part : Part → Effect
  asks_binary : Effect
  opens : ℕ → Effect

abbrev pub cursor : Wanted → ℕ → ℕ → Cursor
cursor wanted least place = record { wanted = wanted; least = least; place = place }

-- a part of that many bytes at the place, all of them within the least length
abbrev pub within : ℕ → ℕ → ℕ → Part → Option (Cursor × Effect)
within least place size p = if nat_le (place + size) least then Some (cursor More least (place + size), part p) else None

-- what a bare word asks for: the bytes that it writes, or one of a range
abbrev pub word_part : ℕ → ℕ → List ℕ → Option (ℕ × ℕ) → Option (Cursor × Effect)
word_part least place w None = bytes_of w >>= λ xs. within least place (length xs) (text place xs)
word_part least place w (Some range) =
    if nat_le range.0 range.1 then within least place 1 (byte place (between range.0 range.1)) else None

-- a set has one byte at least
abbrev pub set_part : ℕ → ℕ → List ℕ → Option (Cursor × Effect)
set_part least place [] = None
set_part least place (x ∷ xs) = within least place 1 (byte place (any_of (x ∷ xs)))

abbrev pub set_read : ℕ → ℕ → List ℕ → Option (Cursor × Effect)
set_read least place digits = bytes_of digits >>= set_part least place

-- what a token asks for at the place
abbrev pub piece : ℕ → ℕ → Token → Option (Cursor × Effect)
piece least place (quoted xs) = within least place (length xs) (text place xs)
piece least place (set digits) = set_read least place digits
piece least place (separator m) = None
piece least place (bare w) =
    if bytes_eq w (codes "not") then Some (cursor Byte least place, nothing) else word_part least place w (range_of w)

-- what follows on a separator that is wanted
abbrev pub after_separator : ℕ → Wanted → ℕ → ℕ → Token → Option (Cursor × Effect)
after_separator m wanted least place (separator x) = if x == m then Some (cursor wanted least place, nothing) else None
after_separator m wanted least place other = None

abbrev pub length_read : Token → Option (Cursor × Effect)
length_read (bare w) = option_map (λ n. (cursor Colon n 0, opens n)) (number_of w)
length_read other = None

-- a part begins at or after the end of the one before it
abbrev pub place_read : ℕ → ℕ → Token → Option (Cursor × Effect)
place_read least place (bare w) = number_of w >>= λ p. if nat_le place p then Some (cursor Bytes least p, nothing) else None
place_read least place other = None

abbrev pub more_read : ℕ → ℕ → Token → Option (Cursor × Effect)
more_read least place (separator m) = after_separator 0x2C At least place (separator m)
more_read least place (bare w) =
    if bytes_eq w (codes "or") then Some (cursor Length 0 0, nothing)
    else (if bytes_eq w (codes "and") then Some (cursor Binary least place, nothing) else piece least place (bare w))
more_read least place other = piece least place other

-- a word that is wanted
abbrev pub after_word_of : List ℕ → Cursor → Effect → Token → Option (Cursor × Effect)
after_word_of w c e (bare v) = if bytes_eq v w then Some (c, e) else None
after_word_of w c e other = None

abbrev pub other_byte : ℕ → ℕ → Token → Option (Cursor × Effect)
other_byte least place (bare w) = byte_of w >>= λ x. within least place 1 (byte place (all_but x))
other_byte least place other = None

-- where the reading goes on after the token, and what it adds
abbrev pub step_at : Wanted → ℕ → ℕ → Token → Option (Cursor × Effect)
step_at Length least place t = length_read t
step_at Colon least place t = after_separator 0x3A At least place t
step_at At least place t = after_separator 0x40 Place least place t
step_at Place least place t = place_read least place t
step_at Bytes least place t = piece least place t
step_at More least place t = more_read least place t
step_at Byte least place t = other_byte least place t
step_at Binary least place t = after_word_of (codes "binary") (cursor Or 0 0) asks_binary t
step_at Or least place t = after_word_of (codes "or") (cursor Length 0 0) nothing t

unfoldable pub step : Cursor → Token → Option (Cursor × Effect)
step c t = step_at c.wanted c.least c.place t

-- what is still to come of a signature: parts of the last alternative, and whether it asks for binary data; and further
-- alternatives
pub record Rest : Type 0 where
  pub parts : List Part
  pub binary : Bool
  pub alternatives : List Asked

abbrev pub rest_of : List Part → Bool → List Asked → Rest
rest_of parts binary alternatives = record { parts = parts; binary = binary; alternatives = alternatives }

abbrev pub asked_of : ℕ → List Part → Bool → Asked
asked_of n parts binary = record { bytes = at_least n parts; binary = binary }

abbrev pub joined : Effect → Rest → Rest
joined nothing rest = rest
joined (part p) rest = rest_of (p ∷ rest.parts) rest.binary rest.alternatives
joined asks_binary rest = rest_of rest.parts true rest.alternatives
joined (opens n) rest = rest_of [] false (asked_of n rest.parts rest.binary ∷ rest.alternatives)

-- a signature may end after a part, and after "binary"
abbrev pub ended : Wanted → Option Rest
ended More = Some (rest_of [] false [])
ended Or = Some (rest_of [] false [])
ended other = None

-- what the text adds, after some bytes of a token that was read already
abbrev pub rest_at : Cursor → ℕ → List ℕ → Option Rest
rest_at c read [] = ended c.wanted
rest_at c (suc read) (x ∷ xs) = rest_at c read xs
rest_at c zero (x ∷ xs) =
    if is_blank x then rest_at c zero xs
    else (token_at (x ∷ xs) >>= λ t. step c t.0 >>= λ s. option_map (joined s.1) (rest_at s.0 t.1 xs))

abbrev pub start : Cursor
start = cursor Length 0 0

-- the alternatives that the text describes
abbrev pub alternatives_of : List ℕ → Option (List Asked)
alternatives_of t = option_map (λ rest. rest.alternatives) (rest_at start 0 t)

-- a byte of binary data
abbrev pub is_data_byte : ℕ → Bool
is_data_byte x = nat_le x 0x08 || x == 0x0B || is_in_range 0x0E 0x1A x || is_in_range 0x1C 0x1F x

abbrev pub has_data : List ℕ → Bool
has_data buf = list_any is_data_byte buf

-- the buffer has the bytes, and binary data if it is asked for
abbrev pub fits_asked : List ℕ → Asked → Bool
fits_asked buf a = fits buf a.bytes && (not a.binary || has_data buf)

abbrev pub accepts : List Asked → List ℕ → Bool
accepts alternatives buf = list_any (fits_asked buf) alternatives

-- what a buffer makes of an effect
abbrev pub effect_seen : List ℕ → Effect → effects.Effect
effect_seen buf nothing = seen.Nothing
effect_seen buf (part p) = seen.Has (has_part buf p)
effect_seen buf asks_binary = seen.Has (has_data buf)
effect_seen buf (opens n) = seen.Opens (nat_le n (length buf))

abbrev pub step_seen : List ℕ → Cursor × Effect → Cursor × effects.Effect
step_seen buf s = (s.0, effect_seen buf s.1)

-- a part that is within the least length, as a buffer sees it
abbrev pub within_seen : ℕ → ℕ → ℕ → Bool → Option (Cursor × effects.Effect)
within_seen least place size has = if nat_le (place + size) least then Some (cursor More least (place + size), seen.Has has) else None

-- what a buffer has, given whether an earlier alternative fits and whether the last one does so far
abbrev pub rest_seen : List ℕ → Bool → Bool → Rest → Bool
rest_seen buf any last rest = any || (last && (list_all (has_part buf) rest.parts && (not rest.binary || has_data buf))) || accepts rest.alternatives buf

abbrev pub state : Cursor → Bool → Bool → State
state cursor any last = record { cursor = cursor; any = any; last = last }

abbrev pub state_taken : State → Cursor → effects.Effect → State
state_taken s c seen.Nothing = state c s.any s.last
state_taken s c (seen.Has has) = state c s.any (s.last && has)
state_taken s c (seen.Opens long) = state c (s.any || s.last) long

-- what the buffer has in the end, if the text goes on so
abbrev pub given : List ℕ → State → ℕ → List ℕ → Option Bool
given buf s read t = option_map (rest_seen buf s.any s.last) (rest_at s.cursor read t)
