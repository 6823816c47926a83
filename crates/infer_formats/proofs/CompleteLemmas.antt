-- Whatever symbols are left, some bytes complete them.
use Rattle.infer_formats.proofs.Common.{[], ℕ, zero, suc, ◌≤◌, inl, inr, List, ◌∷◌, ◌++◌, ◌-◌, ◌/◌, ◌%◌, refl, arith, Symbol, range, blanks, value, items, more_items, members, member, more_members, chars, char, escape, hex, number, integer, fraction, exponent, power, digits, text, byte, digit, Stands, nothing, one, by_rule, first_in, frames, left, more_in, next_left, Token, Chars, First, Colon, Next, Between, InKey, InValue, ◌≡◌, Bool, true, IsAmong, and_parts, leb-true, ◌&&◌, nat_le, rules}
use Rattle.infer_formats.proofs.JsonLemmas.{value_begins}

abbrev pub Completes : List Symbol → Type 0
Completes ss = (v : List ℕ) × Stands ss v

-- each range has a byte
abbrev pub AllHold : List Symbol → Type 0
AllHold [] = Unit {0}
AllHold (range low high ∷ ss) = (low ≤ high) × AllHold ss
AllHold (_ ∷ ss) = AllHold ss

by_one : (low high : ℕ) (ss : List Symbol) → low ≤ high → Completes ss → Completes (range low high ∷ ss)
by_one low high ss l (v, d) = (low ∷ v, one (omega arith) l d)

-- by a rule of one byte, and by one of none
by_byte : (low high : ℕ) (a : Symbol) (ss : List Symbol) → low ≤ high → IsAmong (range low high ∷ []) (rules a) → Completes ss → Completes (a ∷ ss)
by_byte low high a ss l m (v, d) = (low ∷ v, by_rule (range low high ∷ []) m (one (omega arith) l d))

by_none : (a : Symbol) (ss : List Symbol) → IsAmong [] (rules a) → Completes ss → Completes (a ∷ ss)
by_none a ss m (v, d) = (v, by_rule [] m d)

by_chars : (ss : List Symbol) → Completes ss → Completes (chars ∷ ss)
by_chars ss h = by_byte 0x22 0x22 chars ss (omega arith) (inl refl) h

by_value : (n : ℕ) (ss : List Symbol) → Completes ss → Completes (value n ∷ ss)
by_value n ss h =
    let (v, d) = by_chars ss h in
    (0x22 ∷ v, (value_begins n 0x22 ss v (λ e. omega arith) (λ e. omega arith)).1 (inr (inr (inr (inl (refl, d))))))

by_member : (n : ℕ) (ss : List Symbol) → Completes ss → Completes (member n ∷ ss)
by_member n ss h =
    let colon = by_one 0x3A 0x3A (blanks ∷ value n ∷ ss) (omega arith) (by_none blanks (value n ∷ ss) (inl refl) (by_value n ss h)) in
    let quote = by_one 0x22 0x22 _ (omega arith) (by_chars _ (by_none blanks _ (inl refl) colon)) in
    (quote.0, by_rule _ (inl refl) quote.1)

by_number : (ss : List Symbol) → Completes ss → Completes (number ∷ ss)
by_number ss h =
    let part = by_none fraction (exponent ∷ ss) (inl refl) (by_none exponent ss (inl refl) h) in
    let b = by_byte 0x30 0x30 integer (fraction ∷ exponent ∷ ss) (omega arith) (inl refl) part in
    (b.0, by_rule (integer ∷ fraction ∷ exponent ∷ []) (inl refl) b.1)

by_text : (ss : List Symbol) → Completes ss → Completes (text ∷ ss)
by_text ss h =
    let close = by_byte 0x5D 0x5D (items 127) ss (omega arith) (inl refl) h in
    let b = by_one 0x5B 0x5B (blanks ∷ items 127 ∷ ss) (omega arith) (by_none blanks (items 127 ∷ ss) (inl refl) close) in
    (b.0, by_rule (byte 0x5B ∷ blanks ∷ items 127 ∷ []) (inl refl) b.1)

by_power : (ss : List Symbol) → Completes ss → Completes (power ∷ ss)
by_power ss h =
    let b = by_one 0x30 0x39 (digits ∷ ss) (omega arith) (by_none digits ss (inl refl) h) in
    (b.0, by_rule (digit ∷ digits ∷ []) (inl refl) b.1)

fill : (a : Symbol) (ss : List Symbol) → AllHold (a ∷ []) → Completes ss → Completes (a ∷ ss)
fill (range low high) ss l h = by_one low high ss l.0 h
fill (value n) ss l h = by_value n ss h
fill (items n) ss l h = by_byte 0x5D 0x5D (items n) ss (omega arith) (inl refl) h
fill (more_items n) ss l h = by_byte 0x5D 0x5D (more_items n) ss (omega arith) (inl refl) h
fill (members n) ss l h = by_byte 0x7D 0x7D (members n) ss (omega arith) (inl refl) h
fill (member n) ss l h = by_member n ss h
fill (more_members n) ss l h = by_byte 0x7D 0x7D (more_members n) ss (omega arith) (inl refl) h
fill chars ss l h = by_chars ss h
fill char ss l h = by_byte 0x20 0x21 char ss (omega arith) (inl refl) h
fill escape ss l h = by_byte 0x22 0x22 escape ss (omega arith) (inl refl) h
fill hex ss l h = by_byte 0x30 0x39 hex ss (omega arith) (inl refl) h
fill number ss l h = by_number ss h
fill integer ss l h = by_byte 0x30 0x30 integer ss (omega arith) (inl refl) h
fill power ss l h = by_power ss h
fill text ss l h = by_text ss h
fill a ss l h = by_none a ss (inl refl) h

one_holds : (a : Symbol) (ss : List Symbol) → AllHold (a ∷ ss) → AllHold (a ∷ []) × AllHold ss
one_holds (range low high) ss h = ((h.0, tt), h.1)
one_holds _ ss h = (tt, h)

pub completes : (ss : List Symbol) → AllHold ss → Completes ss
completes [] h = ([], nothing)
completes (a ∷ ss) h = let p = one_holds a ss h in fill a ss p.0 (completes ss p.1)

-- so do those that are left of a token, and where a reader stands
abbrev holds : List Symbol → Bool
holds [] = true
holds (range low high ∷ us) = nat_le low high && holds us
holds (_ ∷ us) = holds us

holds_so : (us ss : List Symbol) → holds us ≡ true → AllHold ss → AllHold (us ++ ss)
holds_so [] ss e h = h
holds_so (range low high ∷ us) ss e h =
    let parts = and_parts (nat_le low high) (holds us) e in (leb-true low high parts.0, holds_so us ss parts.1 h)
holds_so (_ ∷ us) ss e h = holds_so us ss e h

left_hold : (t : Token) → holds (left t) ≡ true
left_hold Chars = refl
left_hold _ = refl

pub token_holds : (t : Token) (ss : List Symbol) → AllHold ss → AllHold (left t ++ ss)
token_holds t ss h = holds_so (left t) ss (left_hold t) h

more_holds : (kind n : ℕ) (ss : List Symbol) → AllHold ss → AllHold (more_in kind n ∷ ss)
more_holds zero n ss h = h
more_holds (suc k) n ss h = h

first_holds : (kind n : ℕ) (ss : List Symbol) → AllHold ss → AllHold (first_in kind n ∷ ss)
first_holds zero n ss h = h
first_holds (suc k) n ss h = h

frames_hold : (d k : ℕ) (ss : List Symbol) → AllHold ss → AllHold (frames d k ss)
unfolding frames
frames_hold zero k ss h = h
frames_hold (suc d) k ss h = more_holds (k % 2) (128 - suc d) (frames d (k / 2) ss) (frames_hold d (k / 2) ss h)

pub next_holds : (n : Next) (d k : ℕ) (ss : List Symbol) → AllHold ss → AllHold (next_left n d k ss)
next_holds (Between First) d k ss h =
    first_holds (k % 2) (128 - d) (frames (d - 1) (k / 2) ss) (frames_hold (d - 1) (k / 2) ss h)
next_holds (Between Colon) d k ss h = (omega arith, frames_hold d k ss h)
next_holds (InKey t) d k ss h =
    token_holds t (blanks ∷ byte 0x3A ∷ blanks ∷ value (128 - d) ∷ frames d k ss) (omega arith, frames_hold d k ss h)
next_holds (InValue t) d k ss h = token_holds t (frames d k ss) (frames_hold d k ss h)
next_holds _ d k ss h = frames_hold d k ss h
