-- What a step that is taken is: where the reading stands, the token, where it goes on, and what it adds.
use Rattle.infer_notation.proofs.Common.{[], ◌≡◌, ◌+◌, ◌≤◌, ◌==◌, ◌∷◌, ℕ, true, List, Option, Some, None, codes, cond, length, nat_le, inl, inr, refl, sym, subst, bytes_eq, cases_Bool, eqb-true, leb-true, cond_some, bytes_eq-Decides, Part, all_but, any_of, between, byte, text, Effect, asks_binary, cursor, more_read, opens, part, piece, range_of, set_part, step_at, within, word_part, bare, separator, quoted, byte_of, bytes_of, number_of, Cursor, Wanted, Length, Colon, At, Place, More, Byte, Binary, Or}
use Rattle.infer_notation.specs.Fixed.{nothing}
use Rattle.infer_notation.specs.Grammar.{IsPiece, a_range, a_set, a_text, some_bytes}
use Rattle.infer_notation.specs.Tokens.{Token, set}
use Rattle.infer_notation.specs.declared.fixed.Wanted.TheVariants.{Bytes}
use Rattle.infer_notation.proofs.OptionLemmas.{bind_some, cond_given, map_some}

pub data Steps : Wanted → ℕ → ℕ → Token → Cursor → Effect → Type 0 where
  counted : (n p : ℕ) (w : List ℕ) (m : ℕ) → number_of w ≡ Some m → Steps Length n p (bare w) (cursor Colon m 0) (opens m)
  begun : (n p : ℕ) → Steps Colon n p (separator 0x3A) (cursor At n p) nothing
  located : (n p : ℕ) → Steps At n p (separator 0x40) (cursor Place n p) nothing
  moved : (n p : ℕ) (w : List ℕ) (q : ℕ) → number_of w ≡ Some q → p ≤ q → Steps Place n p (bare w) (cursor Bytes n q) nothing
  negated : (n p : ℕ) → Steps Bytes n p (bare (codes "not")) (cursor Byte n p) nothing
  wanted : (n p : ℕ) (t : Token) (q : Part) (size : ℕ) → IsPiece p (t ∷ []) q size → p + size ≤ n → Steps Bytes n p t (cursor More n (p + size)) (part q)
  again : (n p : ℕ) (t : Token) (d : Cursor) (e : Effect) → Steps Bytes n p t d e → Steps More n p t d e
  parted : (n p : ℕ) → Steps More n p (separator 0x2C) (cursor At n p) nothing
  joins : (n p : ℕ) → Steps More n p (bare (codes "and")) (cursor Binary n p) nothing
  ends : (n p : ℕ) → Steps More n p (bare (codes "or")) (cursor Length 0 0) nothing
  excluded : (n p : ℕ) (w : List ℕ) (x : ℕ) → byte_of w ≡ Some x → p + 1 ≤ n → Steps Byte n p (bare w) (cursor More n (p + 1)) (part (byte p (all_but x)))
  with_binary : (n p : ℕ) → Steps Binary n p (bare (codes "binary")) (cursor Or 0 0) asks_binary
  further : (n p : ℕ) → Steps Or n p (bare (codes "or")) (cursor Length 0 0) nothing

abbrev On : Wanted → ℕ → ℕ → Token → Cursor × Effect → Type 0
On w n p t s = Steps w n p t s.0 s.1

-- of a separator or a word that is wanted
on_separator : (w : Wanted) (n p m x : ℕ) (s : Cursor × Effect) (c : Cursor) → Steps w n p (separator m) c nothing → cond (x == m) (Some (c, nothing)) None ≡ Some s → On w n p (separator x) s
on_separator w n p m x s c h is =
    let (same, e) = cond_some (x == m) (c, nothing) s is in
    subst (On w n p (separator x)) e (subst (λ y. Steps w n p (separator y) c nothing) (sym (eqb-true x m same)) h)

on_word : (w : Wanted) (n p : ℕ) (v u : List ℕ) (s : Cursor × Effect) (c : Cursor) (f : Effect) → Steps w n p (bare v) c f → bytes_eq u v ≡ true
    → ◌≡◌ {A = Option (Cursor × Effect)} (Some (c, f)) (Some s) → On w n p (bare u) s
on_word w n p v u s c f h same is =
    let e : (c, f) ≡ s = cc in subst (On w n p (bare u)) e (subst (λ y. Steps w n p (bare y) c f) (sym ((bytes_eq-Decides u v).0 same)) h)

on_within : (n p : ℕ) (t : Token) (q : Part) (size : ℕ) (s : Cursor × Effect) → IsPiece p (t ∷ []) q size → within n p size q ≡ Some s → On Bytes n p t s
on_within n p t q size s h is =
    let (fits, e) = cond_some (nat_le (p + size) n) (cursor More n (p + size), part q) s is in
    subst (On Bytes n p t) e (wanted n p t q size h (leb-true (p + size) n fits))

on_set : (n p : ℕ) (digits xs : List ℕ) (s : Cursor × Effect) → bytes_of digits ≡ Some xs → set_part n p xs ≡ Some s → On Bytes n p (set digits) s
on_set n p digits [] s are is = absurd cc
on_set n p digits (x ∷ xs) s are is = on_within n p (set digits) (byte p (any_of (x ∷ xs))) 1 s (a_set p digits x xs are) is

on_range : (n p : ℕ) (w : List ℕ) (o : Option (ℕ × ℕ)) (s : Cursor × Effect) → range_of w ≡ o → word_part n p w o ≡ Some s → On Bytes n p (bare w) s
on_range n p w None s range is =
    let (xs, are, e) = bind_some (bytes_of w) (λ xs. within n p (length xs) (text p xs)) s is in
    on_within n p (bare w) (text p xs) (length xs) s (some_bytes p w xs range are) e
on_range n p w (Some (low, high)) s range is =
    let (order, e) = cond_given (nat_le low high) (within n p 1 (byte p (between low high))) s is in
    on_within n p (bare w) (byte p (between low high)) 1 s (a_range p w low high range (leb-true low high order)) e

on_piece : (n p : ℕ) (t : Token) (s : Cursor × Effect) → piece n p t ≡ Some s → On Bytes n p t s
on_piece n p (quoted xs) s is = on_within n p (quoted xs) (text p xs) (length xs) s (a_text p xs) is
on_piece n p (set digits) s is = let (xs, are, e) = bind_some (bytes_of digits) (set_part n p) s is in on_set n p digits xs s are e
on_piece n p (bare w) s is = elim (cases_Bool (bytes_eq w (codes "not"))) [
  | inl same ↦ on_word Bytes n p (codes "not") w s (cursor Byte n p) nothing (negated n p) same (rw same at is)
  | inr other ↦ on_range n p w (range_of w) s refl (rw other at is)
]
on_piece n p (separator m) s is = absurd cc

on_more : (n p : ℕ) (w : List ℕ) (s : Cursor × Effect) → more_read n p (bare w) ≡ Some s → On More n p (bare w) s
on_more n p w s is = elim (cases_Bool (bytes_eq w (codes "or"))) [
  | inl same ↦ on_word More n p (codes "or") w s (cursor Length 0 0) nothing (ends n p) same (rw same at is)
  | inr other ↦ elim (cases_Bool (bytes_eq w (codes "and"))) [
    | inl same ↦ on_word More n p (codes "and") w s (cursor Binary n p) nothing (joins n p) same (rw (other, same) at is)
    | inr neither ↦ again n p (bare w) s.0 s.1 (on_piece n p (bare w) s (rw (other, neither) at is))
  ]
]

pub steps_so : (w : Wanted) (n p : ℕ) (t : Token) (s : Cursor × Effect) → step_at w n p t ≡ Some s → Steps w n p t s.0 s.1
steps_so Length n p (bare w) s is = let (m, are, e) = map_some (λ m. (cursor Colon m 0, opens m)) (number_of w) s is in subst (On Length n p (bare w)) e (counted n p w m are)
steps_so Colon n p (separator x) s is = on_separator Colon n p 0x3A x s (cursor At n p) (begun n p) is
steps_so At n p (separator x) s is = on_separator At n p 0x40 x s (cursor Place n p) (located n p) is
steps_so Place n p (bare w) s is =
    let (q, are, chosen) = bind_some (number_of w) _ s is in
    let (order, e) = cond_some (nat_le p q) (cursor Bytes n q, nothing) s chosen in
    subst (On Place n p (bare w)) e (moved n p w q are (leb-true p q order))
steps_so Bytes n p t s is = on_piece n p t s is
steps_so More n p (separator x) s is = on_separator More n p 0x2C x s (cursor At n p) (parted n p) is
steps_so More n p (bare w) s is = on_more n p w s is
steps_so More n p (quoted xs) s is = again n p (quoted xs) s.0 s.1 (on_piece n p (quoted xs) s is)
steps_so More n p (set xs) s is = again n p (set xs) s.0 s.1 (on_piece n p (set xs) s is)
steps_so Byte n p (bare w) s is =
    let (x, are, chosen) = bind_some (byte_of w) (λ x. within n p 1 (byte p (all_but x))) s is in
    let (fits, e) = cond_some (nat_le (p + 1) n) (cursor More n (p + 1), part (byte p (all_but x))) s chosen in
    subst (On Byte n p (bare w)) e (excluded n p w x are (leb-true (p + 1) n fits))
steps_so Binary n p (bare w) s is =
    let (same, e) = cond_given (bytes_eq w (codes "binary")) _ s is in
    on_word Binary n p (codes "binary") w s (cursor Or 0 0) asks_binary (with_binary n p) same e
steps_so Or n p (bare w) s is =
    let (same, e) = cond_given (bytes_eq w (codes "or")) _ s is in
    on_word Or n p (codes "or") w s (cursor Length 0 0) nothing (further n p) same e
steps_so w n p t s is = absurd cc
