-- Texts that are put together are cut where they were joined.
use Rattle.std.proofs.Common.{◌≡◌, ◌==◌, ◌&&◌, ◌||◌, ◌∙◌, ◌++◌, ◌∷◌, [], ℕ, ◌+◌, ◌-◌, ◌<◌, List, Bool, true, false, ap, append_assoc, arith, cond, drop, length, not, nat_lt, refl, reverse, sym, take}
use Rattle.std.proofs.Math.Seq.{drop-append-add, drop-append_seam, take-append_seam}
use Rattle.std.proofs.lemmas.Bool.{and_parts, eqb-true, false≢true, ltb-true}
use Rattle.std.proofs.lemmas.List.{drop_all, reverse-append, take_all}
use Rattle.std.specs.List.{list_all, prefix_len, suffix_len}
use Rattle.mime_types.specs.Bytes.{is_token, is_white}
use Rattle.mime_types.specs.Text.{before, after, front, is_a_token, onward, trim_end, trim_start}

-- a byte of tokens is no byte that is none
pub other_byte : (c : ℕ) → is_token c ≡ false → (x : ℕ) → is_token x ≡ true → (x == c) ≡ false
other_byte c none x is = cases (x == c) refl
  where
    cases : (b : Bool) → (x == c) ≡ b → b ≡ false
    cases false e = refl
    cases true e = absurd (false≢true (sym none ∙ (ap is_token (sym (eqb-true x c e)) ∙ is)))

pub token_not_white : (x : ℕ) → is_token x ≡ true → is_white x ≡ false
token_not_white x is =
    ap (λ b. b || x == 0x0A || x == 0x0D || x == 0x20) (other_byte 0x09 refl x is)
    ∙ (ap (λ b. b || x == 0x0D || x == 0x20) (other_byte 0x0A refl x is)
    ∙ (ap (λ b. b || x == 0x20) (other_byte 0x0D refl x is) ∙ other_byte 0x20 refl x is))

pub token_bytes : (s : List ℕ) → is_a_token s ≡ true → list_all is_token s ≡ true
token_bytes s token = (and_parts (nat_lt 0 (length s)) (list_all is_token s) token).1

pub token_some : (s : List ℕ) → is_a_token s ≡ true → 0 < length s
token_some s token = ltb-true 0 (length s) (and_parts (nat_lt 0 (length s)) (list_all is_token s) token).0

-- parts that no byte of a ends
module _ (ends : ℕ → Bool) where
  pub stops_after : (a : List ℕ) (c : ℕ) (r : List ℕ) → list_all (λ x. not (ends x)) a ≡ true → ends c ≡ true → before ends (a ++ c ∷ r) ≡ length a
  stops_after [] c r none is = ap (λ b. cond (not b) (1 + before ends r) 0) is
  stops_after (x ∷ a) c r none is =
      let parts = and_parts (not (ends x)) (list_all (λ y. not (ends y)) a) none in
      let rest = stops_after a c r parts.1 is in
      ap (λ b. cond b (1 + before ends (a ++ c ∷ r)) 0) parts.0 ∙ omega (arith, rest)

  pub stops_nowhere : (a : List ℕ) → list_all (λ x. not (ends x)) a ≡ true → before ends a ≡ length a
  stops_nowhere [] none = refl
  stops_nowhere (x ∷ a) none =
      let parts = and_parts (not (ends x)) (list_all (λ y. not (ends y)) a) none in
      let rest = stops_nowhere a parts.1 in
      ap (λ b. cond b (1 + before ends a) 0) parts.0 ∙ omega (arith, rest)

  module _ (a : List ℕ) (none : list_all (λ x. not (ends x)) a ≡ true) where
    pub front_whole : front ends a ≡ a
    front_whole = take_all (before ends a) a (let e = stops_nowhere a none in omega arith)

    pub after_whole : after ends a ≡ []
    after_whole = drop_all (before ends a + 1) a (let e = stops_nowhere a none in omega arith)

    module _ (c : ℕ) (r : List ℕ) (is : ends c ≡ true) where
      pub front_cut : front ends (a ++ c ∷ r) ≡ a
      front_cut = ap (λ n. take n (a ++ c ∷ r)) (stops_after a c r none is) ∙ take-append_seam a (c ∷ r)

      pub onward_cut : onward ends (a ++ c ∷ r) ≡ c ∷ r
      onward_cut = ap (λ n. drop n (a ++ c ∷ r)) (stops_after a c r none is) ∙ drop-append_seam a (c ∷ r)

      pub after_cut : after ends (a ++ c ∷ r) ≡ r
      after_cut = ap (λ n. drop (n + 1) (a ++ c ∷ r)) (stops_after a c r none is) ∙ drop-append-add a (c ∷ r) 1

-- all bytes of a token are no such byte
pub no_end : (ends : ℕ → Bool) → ((x : ℕ) → is_token x ≡ true → ends x ≡ false) → (a : List ℕ) → list_all is_token a ≡ true
    → list_all (λ x. not (ends x)) a ≡ true
no_end ends other [] all = refl
no_end ends other (x ∷ a) all =
    let parts = and_parts (is_token x) (list_all is_token a) all in
    ap (λ b. not b && list_all (λ y. not (ends y)) a) (other x parts.0) ∙ no_end ends other a parts.1

-- a text that ends in a byte that is no white space
pub record EndsDark (s : List ℕ) : Type 0 where
  pub start : List ℕ
  pub last : ℕ
  pub whole : s ≡ start ++ last ∷ []
  pub dark : is_white last ≡ false

pub after_dark : (a s : List ℕ) → EndsDark s → EndsDark (a ++ s)
after_dark a s e = record {
  start = a ++ e.start;
  last = e.last;
  whole = ap (λ x. a ++ x) e.whole ∙ sym (append_assoc a e.start (e.last ∷ []));
  dark = e.dark;
}

pub token_dark : (a : List ℕ) → 0 < length a → list_all is_token a ≡ true → EndsDark a
token_dark [] some all = absurd (omega arith)
token_dark (x ∷ []) some all = record { start = []; last = x; whole = refl; dark = token_not_white x (and_parts (is_token x) true all).0 }
token_dark (x ∷ y ∷ a) some all =
    after_dark (x ∷ []) (y ∷ a) (token_dark (y ∷ a) (omega arith) (and_parts (is_token x) (list_all is_token (y ∷ a)) all).1)

pub trimmed_end : (s : List ℕ) → EndsDark s → trim_end s ≡ s
trimmed_end s e = take_all (length s - suffix_len is_white s) s (let none = no_suffix in omega arith)
  where
    at_end : suffix_len is_white (e.start ++ e.last ∷ []) ≡ 0
    at_end = simp reverse-append (ap (λ b. cond b (1 + prefix_len is_white (reverse e.start)) 0) e.dark)

    no_suffix : suffix_len is_white s ≡ 0
    no_suffix = ap (suffix_len is_white) e.whole ∙ at_end

pub trimmed_start : (x : ℕ) (s : List ℕ) → is_white x ≡ false → trim_start (x ∷ s) ≡ x ∷ s
trimmed_start x s dark = ap (λ b. drop (cond b (1 + prefix_len is_white s) 0) (x ∷ s)) dark
