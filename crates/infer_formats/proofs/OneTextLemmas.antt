-- One text of JSON is never followed by the next on a new line.
use Rattle.infer_formats.proofs.Common.{◌≡◌, inl, inr, ℕ, zero, Bool, true, false, IsTrue, List, [], ◌∷◌, ◌++◌, append_assoc, refl, sym, subst, arith, ◌||◌, list_all, nat_tests, Symbol, range, blanks, value, items, more_items, members, member, more_members, chars, char, text, same_line, next_line, CanBe, IsAmong, Stands, nothing, one, by_rule, nat_lt, ◌&&◌, and_parts, or_right, rules}
use Rattle.infer_formats.proofs.JsonLemmas.{begins, chars_begin}
use Rattle.infer_formats.proofs.ReaderLemmas.{blank_read, blank_skip}
use Rattle.std.proofs.lemmas.Bool.{or_cases}

among_passes : (p : List Symbol → Bool) (r : List Symbol) (rs : List (List Symbol)) → IsTrue (list_all p rs) → IsAmong r rs → IsTrue (p r)
among_passes p r [] all m = elim m [ ]
among_passes p r (s ∷ rs) all (inl e) = subst (λ t. IsTrue (p t)) (sym e) (and_parts (p s) _ all).0
among_passes p r (s ∷ rs) all (inr m) = among_passes p r rs (and_parts (p s) _ all).1 m

-- what is left after a bracket that closes: of each open bracket white space and what comes after a value
is_frame : List Symbol → Bool
is_frame [] = false
is_frame (blanks ∷ []) = true
is_frame (blanks ∷ more_items n ∷ ss) = is_frame ss
is_frame (blanks ∷ more_members n ∷ ss) = is_frame ss
is_frame ss = false

in_string : List Symbol → Bool
in_string (chars ∷ ss) = true
in_string ss = false

-- after what may end in "]" stands such a frame, or the rest of a string
is_tidy : Symbol → List Symbol → Bool
is_tidy (range low high) ss = (nat_lt 0x5D low || nat_lt high 0x5D) || (is_frame ss || in_string ss)
is_tidy char ss = in_string ss
is_tidy (value n) ss = is_frame ss
is_tidy (items n) ss = is_frame ss
is_tidy (more_items n) ss = is_frame ss
is_tidy (members n) ss = is_frame ss
is_tidy (member n) ss = is_frame ss
is_tidy (more_members n) ss = is_frame ss
is_tidy text ss = is_frame ss
is_tidy same_line ss = false
is_tidy next_line ss = false
is_tidy a ss = true

are_tidy : List Symbol → Bool
are_tidy [] = true
are_tidy (a ∷ ss) = is_tidy a ss && are_tidy ss

rules_tidy : (a : Symbol) (ss : List Symbol) → IsTrue (is_tidy a ss) → IsTrue (are_tidy ss) → IsTrue (list_all (λ r. are_tidy (r ++ ss)) (rules a))
unfolding is_frame in_string is_tidy are_tidy
rules_tidy same_line ss t h = absurd (cc)
rules_tidy next_line ss t h = absurd (cc)
rules_tidy char ss t h = rw (t, h, or_right (is_frame ss) true refl) refl
rules_tidy (value zero) ss t h = rw h refl
rules_tidy (range low high) ss t h = refl
rules_tidy a ss t h = first_of (rw (t, h), rw h)

-- no frame goes on with a bracket on a new line
no_bracket : (ss : List Symbol) → IsTrue (is_frame ss) → (y : List ℕ) → ¬ Stands ss (0x5B ∷ y)
unfolding is_frame
no_bracket [] h y d = absurd (cc)
no_bracket (blanks ∷ []) h y d = let f = (blank_skip 0x5B [] y (λ b. grind arith)).0 d in elim f [ ]
no_bracket (blanks ∷ more_items n ∷ ss) h y d =
    let f = (blank_skip 0x5B (more_items n ∷ ss) y (λ b. grind arith)).0 d in
    let g = (begins 2 0x5B y (more_items n ∷ ss)).0 f in grind arith
no_bracket (blanks ∷ more_members n ∷ ss) h y d =
    let f = (blank_skip 0x5B (more_members n ∷ ss) y (λ b. grind arith)).0 d in
    let g = (begins 2 0x5B y (more_members n ∷ ss)).0 f in grind arith
no_bracket (a ∷ ss) h y d = absurd (cc)

no_line : (ss : List Symbol) → IsTrue (is_frame ss) → (y : List ℕ) → ¬ Stands ss (0x0A ∷ 0x5B ∷ y)
unfolding is_frame
no_line [] h y d = absurd (cc)
no_line (blanks ∷ []) h y d = no_bracket (blanks ∷ []) refl y ((blank_read 0x0A [] (0x5B ∷ y) (inr (inr (inl refl))) (λ e. elim e [ ])).0 d)
no_line (blanks ∷ more_items n ∷ ss) h y d =
    let never : ¬ Stands (more_items n ∷ ss) (0x0A ∷ 0x5B ∷ y) = λ e. let g = (begins 2 0x0A (0x5B ∷ y) (more_items n ∷ ss)).0 e in grind arith in
    no_bracket (blanks ∷ more_items n ∷ ss) h y ((blank_read 0x0A (more_items n ∷ ss) (0x5B ∷ y) (inr (inr (inl refl))) never).0 d)
no_line (blanks ∷ more_members n ∷ ss) h y d =
    let never : ¬ Stands (more_members n ∷ ss) (0x0A ∷ 0x5B ∷ y) = λ e. let g = (begins 2 0x0A (0x5B ∷ y) (more_members n ∷ ss)).0 e in grind arith in
    no_bracket (blanks ∷ more_members n ∷ ss) h y ((blank_read 0x0A (more_members n ∷ ss) (0x5B ∷ y) (inr (inr (inl refl))) never).0 d)
no_line (a ∷ ss) h y d = absurd (cc)

no_char : (ss : List Symbol) → IsTrue (in_string ss) → (y : List ℕ) → ¬ Stands ss (0x0A ∷ y)
unfolding in_string
no_char (chars ∷ ss) h y d = let f = (chars_begin 0x0A ss y).0 d in grind arith
no_char [] h y d = absurd (cc)
no_char (a ∷ ss) h y d = absurd (cc)

never_next : {ss : List Symbol} {xs : List ℕ} → Stands ss xs → IsTrue (are_tidy ss) → (p y : List ℕ) → xs ≡ p ++ 0x5D ∷ 0x0A ∷ 0x5B ∷ y → ⊥
unfolding is_tidy are_tidy
never_next nothing t [] y e = absurd (cc)
never_next nothing t (z ∷ p) y e = absurd (cc)
never_next (one {low} {high} {x} {ss} {xs} l h d) t [] y e =
    let first : x ≡ 0x5D = cc in
    let rest : xs ≡ 0x0A ∷ 0x5B ∷ y = cc in
    let after = subst (Stands ss) rest d in
    let tidy = and_parts (is_tidy (range low high) ss) _ t in
    elim (or_cases (nat_lt 0x5D low || nat_lt high 0x5D) _ tidy.0) [
      | inl other ↦ absurd (grind (arith, nat_tests, other, l, h, first))
      | inr kind ↦ elim (or_cases (is_frame ss) _ kind) [
        | inl frame ↦ no_line ss frame y after
        | inr string ↦ no_char ss string (0x5B ∷ y) after
      ]
    ]
never_next (one {low} {high} {x} {ss} {xs} l h d) t (z ∷ p) y e =
    let rest : xs ≡ p ++ 0x5D ∷ 0x0A ∷ 0x5B ∷ y = cc in
    never_next d (and_parts (is_tidy (range low high) ss) _ t).1 p y rest
never_next (by_rule {a} {ss} {xs} r m d) t p y e =
    let tidy = and_parts (is_tidy a ss) _ t in
    never_next d (among_passes (λ s. are_tidy (s ++ ss)) r (rules a) (rules_tidy a ss tidy.0 tidy.1) m) p y e

pub one_text : (w y : List ℕ) → ¬ CanBe (blanks ∷ text ∷ blanks ∷ []) (w ++ 0x5D ∷ 0x0A ∷ 0x5B ∷ y)
unfolding is_frame in_string is_tidy are_tidy
one_text w y (v, d) = never_next d refl w (y ++ v) (append_assoc w (0x5D ∷ 0x0A ∷ 0x5B ∷ y) v)
