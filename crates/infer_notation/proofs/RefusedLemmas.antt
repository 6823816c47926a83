-- A signature whose last alternative a buffer does not fit, and which has no further one.
use Rattle.infer_notation.proofs.Common.{◌≡◌, ◌<◌, ◌==◌, ◌&&◌, ◌||◌, ℕ, zero, suc, Bool, true, false, codes, cond, List, [], ◌∷◌, Option, None, Some, get_or, length, nat_lt, option_map, take, inl, inr, refl, sym, ap, subst, ◌∙◌, arith, list_any, prefix_len, bytes_eq, false≢true, Effect, Rest, accepts, given, joined, rest_at, rest_of, rest_seen, step, step_at, is_or, bare, bare_at, is_separator, is_of, separator, quoted, quoted_at, set_at, token_at, ◌>>=◌, is_blank, Cursor, Wanted, Length, State}
use Rattle.infer_notation.specs.Tokens.{Token, set}
use Rattle.infer_notation.specs.declared.fixed.Wanted.TheVariants.{Bytes}
use Rattle.infer_notation.specs.declared.tokens.Run.TheVariants as runs
use Rattle.infer_notation.proofs.StepLemmas.{Steps, again, counted, ends, further, steps_so}
use Rattle.infer_notation.proofs.SignatureLemmas.{ended_is, given_ended}
use Rattle.std.proofs.lemmas.Bool.{false_from_ne_true, or_parts}

-- no byte is that with which "or" begins
abbrev pub HasNoOr : List ℕ → Type 0
HasNoOr xs = list_any (λ x. x == 0x6F) xs ≡ false

pub no_or : (xs : List ℕ) → ((k : ℕ) → k < length xs → (get_or xs k 0 == 0x6F) ≡ true → ⊥) → HasNoOr xs
no_or [] h = refl
no_or (x ∷ xs) h =
    ap (λ t. t || list_any (λ x. x == 0x6F) xs) (false_from_ne_true (x == 0x6F) (h 0 (omega arith)))
    ∙ no_or xs (λ k lt. h (suc k) (omega arith))

-- ---- steps

-- the step opens no alternative, and wants none
abbrev pub Keeps : Cursor → Effect → Type 0
Keeps d e = (d.wanted ≡ Length → ⊥) × ((q : Rest) → (joined e q).alternatives ≡ q.alternatives)

steps_keep : (w : Wanted) (n p : ℕ) (t : Token) (d : Cursor) (e : Effect) → (w ≡ Length → ⊥) → is_or t ≡ false → Steps w n p t d e → Keeps d e
steps_keep w n p t d e some nor (counted _ _ v m is) = absurd (some refl)
steps_keep w n p t d e some nor (again _ _ _ _ _ s) = steps_keep Bytes n p t d e (λ no. absurd cc) nor s
steps_keep w n p t d e some nor (ends _ _) = absurd cc
steps_keep w n p t d e some nor (further _ _) = absurd cc
steps_keep w n p t d e some nor s = ((λ no. absurd cc), λ q. refl)

-- ---- tokens

-- a bare word that begins with another byte is not "or"
bare_other : (x : ℕ) (xs : List ℕ) (n : ℕ) → (x == 0x6F) ≡ false → nat_lt 0 n ≡ true → is_or (bare (take n (x ∷ xs))) ≡ false
bare_other x xs zero nor some = absurd (false≢true some)
bare_other x xs (suc n) nor some = ap (λ t. t && bytes_eq (take n xs) (codes "r")) nor

token_other : (x : ℕ) (xs : List ℕ) (t : Token) (n : ℕ) → (x == 0x6F) ≡ false → token_at (x ∷ xs) ≡ Some (t, n) → is_or t ≡ false
unfolding token_at
token_other x xs t n nor is = chosen (x == 0x22) (x == 0x7B) (is_separator x) is
  where
    same_token : (u : Token) (m : ℕ) → is_or u ≡ false → ◌≡◌ {A = Option (Token × ℕ)} (Some (u, m)) (Some (t, n)) → is_or t ≡ false
    same_token u m nor is = let same : (u, m) ≡ (t, n) = cc in subst (λ (p : Token × ℕ). is_or p.0 ≡ false) same nor

    on_quoted : (b : Bool) (ys : List ℕ) (m : ℕ) → cond {A = Option (Token × ℕ)} b (Some (quoted ys, m)) None ≡ Some (t, n) → is_or t ≡ false
    on_quoted true ys m is = same_token (quoted ys) m refl is
    on_quoted false ys m is = absurd cc

    on_set : (b : Bool) (ys : List ℕ) (m : ℕ) → cond {A = Option (Token × ℕ)} b (Some (set ys, m)) None ≡ Some (t, n) → is_or t ≡ false
    on_set true ys m is = same_token (set ys) m refl is
    on_set false ys m is = absurd cc

    on_bare : (b : Bool) (k m : ℕ) → nat_lt 0 k ≡ b → cond {A = Option (Token × ℕ)} b (Some (bare (take k (x ∷ xs)), m)) None ≡ Some (t, n) → is_or t ≡ false
    on_bare true k m some is = same_token (bare (take k (x ∷ xs))) m (bare_other x xs k nor some) is
    on_bare false k m some is = absurd cc

    chosen : (q s m : Bool) → cond q (quoted_at xs) (cond s (set_at xs) (cond {A = Option (Token × ℕ)} m (Some (separator x, 0)) (bare_at (x ∷ xs)))) ≡ Some (t, n) → is_or t ≡ false
    chosen true s m is = on_quoted _ _ _ is
    chosen false true m is = on_set _ _ _ is
    chosen false false true is = same_token (separator x) 0 refl is
    chosen false false false is = on_bare (nat_lt 0 (prefix_len (is_of runs.Bare) (x ∷ xs))) (prefix_len (is_of runs.Bare) (x ∷ xs)) _ refl is

-- ---- what follows

-- no further alternative, if there is none after the token at the front
next_others : (c : Cursor) (x : ℕ) (xs : List ℕ) (r : Rest) → (x == 0x6F) ≡ false → (c.wanted ≡ Length → ⊥)
    → ((d : Cursor) (m : ℕ) → (d.wanted ≡ Length → ⊥) → (q : Rest) → rest_at d m xs ≡ Some q → q.alternatives ≡ []) → rest_at c zero (x ∷ xs) ≡ Some r → r.alternatives ≡ []
unfolding step
next_others c x xs r nor other later is = on_blank (is_blank x) is
  where
    on_rest : (d : Cursor) (e : Effect) (m : ℕ) → Keeps d e → (o : Option Rest) → rest_at d m xs ≡ o → option_map (joined e) o ≡ Some r → r.alternatives ≡ []
    on_rest d e m keeps None are is = absurd cc
    on_rest d e m keeps (Some q) are is =
        let same : joined e q ≡ r = cc in
        sym (ap (λ (r : Rest). r.alternatives) same) ∙ keeps.1 q ∙ later d m keeps.0 q are

    on_step : (t : Token) (m : ℕ) → is_or t ≡ false → (o : Option (Cursor × Effect)) → step_at c.wanted c.least c.place t ≡ o → (o >>= λ s. option_map (joined s.1) (rest_at s.0 m xs)) ≡ Some r
        → r.alternatives ≡ []
    on_step t m nor None are is = absurd cc
    on_step t m nor (Some (d, e)) are is = on_rest d e m (steps_keep c.wanted c.least c.place t d e other nor (steps_so c.wanted c.least c.place t (d, e) are)) (rest_at d m xs) refl is

    on_token : (o : Option (Token × ℕ)) → token_at (x ∷ xs) ≡ o → (o >>= λ t. step c t.0 >>= λ s. option_map (joined s.1) (rest_at s.0 t.1 xs)) ≡ Some r → r.alternatives ≡ []
    on_token None are is = absurd cc
    on_token (Some (t, m)) are is = on_step t m (token_other x xs t m nor are) (step_at c.wanted c.least c.place t) refl is

    on_blank : (b : Bool) → cond b (rest_at c zero xs) (token_at (x ∷ xs) >>= λ t. step c t.0 >>= λ s. option_map (joined s.1) (rest_at s.0 t.1 xs)) ≡ Some r → r.alternatives ≡ []
    on_blank true is = later c zero other r is
    on_blank false is = on_token (token_at (x ∷ xs)) refl is

pub no_others : (c : Cursor) (n : ℕ) (xs : List ℕ) → HasNoOr xs → (c.wanted ≡ Length → ⊥) → (r : Rest) → rest_at c n xs ≡ Some r → r.alternatives ≡ []
no_others c n [] none other r is = elim (ended_is c.wanted) [
  | inl not ↦ absurd (let both : None ≡ Some r = sym not ∙ is in cc)
  | inr some ↦ (let same : Some (rest_of [] false []) ≡ Some r = sym some ∙ is in let all : rest_of [] false [] ≡ r = cc in sym (ap (λ (r : Rest). r.alternatives) all))
]
no_others c (suc n) (x ∷ xs) none other r is = no_others c n xs (or_parts (x == 0x6F) (list_any (λ x. x == 0x6F) xs) none).1 other r is
no_others c zero (x ∷ xs) none other r is =
    let parts = or_parts (x == 0x6F) (list_any (λ x. x == 0x6F) xs) none in
    next_others c x xs r parts.0 other (λ d m keeps q are. no_others d m xs parts.1 keeps q are) is

-- a buffer that has nothing of what was read is refused
pub refused : (buf xs : List ℕ) (s : State) (answer : Bool) → s.any ≡ false → s.last ≡ false → (s.cursor.wanted ≡ Length → ⊥) → HasNoOr xs → given buf s 0 xs ≡ Some answer → false ≡ answer
refused buf xs s answer any last other none is = on_rest (rest_at s.cursor 0 xs) refl is
  where
    on_rest : (o : Option Rest) → rest_at s.cursor 0 xs ≡ o → option_map (rest_seen buf s.any s.last) o ≡ Some answer → false ≡ answer
    on_rest None are is = absurd cc
    on_rest (Some r) are is =
        let seen : rest_seen buf s.any s.last r ≡ answer = cc in
        let not : rest_seen buf s.any s.last r ≡ rest_seen buf false false r = ap (λ a. rest_seen buf a s.last r) any ∙ ap (λ l. rest_seen buf false l r) last in
        sym (not ∙ ap (λ all. accepts all buf) (no_others s.cursor 0 xs none other r are)) ∙ seen

-- what is given in the end
pub given_last : (buf xs : List ℕ) (s : State) (answer : Bool) → length xs ≡ 0 → given buf s 0 xs ≡ Some answer → (s.any || s.last) ≡ answer
given_last buf (x ∷ xs) s answer none is = absurd (omega arith)
given_last buf [] s answer none is = elim (ended_is s.cursor.wanted) [
  | inl not ↦ absurd (let both : None ≡ Some answer = sym (ap (option_map (rest_seen buf s.any s.last)) not) ∙ is in cc)
  | inr some ↦ (let same : Some (s.any || s.last) ≡ Some answer = sym (given_ended buf s s.cursor.wanted refl some) ∙ is in cc)
]
