-- A signature that is read token by token.
use Rattle.infer_notation.proofs.Common.{◌≡◌, ◌⊎◌, ◌+◌, ◌&&◌, ◌||◌, ℕ, suc, Bool, true, false, not, List, [], ◌∷◌, Option, None, Some, length, drop, option_map, nat_le, inl, inr, refl, sym, ap, ◌∙◌, ◌<◌, arith, get_or, list_all, has_part, Effect, Rest, accepts, alternatives_of, asks_binary, effect_seen, given, has_data, joined, opens, part, rest_at, rest_of, rest_seen, state_taken, step, step_seen, start, state, token_at, after_blanks, is_blank, Cursor, Wanted, More, Or, State}
use Rattle.infer_notation.specs.Fixed.{nothing, ended}
use Rattle.infer_notation.specs.Tokens.{Token}
use Rattle.infer_notation.specs.declared.fixed.Effect as declared
use Rattle.infer_notation.specs.declared.fixed.Effect.TheVariants as effects
use Rattle.std.proofs.Math.Bool.{and-true, and_assoc, or_assoc}
use Rattle.infer_notation.proofs.ReadLemmas as read

-- bytes of a token that was read count no more
pub past_read : (c : Cursor) (n : ℕ) (xs : List ℕ) → rest_at c n xs ≡ rest_at c 0 (drop n xs)
past_read c = read.past_read (rest_at c) (λ n. refl) (λ n x xs. refl)

-- nor do blanks
pub past_blanks : (c : Cursor) (xs : List ℕ) → rest_at c 0 (after_blanks xs) ≡ rest_at c 0 xs
past_blanks c = read.past_blanks (rest_at c 0) (λ x xs is. rw is refl)

pub past_token : (c d : Cursor) (x : ℕ) (xs : List ℕ) (t : Token) (n : ℕ) (e : Effect) → is_blank x ≡ false → token_at (x ∷ xs) ≡ Some (t, n) → step c t ≡ Some (d, e)
    → rest_at c 0 (x ∷ xs) ≡ option_map (joined e) (rest_at d 0 (drop n xs))
past_token c d x xs t n e dark is-t is-s = rw (dark, is-t, is-s) (ap (option_map (joined e)) (past_read d n xs))

opened : (a l o p q r : Bool) → ((a || (l && (true && true))) || (((o && p) && q) || r)) ≡ (((a || l) || (o && (p && q))) || r)
opened a l o p q r =
    ap (λ t. (a || t) || (((o && p) && q) || r)) (and-true l) ∙ ap (λ t. (a || l) || (t || r)) (and_assoc o p q) ∙ sym (or_assoc (a || l) (o && (p && q)) r)

with_data : (a l p b d r : Bool) → ((a || (l && (p && (not true || d)))) || r) ≡ ((a || ((l && d) && (p && (not b || d)))) || r)
with_data a false p b d r = refl
with_data a true false b true r = refl
with_data a true true true true r = refl
with_data a true true false true r = refl
with_data a true false b false r = refl
with_data a true true b false r = refl

-- the state with what a token adds makes of the rest what the one before makes of both
map_joined : (buf : List ℕ) (s : State) (d : Cursor) (e : Effect) (r : Option Rest)
    → option_map (rest_seen buf s.any s.last) (option_map (joined e) r) ≡ option_map (rest_seen buf (state_taken s d (effect_seen buf e)).any (state_taken s d (effect_seen buf e)).last) r
map_joined buf s d e None = refl
map_joined buf s d nothing (Some r) = refl
map_joined buf s d (part p) (Some r) =
    let q = not r.binary || has_data buf in
    ap (λ (t : Bool). Some ((s.any || t) || accepts r.alternatives buf))
    (ap (λ t. s.last && t) (and_assoc (has_part buf p) (list_all (has_part buf) r.parts) q) ∙ sym (and_assoc s.last (has_part buf p) (list_all (has_part buf) r.parts && q)))
map_joined buf s d asks_binary (Some r) =
    ap (λ (t : Bool). Some t) (with_data s.any s.last (list_all (has_part buf) r.parts) r.binary (has_data buf) (accepts r.alternatives buf))
map_joined buf s d (opens n) (Some r) =
    ap (λ (t : Bool). Some t) (opened s.any s.last (nat_le n (length buf)) (list_all (has_part buf) r.parts) (not r.binary || has_data buf) (accepts r.alternatives buf))

pub cursor_taken : (s : State) (d : Cursor) (f : declared.Effect) → (state_taken s d f).cursor ≡ d
cursor_taken s d effects.Nothing = refl
cursor_taken s d f = refl

-- a step that was taken
pub step_was : (buf : List ℕ) (d : Cursor) (f : declared.Effect) (r : Option (Cursor × Effect)) → Some (d, f) ≡ option_map (step_seen buf) r
    → (e : Effect) × (r ≡ Some (d, e)) × (effect_seen buf e ≡ f)
step_was buf d f None is = absurd cc
step_was buf d f (Some (d', e)) is =
    let same : (d, f) ≡ (d', effect_seen buf e) = cc in
    (e, ap (λ (k : Cursor). Some (k, e)) (sym (ap (λ (p : Cursor × declared.Effect). p.0) same)), sym (ap (λ (p : Cursor × declared.Effect). p.1) same))

-- what is given after the token at the front
pub given_next : (buf : List ℕ) (s : State) (d : Cursor) (xs : List ℕ) (t : Token) (n : ℕ) (f : declared.Effect) → 0 < length xs → is_blank (get_or xs 0 0) ≡ false
    → Some (t, n) ≡ token_at xs → Some (d, f) ≡ option_map (step_seen buf) (step s.cursor t)
    → given buf s 0 xs ≡ given buf (state_taken s d f) 0 (drop (1 + n) xs)
given_next buf s d [] t n f some dark is-t is-s = absurd (omega arith)
given_next buf s d (x ∷ xs) t n f some dark is-t is-s =
    let was = step_was buf d f (step s.cursor t) is-s in
    let one : 1 + n ≡ suc n = omega arith in
    let first = ap (option_map (rest_seen buf s.any s.last)) (past_token s.cursor d x xs t n was.0 dark (sym is-t) was.1) in
    let last = map_joined buf s d was.0 (rest_at d 0 (drop n xs)) in
    let same = ap (λ k. option_map (rest_seen buf (state_taken s d k).any (state_taken s d k).last) (rest_at d 0 (drop n xs))) was.2 in
    let here = ap (λ k. option_map (rest_seen buf (state_taken s d f).any (state_taken s d f).last) (rest_at k 0 (drop n xs))) (sym (cursor_taken s d f)) in
    let there = ap (λ k. given buf (state_taken s d f) 0 (drop k (x ∷ xs))) (sym one) in
    first ∙ last ∙ same ∙ here ∙ there

-- and in the end
no_more : (buf : List ℕ) (a l : Bool) → rest_seen buf a l (rest_of [] false []) ≡ (a || l)
no_more buf true l = refl
no_more buf false true = refl
no_more buf false false = refl

-- a signature ends, or it does not
pub ended_is : (w : Wanted) → (ended w ≡ None) ⊎ (ended w ≡ Some (rest_of [] false []))
ended_is More = inr refl
ended_is Or = inr refl
ended_is w = inl refl

pub given_ended : (buf : List ℕ) (s : State) (w : Wanted) → s.cursor.wanted ≡ w → ended w ≡ Some (rest_of [] false []) → given buf s 0 [] ≡ Some (s.any || s.last)
given_ended buf s w is ends = ap (λ w. option_map (rest_seen buf s.any s.last) (ended w)) is ∙ ap (option_map (rest_seen buf s.any s.last)) ends ∙ ap (λ (b : Bool). Some b) (no_more buf s.any s.last)

-- a signature that begins here
pub given_start : (buf xs : List ℕ) → given buf (state start false false) 0 (after_blanks xs) ≡ option_map (λ alternatives. accepts alternatives buf) (alternatives_of xs)
given_start buf xs = ap (option_map (rest_seen buf false false)) (past_blanks start xs) ∙ whole (rest_at start 0 xs)
  where
    whole : (r : Option Rest) → option_map (rest_seen buf false false) r ≡ option_map (λ alternatives. accepts alternatives buf) (option_map (λ rest. rest.alternatives) r)
    whole None = refl
    whole (Some r) = refl

-- blanks after a token
pub given_blanks : (buf : List ℕ) (s : State) (xs : List ℕ) → given buf s 0 (after_blanks xs) ≡ given buf s 0 xs
given_blanks buf s xs = ap (option_map (rest_seen buf s.any s.last)) (past_blanks s.cursor xs)
