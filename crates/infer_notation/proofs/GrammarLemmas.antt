-- What is read is derived by the grammar, and what is derived is read.
use Rattle.infer_notation.proofs.Common.{◌≡◌, ◌+◌, ◌≤◌, ℕ, zero, suc, true, false, List, [], ◌∷◌, ◌++◌, Option, None, Some, codes, cond, length, nat_le, option_map, inl, inr, refl, sym, ap, subst, ◌∙◌, bytes_eq, cases_Bool, le-leb, bytes_eq-Decides, Part, all_but, any_of, between, byte, text, Asked, Effect, Rest, asks_binary, cursor, joined, opens, part, range_of, rest_at, rest_of, start, step, within, Derives, opened, signature, tokens_at, tokens_of, bare, separator, quoted, token_at, ◌>>=◌, byte_of, bytes_of, is_blank, number_of, step_at, Cursor, Wanted, Length, Colon, At, Place, More, Byte, Binary, Or}
use Rattle.infer_notation.specs.Fixed as fixed
use Rattle.infer_notation.specs.Fixed.{nothing}
use Rattle.infer_notation.specs.Grammar.{IsPiece, IsSignature, Symbol, a_range, a_set, a_text, another, asked, comma, ended, more, other, others, parts, pieces, placed, rest, some_bytes, with_data, without}
use Rattle.infer_notation.specs.Tokens.{Token, set}
use Rattle.infer_notation.specs.declared.fixed.Wanted.TheVariants.{Bytes}
use Rattle.infer_notation.proofs.OptionLemmas.{bind_some, map_some}
use Rattle.infer_notation.proofs.StepLemmas.{Steps, again, begun, counted, ends, excluded, further, joins, located, moved, negated, parted, steps_so, wanted, with_binary}

-- what tokens add, from a cursor on
abbrev pub parse : Cursor → List Token → Option Rest
parse c [] = fixed.ended c.wanted
parse c (t ∷ ts) = step c t >>= λ s. option_map (joined s.1) (parse s.0 ts)

-- ---- a text is its tokens

step_by_step : (c : Cursor) (t : Token) (o : Option (List Token)) → (step c t >>= λ s. option_map (joined s.1) (o >>= parse s.0)) ≡ (option_map (λ ts. t ∷ ts) o >>= parse c)
step_by_step c t (Some ts) = refl
step_by_step c t None = none_step (step c t)
  where
    none_step : (o : Option (Cursor × Effect)) → (o >>= λ s. option_map (joined s.1) None) ≡ None
    none_step None = refl
    none_step (Some s) = refl

token_by_token : (c : Cursor) (xs : List ℕ) (o : Option (Token × ℕ)) → ((d : Cursor) (n : ℕ) → rest_at d n xs ≡ (tokens_at n xs >>= parse d))
    → (o >>= λ t. step c t.0 >>= λ s. option_map (joined s.1) (rest_at s.0 t.1 xs)) ≡ ((o >>= λ t. option_map (λ ts. t.0 ∷ ts) (tokens_at t.1 xs)) >>= parse c)
token_by_token c xs None h = refl
token_by_token c xs (Some (t, n)) h = with_step (step c t) ∙ step_by_step c t (tokens_at n xs)
  where
    with_step : (o : Option (Cursor × Effect)) → (o >>= λ s. option_map (joined s.1) (rest_at s.0 n xs)) ≡ (o >>= λ s. option_map (joined s.1) (tokens_at n xs >>= parse s.0))
    with_step None = refl
    with_step (Some s) = ap (option_map (joined s.1)) (h s.0 n)

pub by_tokens : (xs : List ℕ) (c : Cursor) (n : ℕ) → rest_at c n xs ≡ (tokens_at n xs >>= parse c)
by_tokens [] c n = refl
by_tokens (x ∷ xs) c (suc n) = by_tokens xs c n
by_tokens (x ∷ xs) c zero = elim (cases_Bool (is_blank x)) [
  | inl blank ↦ rw (blank) (by_tokens xs c zero)
  | inr dark ↦ rw (dark) (token_by_token c xs (token_at (x ∷ xs)) (by_tokens xs))
]

-- ---- what is derived is read

then : (c d : Cursor) (t : Token) (e : Effect) (ts : List Token) (r : Rest) → step c t ≡ Some (d, e) → parse d ts ≡ Some r → parse c (t ∷ ts) ≡ Some (joined e r)
then c d t e ts r is-s is-r = rw (is-s, is-r) refl

fits : (n p size : ℕ) (q : Part) → p + size ≤ n → within n p size q ≡ Some (cursor More n (p + size), part q)
fits n p size q h = ap (λ b. cond b (Some (cursor More n (p + size), part q)) None) (le-leb (p + size) n h)

abbrev cursor_of : Symbol → Cursor
cursor_of signature = cursor Length 0 0
cursor_of (parts n p) = cursor At n p
cursor_of (pieces n p) = cursor Bytes n p
cursor_of (rest n p) = cursor More n p
cursor_of others = cursor Or 0 0

not_same : (w v : List ℕ) → (w ≡ v → ⊥) → bytes_eq w v ≡ false
not_same w v h = elim (cases_Bool (bytes_eq w v)) [ inl e ↦ absurd (h ((bytes_eq-Decides w v).0 e)) | inr e ↦ e ]

-- no bytes and no range are written so
no_bytes : (w v xs : List ℕ) → bytes_of v ≡ None → bytes_of w ≡ Some xs → bytes_eq w v ≡ false
no_bytes w v xs none some = not_same w v (λ e. let same = ap bytes_of e in absurd cc)

no_range : (w v : List ℕ) (range : ℕ × ℕ) → range_of v ≡ None → range_of w ≡ Some range → bytes_eq w v ≡ false
no_range w v range none some = not_same w v (λ e. let same = ap range_of e in absurd cc)

-- one piece
pieced : (n p : ℕ) (written : List Token) (q : Part) (size : ℕ) (ts : List Token) (r : Rest) → IsPiece p written q size → p + size ≤ n → parse (cursor More n (p + size)) ts ≡ Some r
    → parse (cursor Bytes n p) (written ++ ts) ≡ Some (joined (part q) r)
unfolding step
pieced n p written q size ts r (a_text _ xs) h is-r = then (cursor Bytes n p) (cursor More n (p + length xs)) (quoted xs) (part (text p xs)) ts r (fits n p (length xs) (text p xs) h) is-r
pieced n p written q size ts r (some_bytes _ w xs apart is) h is-r =
    let other : bytes_eq w (codes "not") ≡ false = no_bytes w (codes "not") xs refl is in
    then (cursor Bytes n p) (cursor More n (p + length xs)) (bare w) (part (text p xs)) ts r (rw (other, apart, is) (fits n p (length xs) (text p xs) h)) is-r
pieced n p written q size ts r (a_range _ w low high is order) h is-r =
    let other : bytes_eq w (codes "not") ≡ false = no_range w (codes "not") (low, high) refl is in
    let below : nat_le low high ≡ true = le-leb low high order in
    then (cursor Bytes n p) (cursor More n (p + 1)) (bare w) (part (byte p (between low high))) ts r (rw (other, is, below) (fits n p 1 (byte p (between low high)) h)) is-r
pieced n p written q size ts r (a_set _ digits x xs is) h is-r =
    then (cursor Bytes n p) (cursor More n (p + 1)) (set digits) (part (byte p (any_of (x ∷ xs)))) ts r (rw is (fits n p 1 (byte p (any_of (x ∷ xs))) h)) is-r
pieced n p written q size ts r (another _ w x is) h is-r =
    then (cursor Bytes n p) (cursor Byte n p) (bare (codes "not")) nothing (bare w ∷ ts) (joined (part (byte p (all_but x))) r) refl
    (then (cursor Byte n p) (cursor More n (p + 1)) (bare w) (part (byte p (all_but x))) ts r (rw is (fits n p 1 (byte p (all_but x)) h)) is-r)

-- pieces may follow a piece
after_piece : (n p : ℕ) (ts : List Token) (r : Rest) → parse (cursor Bytes n p) ts ≡ Some r → parse (cursor More n p) ts ≡ Some r
unfolding step
after_piece n p (quoted xs ∷ ts) r e = e
after_piece n p (set digits ∷ ts) r e = e
after_piece n p (bare w ∷ ts) r e = elim (cases_Bool (bytes_eq w (codes "or"))) [
  | inl is ↦
      let word = (bytes_eq-Decides w (codes "or")).0 is in
      let none : Some r ≡ None = sym e ∙ ap (λ v. parse (cursor Bytes n p) (bare v ∷ ts)) word in
      absurd cc
  | inr apart ↦ elim (cases_Bool (bytes_eq w (codes "and"))) [
    | inl is ↦
        let word = (bytes_eq-Decides w (codes "and")).0 is in
        let none : Some r ≡ None = sym e ∙ ap (λ v. parse (cursor Bytes n p) (bare v ∷ ts)) word in
        absurd cc
    | inr is ↦ rw (apart, is) e
  ]
]
after_piece n p ts r e = absurd cc

-- and what follows an alternative
after_all : (n p : ℕ) (ts : List Token) (r : Rest) → parse (cursor Or 0 0) ts ≡ Some r → parse (cursor More n p) ts ≡ Some r
unfolding step
after_all n p [] r e = e
after_all n p (bare w ∷ ts) r e = elim (cases_Bool (bytes_eq w (codes "or"))) [
  | inl is ↦ rw is (rw is at e)
  | inr is ↦ (let none : None ≡ Some r = rw is at e in absurd cc)
]
after_all n p ts r e = absurd cc

read : (s : Symbol) (ts : List Token) (r : Rest) → Derives s ts r → parse (cursor_of s) ts ≡ Some r
unfolding step
read s ts r (opened w n us b is d) =
    then (cursor Length 0 0) (cursor Colon n 0) (bare w) (opens n) (separator 0x3A ∷ us) b (rw is refl)
    (then (cursor Colon n 0) (cursor At n 0) (separator 0x3A) nothing us b refl (read (parts n 0) us b d))
read s ts r (placed n p w q us b is order d) =
    let below : nat_le p q ≡ true = le-leb p q order in
    then (cursor At n p) (cursor Place n p) (separator 0x40) nothing (bare w ∷ us) b refl
    (then (cursor Place n p) (cursor Bytes n q) (bare w) nothing us b (rw (is, below) refl) (read (pieces n q) us b d))
read s ts r (asked n p written q size us b is h d) = pieced n p written q size us b is h (read (rest n (p + size)) us b d)
read s ts r (more n p us b d) = after_piece n p us b (read (pieces n p) us b d)
read s ts r (comma n p us b d) = then (cursor More n p) (cursor At n p) (separator 0x2C) nothing us b refl (read (parts n p) us b d)
read s ts r (with_data n p us ys d) =
    then (cursor More n p) (cursor Binary n p) (bare (codes "and")) nothing (bare (codes "binary") ∷ us) (rest_of [] true ys) refl
    (then (cursor Binary n p) (cursor Or 0 0) (bare (codes "binary")) asks_binary us (rest_of [] false ys) refl (read others us (rest_of [] false ys) d))
read s ts r (without n p us ys d) = after_all n p us (rest_of [] false ys) (read others us (rest_of [] false ys) d)
read s ts r ended = refl
read s ts r (other us ys d) = then (cursor Or 0 0) (cursor Length 0 0) (bare (codes "or")) nothing us (rest_of [] false ys) refl (read signature us (rest_of [] false ys) d)

pub is_read : (t : List ℕ) (ys : List Asked) → IsSignature t ys → fixed.alternatives_of t ≡ Some ys
is_read t ys (ts, is, d) = ap (option_map (λ r. r.alternatives)) (by_tokens t start zero ∙ ap (λ o. o >>= parse start) is ∙ read signature ts (rest_of [] false ys) d)

-- ---- what is read is derived

-- nothing is added to the alternative that is open
abbrev Closed : Rest → Type 0
Closed r = r ≡ rest_of [] false r.alternatives

-- what tokens are that add r, by what is wanted first
abbrev Means : Wanted → ℕ → ℕ → List Token → Rest → Type 0
Means Length n p ts r = Closed r × Derives signature ts r
Means Colon n p ts r = (us : List Token) × (ts ≡ separator 0x3A ∷ us) × Derives (parts n p) us r
Means At n p ts r = Derives (parts n p) ts r
Means Place n p ts r = (w : List ℕ) × (q : ℕ) × (us : List Token) × (ts ≡ bare w ∷ us) × (number_of w ≡ Some q) × (p ≤ q) × Derives (pieces n q) us r
Means Bytes n p ts r = Derives (pieces n p) ts r
Means More n p ts r = Derives (rest n p) ts r
Means Byte n p ts r =
    (w : List ℕ) × (x : ℕ) × (us : List Token) × (b : Rest) × (ts ≡ bare w ∷ us) × (byte_of w ≡ Some x) × (p + 1 ≤ n) × Derives (rest n (p + 1)) us b
    × (r ≡ joined (part (byte p (all_but x))) b)
Means Binary n p ts r = (us : List Token) × (b : Rest) × (ts ≡ bare (codes "binary") ∷ us) × Closed b × Derives others us b × (r ≡ joined asks_binary b)
Means Or n p ts r = Closed r × Derives others ts r

means_or : (ts : List Token) (b : Rest) → Closed b × Derives signature ts b → Closed b × Derives others (bare (codes "or") ∷ ts) b
means_or ts b (closed, d) = (closed, subst (Derives others (bare (codes "or") ∷ ts)) (sym closed) (other ts b.alternatives (subst (Derives signature ts) closed d)))

-- by a step, and what the tokens after it are
means_step : (w : Wanted) (n p : ℕ) (t : Token) (d : Cursor) (e : Effect) → Steps w n p t d e → (ts : List Token) (b : Rest) → Means d.wanted d.least d.place ts b
    → Means w n p (t ∷ ts) (joined e b)
means_step w n p t d e (counted _ _ v m is) ts b (us, same, derived) =
    (refl, subst (λ vs. Derives signature (bare v ∷ vs) (joined (opens m) b)) (sym same) (opened v m us b is derived))
means_step w n p t d e (begun _ _) ts b derived = (ts, refl, derived)
means_step w n p t d e (located _ _) ts b (v, q, us, same, is, order, derived) =
    subst (λ vs. Derives (parts n p) (separator 0x40 ∷ vs) b) (sym same) (placed n p v q us b is order derived)
means_step w n p t d e (moved _ _ v q is order) ts b derived = (v, q, ts, refl, is, order, derived)
means_step w n p t d e (negated _ _) ts b (v, x, us, c, same, is, fits, derived, made) =
    subst (λ vs. Derives (pieces n p) (bare (codes "not") ∷ vs) b) (sym same) (subst (Derives (pieces n p) (bare (codes "not") ∷ bare v ∷ us)) (sym made)
    (asked n p (bare (codes "not") ∷ bare v ∷ []) (byte p (all_but x)) 1 us c (another p v x is) fits derived))
means_step w n p t d e (wanted _ _ _ q size is fits) ts b derived = asked n p (t ∷ []) q size ts b is fits derived
means_step w n p t d e (again _ _ _ _ _ s) ts b m = more n p (t ∷ ts) (joined e b) (means_step Bytes n p t d e s ts b m)
means_step w n p t d e (parted _ _) ts b derived = comma n p ts b derived
means_step w n p t d e (joins _ _) ts b (us, c, same, closed, derived, made) =
    let all : rest_of [] true c.alternatives ≡ b = sym (ap (joined asks_binary) closed) ∙ sym made in
    subst (λ vs. Derives (rest n p) (bare (codes "and") ∷ vs) b) (sym same) (subst (Derives (rest n p) (bare (codes "and") ∷ bare (codes "binary") ∷ us)) all
    (with_data n p us c.alternatives (subst (Derives others us) closed derived)))
means_step w n p t d e (ends _ _) ts b m =
    let (closed, derived) = means_or ts b m in
    subst (Derives (rest n p) (bare (codes "or") ∷ ts)) (sym closed)
    (without n p (bare (codes "or") ∷ ts) b.alternatives (subst (Derives others (bare (codes "or") ∷ ts)) closed derived))
means_step w n p t d e (excluded _ _ v x is fits) ts b derived = (v, x, ts, b, refl, is, fits, derived, refl)
means_step w n p t d e (with_binary _ _) ts b (closed, derived) = (ts, b, refl, closed, derived, refl)
means_step w n p t d e (further _ _) ts b m = means_or ts b m

means_end : (w : Wanted) (n p : ℕ) (r : Rest) → fixed.ended w ≡ Some r → Means w n p [] r
means_end More n p r e = let is : rest_of [] false [] ≡ r = cc in subst (Derives (rest n p) []) is (without n p [] [] ended)
means_end Or n p r e = let is : rest_of [] false [] ≡ r = cc in (subst Closed is refl, subst (Derives others []) is ended)
means_end w n p r e = absurd cc

means : (ts : List Token) (c : Cursor) (r : Rest) → parse c ts ≡ Some r → Means c.wanted c.least c.place ts r
unfolding step
means [] c r e = means_end c.wanted c.least c.place r e
means (t ∷ ts) c r e =
    let (s, is, some) = bind_some (step_at c.wanted c.least c.place t) (λ s. option_map (joined s.1) (parse s.0 ts)) r e in
    let (b, after, same) = map_some (joined s.1) (parse s.0 ts) r some in
    subst (Means c.wanted c.least c.place (t ∷ ts)) same
    (means_step c.wanted c.least c.place t s.0 s.1 (steps_so c.wanted c.least c.place t s is) ts b (means ts s.0 b after))

pub is_derived : (t : List ℕ) (ys : List Asked) → fixed.alternatives_of t ≡ Some ys → IsSignature t ys
is_derived t ys e =
    let (r, some, same) = map_some (λ r. r.alternatives) (tokens_of t >>= parse start) ys (sym (ap (option_map (λ r. r.alternatives)) (by_tokens t start zero)) ∙ e) in
    let (ts, is, parsed) = bind_some (tokens_of t) (parse start) r some in
    let (closed, d) = means ts start r parsed in
    (ts, is, subst (Derives signature ts) (closed ∙ ap (rest_of [] false) same) d)
