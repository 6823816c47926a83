-- Relations, token by token.
use Rattle.infer_notation.proofs.Common.{◌≡◌, ◌+◌, ◌<◌, ◌≤◌, ◌&&◌, ℕ, true, false, List, [], ◌∷◌, ◌++◌, Option, None, Some, length, drop, take, map, nat_le, nat_lt, option_map, refl, sym, ap, ◌∙◌, get_or, subst, arith, All, slice_split, onto_first, le-leb, lt-leb, lt-ltb, append-nil, drop_all, drop_more, length-map, All-cons, All-nil, slice_split-cons_no, slice_split_at, slice_split_none, tokens_at, tokens_of, begins_by, group_listed, groups_of, is_or, left_groups, name_listed, named_in, same_token, short_groups, token_at, token_listed, Takes, ◌>>=◌, after_blanks, is_blank}
use Rattle.std.proofs.Common.{Result, Ok, Err, IfOk, set, append_assoc, length-take}
use denote.Ref.{Bor}
use Rattle.std.proofs.Math.Bool.{and-false}
use Rattle.std.proofs.lemmas.List.{drop-map, length-set, map-append}
use Rattle.std.proofs.lemmas.List.Elements.{All-append, All-head, All-tail}
use Rattle.std.proofs.lemmas.Grind.{take-set_at}
use Rattle.infer_notation.specs.Tokens.{Token}
use Rattle.infer_notation.specs.declared.reason.Flaw.{Flaw}
use Rattle.infer_notation.specs.declared.relations.Group.{Group}
use Rattle.infer_formats.specs.declared.token.Token as declared
use Rattle.infer_notation.proofs.ReadLemmas as read

-- bytes of a token that was read count no more
pub past_read : (n : ℕ) (xs : List ℕ) → tokens_at n xs ≡ tokens_at 0 (drop n xs)
past_read = read.past_read tokens_at (λ n. refl) (λ n x xs. refl)

-- nor do blanks
past_blanks : (xs : List ℕ) → tokens_at 0 (after_blanks xs) ≡ tokens_at 0 xs
past_blanks = read.past_blanks (tokens_at 0) (λ x xs is. rw is refl)

pub no_token : (text front : List ℕ) → front ≡ after_blanks text → length front ≡ 0 → tokens_of text ≡ Some []
no_token text [] e none = sym (past_blanks text) ∙ ap (tokens_at 0) (sym e)
no_token text (x ∷ xs) e none = absurd (omega arith)

pub next_token : (text front : List ℕ) (t : Token) (n : ℕ) → front ≡ after_blanks text → 0 < length front → is_blank (get_or front 0 0) ≡ false → Some (t, n) ≡ token_at front
    → tokens_of text ≡ option_map (λ ts. t ∷ ts) (tokens_of (drop n (drop 1 front)))
next_token text [] t n e some dark is = absurd (omega arith)
next_token text (x ∷ xs) t n e some dark is =
    sym (past_blanks text) ∙ ap (tokens_at 0) (sym e) ∙ rw (dark, sym is) (ap (option_map (λ ts. t ∷ ts)) (past_read n xs))

pub bad_token : (text front : List ℕ) → front ≡ after_blanks text → 0 < length front → is_blank (get_or front 0 0) ≡ false → None ≡ token_at front → tokens_of text ≡ None
bad_token text [] e some dark is = absurd (omega arith)
bad_token text (x ∷ xs) e some dark is = sym (past_blanks text) ∙ ap (tokens_at 0) (sym e) ∙ rw (dark, sym is) refl

-- ---- names

pub begins_not : (ts ns : List Token) → length ts < length ns → begins_by ts ns ≡ false
begins_not [] [] less = absurd (omega arith)
begins_not [] (n ∷ ns) less = refl
begins_not (t ∷ ts) [] less = absurd (omega arith)
begins_not (t ∷ ts) (n ∷ ns) less = ap (λ b. same_token t n && b) (begins_not ts ns (omega arith)) ∙ and-false (same_token t n)

-- ---- groups

-- the tokens up to an "or", after which there are others
module _ (pre : List Token) (front : All (λ t. is_or t ≡ false) pre) where
  short_front : (gs : List (List Token)) → 0 < length pre → length pre ≤ 24 → short_groups (pre ∷ gs) ≡ option_map (λ hs. pre ∷ hs) (short_groups gs)
  short_front gs some few = rw (lt-ltb 0 (length pre) some, le-leb (length pre) 24 few) refl

  split_last : slice_split is_or (pre ++ []) ≡ pre ∷ []
  split_last = ap (slice_split is_or) (append-nil pre) ∙ slice_split_none is_or pre front

  split_or : (t : Token) (r : List Token) → is_or t ≡ true → slice_split is_or (pre ++ t ∷ r) ≡ pre ∷ slice_split is_or r
  split_or t r is = slice_split_at is_or pre t r front is

  module _ (text rest : List ℕ) (whole : tokens_of text ≡ option_map (λ ts. pre ++ ts) (tokens_of rest)) where
    pub group_last : tokens_of rest ≡ Some [] → 0 < length pre → length pre ≤ 24 → groups_of text ≡ Some (pre ∷ [])
    group_last none some few =
        ap (λ o. o >>= λ ts. short_groups (slice_split is_or ts)) (whole ∙ ap (option_map (λ ts. pre ++ ts)) none)
        ∙ ap short_groups split_last ∙ short_front [] some few

    pub group_or : (after : List ℕ) (t : Token) → tokens_of rest ≡ option_map (λ ts. t ∷ ts) (tokens_of after) → is_or t ≡ true → 0 < length pre → length pre ≤ 24
        → groups_of text ≡ option_map (λ gs. pre ∷ gs) (groups_of after)
    group_or after t next is some few =
        ap (λ o. o >>= λ ts. short_groups (slice_split is_or ts)) (whole ∙ ap (option_map (λ ts. pre ++ ts)) next) ∙ on_rest (tokens_of after)
      where
        on_rest : (o : Option (List Token)) → (option_map (λ ts. pre ++ ts) (option_map (λ ts. t ∷ ts) o) >>= λ ts. short_groups (slice_split is_or ts))
            ≡ option_map (λ gs. pre ∷ gs) (o >>= λ ts. short_groups (slice_split is_or ts))
        on_rest None = refl
        on_rest (Some r) = ap short_groups (split_or t r is) ∙ short_front (slice_split is_or r) some few

    pub group_more : (after : List ℕ) (t : Token) → tokens_of rest ≡ option_map (λ ts. t ∷ ts) (tokens_of after)
        → tokens_of text ≡ option_map (λ ts. (pre ++ t ∷ []) ++ ts) (tokens_of after)
    group_more after t next = whole ∙ ap (option_map (λ ts. pre ++ ts)) next ∙ on_rest (tokens_of after)
      where
        on_rest : (o : Option (List Token)) → option_map (λ ts. pre ++ ts) (option_map (λ ts. t ∷ ts) o) ≡ option_map (λ ts. (pre ++ t ∷ []) ++ ts) o
        on_rest None = refl
        on_rest (Some r) = ap (λ (ts : List Token). Some ts) (sym (append_assoc pre (t ∷ []) r))

-- a group of too many tokens, or of none
record IsLong (ts : List Token) (n : ℕ) : Type 0 where
  first : List Token
  others : List (List Token)
  is : slice_split is_or ts ≡ first ∷ others
  long : n < length first

longer : (t : Token) (gs : List (List Token)) → (first : List Token) × (others : List (List Token)) × (onto_first t gs ≡ first ∷ others) × (0 < length first)
longer t [] = (t ∷ [], [], refl, omega arith)
longer t (g ∷ gs) = (t ∷ g, gs, refl, omega arith)

long_front : (pre : List Token) (t : Token) (r : List Token) → All (λ t. is_or t ≡ false) pre → is_or t ≡ false → IsLong (pre ++ t ∷ r) (length pre)
long_front [] t r front other =
    let k = longer t (slice_split is_or r) in
    record { first = k.0; others = k.1; is = slice_split-cons_no is_or t r other ∙ k.2; long = k.3 }
long_front (p ∷ pre) t r front other =
    let k = long_front pre t r (All-tail (λ t. is_or t ≡ false) p pre front) other in
    record {
      first = p ∷ k.first;
      others = k.others;
      is = slice_split-cons_no is_or p (pre ++ t ∷ r) (All-head (λ t. is_or t ≡ false) p pre front) ∙ ap (onto_first p) k.is;
      long = let l = k.long in omega arith;
    }

pub group_long : (pre : List Token) (text rest after : List ℕ) (t : Token) → All (λ t. is_or t ≡ false) pre → tokens_of text ≡ option_map (λ ts. pre ++ ts) (tokens_of rest)
    → tokens_of rest ≡ option_map (λ ts. t ∷ ts) (tokens_of after) → is_or t ≡ false → length pre ≡ 24 → groups_of text ≡ None
group_long pre text rest after t front whole next other long =
    ap (λ o. o >>= λ ts. short_groups (slice_split is_or ts)) (whole ∙ ap (option_map (λ ts. pre ++ ts)) next) ∙ on_rest (tokens_of after)
  where
    on_rest : (o : Option (List Token)) → (option_map (λ ts. pre ++ ts) (option_map (λ ts. t ∷ ts) o) >>= λ ts. short_groups (slice_split is_or ts)) ≡ None
    on_rest None = refl
    on_rest (Some r) =
        let k = long_front pre t r front other in
        let many : nat_le (length k.first) 24 ≡ false = lt-leb (length k.first) 24 (let l = k.long in omega arith) in
        ap short_groups k.is ∙ rw (many, and-false (nat_lt 0 (length k.first))) refl

-- ---- a list of names

abbrev Name : Type 0
Name = Bor (List declared.Token) × Takes

module _ (all : List Name) (i : ℕ) where
  named_at : (n : Name) (ts : List declared.Token) → i < length all → named_in (map name_listed (drop i all)) (map token_listed ts)
      ≡ named_in (name_listed (get_or all i n) ∷ map name_listed (drop (i + 1) all)) (map token_listed ts)
  named_at n ts inside = ap (λ ns. named_in (map name_listed ns) (map token_listed ts)) (drop_more all i n inside)

  pub named_here : (n : Name) (ts : List declared.Token) → i < length all → begins_by (map token_listed ts) (map token_listed (get_or all i n).0.now) ≡ true
      → (rest : List declared.Token) → rest ≡ drop (length (get_or all i n).0.now) ts → Some ((get_or all i n).1, map token_listed rest) ≡ named_in (map name_listed (drop i all)) (map token_listed ts)
  named_here n ts inside is rest is-rest =
      ap (λ (r : List Token). Some ((get_or all i n).1, r)) (ap (map token_listed) is-rest ∙ sym (drop-map token_listed (length (get_or all i n).0.now) ts) ∙ ap (λ k. drop k (map token_listed ts)) (sym (length-map (get_or all i n).0.now token_listed)))
      ∙ sym (named_at n ts inside ∙ rw is refl)

  pub named_later : (n : Name) (ts : List declared.Token) → i < length all → begins_by (map token_listed ts) (map token_listed (get_or all i n).0.now) ≡ false
      → named_in (map name_listed (drop (i + 1) all)) (map token_listed ts) ≡ named_in (map name_listed (drop i all)) (map token_listed ts)
  named_later n ts inside is = sym (named_at n ts inside ∙ rw is refl)

  pub named_nowhere : (ts : List declared.Token) → length all ≤ i → None ≡ named_in (map name_listed (drop i all)) (map token_listed ts)
  named_nowhere ts past = sym (ap (λ ns. named_in (map name_listed ns) (map token_listed ts)) (drop_all i all past))

-- ---- a group that is read

pub listed_len : (g : Group) → length g.tokens ≡ 24 → g.count ≤ 24 → length (group_listed g) ≡ g.count
listed_len g room few = length-map (take g.count g.tokens) token_listed ∙ length-take g.count g.tokens ∙ omega arith

module _ (g : Group) (text rest : List ℕ) (room : length g.tokens ≡ 24) (few : g.count ≤ 24) (front : All (λ t. is_or t ≡ false) (group_listed g))
    (whole : tokens_of text ≡ option_map (λ ts. group_listed g ++ ts) (tokens_of rest)) where
  abbrev Read : Type 0
  Read = Group × Option (Bor (List ℕ))

  abbrev Ends : Option (Bor (List ℕ)) → Read → Type 0
  Ends o r = (r.0 ≡ g) × (r.1 ≡ o) × (0 < g.count)

  abbrev Gives : Read → Type 0
  Gives r = groups_of text ≡ option_map (λ gs. group_listed r.0 ∷ gs) (left_groups (option_map (λ t. t.now) r.1))

  gives_from : (o : Option (Bor (List ℕ))) → (0 < g.count → Gives (g, o)) → (r : Read) → Ends o r → Gives r
  gives_from o h r (is-g, is-o, some) =
      h some ∙ ap (λ (x : Group). option_map (λ gs. group_listed x ∷ gs) (left_groups (option_map (λ t. t.now) o))) (sym is-g)
      ∙ ap (λ (x : Option (Bor (List ℕ))). option_map (λ gs. group_listed r.0 ∷ gs) (left_groups (option_map (λ t. t.now) x))) (sym is-o)

  if_ok : (o : Option (Bor (List ℕ))) → (0 < g.count → Gives (g, o)) → (x : Result Read Flaw) → IfOk x (Ends o) → IfOk x Gives
  if_ok o h (Ok r) e = gives_from o h r e
  if_ok o h (Err f) e = e

  pub found_last : tokens_of rest ≡ Some [] → (x : Result Read Flaw) → IfOk x (Ends None) → IfOk x Gives
  found_last none = if_ok None (λ some. let n = listed_len g room few in group_last (group_listed g) front text rest whole none (omega arith) (omega arith))

  pub found_or : (after : Bor (List ℕ)) (t : Token) → tokens_of rest ≡ option_map (λ ts. t ∷ ts) (tokens_of after.now) → is_or t ≡ true → (x : Result Read Flaw) → IfOk x (Ends (Some after)) → IfOk x Gives
  found_or after t next is = if_ok (Some after) (λ some. let n = listed_len g room few in group_or (group_listed g) front text rest whole after.now t next is (omega arith) (omega arith))

-- and a token more
more_listed : (g : Group) (t : declared.Token) → g.count < length g.tokens
    → map token_listed (take (g.count + 1) (set g.tokens g.count t)) ≡ group_listed g ++ token_listed t ∷ []
more_listed g t less = ap (map token_listed) (take-set_at g.tokens g.count (g.count + 1) t refl less) ∙ map-append token_listed (take g.count g.tokens) (t ∷ [])

pub group_next : (g : Group) (text rest after : List ℕ) (t : declared.Token) → length g.tokens ≡ 24 → g.count < 24 → All (λ t. is_or t ≡ false) (group_listed g)
    → tokens_of text ≡ option_map (λ ts. group_listed g ++ ts) (tokens_of rest) → tokens_of rest ≡ option_map (λ ts. token_listed t ∷ ts) (tokens_of after)
    → is_or (token_listed t) ≡ false → length after ≤ length text → record {
      room : length (set g.tokens g.count t) ≡ 24;
      few : g.count + 1 ≤ 24;
      front : All (λ t. is_or t ≡ false) (map token_listed (take (g.count + 1) (set g.tokens g.count t)));
      whole : tokens_of text ≡ option_map (λ ts. map token_listed (take (g.count + 1) (set g.tokens g.count t)) ++ ts) (tokens_of after);
      fits : length after ≤ length text;
    }
group_next g text rest after t room less front whole next other fits =
    let more = more_listed g t (omega arith) in
    record {
      room = length-set g.tokens g.count t ∙ room;
      few = omega arith;
      front = subst (All (λ t. is_or t ≡ false)) (sym more) (All-append (λ t. is_or t ≡ false) (group_listed g) (token_listed t ∷ []) front (All-cons (λ t. is_or t ≡ false) (token_listed t) [] other (All-nil (λ t. is_or t ≡ false))));
      whole = group_more (group_listed g) front text rest whole after (token_listed t) next ∙ ap (λ (pre : List Token). option_map (λ ts. pre ++ ts) (tokens_of after)) (sym more);
      fits = fits;
    }
