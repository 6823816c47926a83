-- What is known of the buffers that fit what was read of a signature.
use Rattle.infer_notation.proofs.Common.{◌≡◌, ◌+◌, ◌<◌, ◌≤◌, ◌==◌, ◌&&◌, ◌||◌, ℕ, Bool, true, false, codes, cond, List, [], ◌∷◌, Option, None, Some, IsTrue, drop, length, get_or, map, nat_eq, nat_le, nat_lt, option_map, inl, inr, refl, sym, ap, subst, ◌∙◌, arith, list_any, starts_with, at_drop_all, and_parts, false≢true, or_cases, bytes_eq, Part, allows, any_of, between, byte, has_part, stands, text, Accepted, Alternative, Asked, Effect, accepts, alternatives_of, asks_binary, effect_seen, given, has_data, more_read, opens, part, piece, range_of, rest_at, rest_seen, set_part, start, state, state_taken, step, step_seen, within, word_part, IsKnown, IsLed, IsRead, is_found, described, bare, separator, quoted, token_at, ◌>>=◌, bytes_after, bytes_of, byte_with, first_passes, is_blank, after_blanks, Cursor, Has, At, Binary, Byte, Length, More}
use Rattle.std.proofs.Common.{IfSome}
use Rattle.infer_sig.specs.Signature.{Bytes}
use Rattle.infer_notation.specs.Fixed as fixed
use Rattle.infer_notation.specs.Fixed.{nothing}
use Rattle.infer_notation.specs.Leads.{IsLead, lead_part}
use Rattle.infer_notation.specs.Tokens.{Token, set}
use Rattle.infer_notation.specs.declared.fixed.Effect as declared
use Rattle.infer_notation.specs.declared.fixed.Effect.TheVariants.{Nothing, Opens}
use Rattle.infer_notation.specs.declared.leads.Known as kinds
use Rattle.infer_notation.specs.declared.leads.Known.TheVariants as known
use Rattle.infer_notation.specs.declared.leads.Lead.{Lead}
use Rattle.infer_notation.specs.declared.leads.Reading.{Reading}
use Rattle.std.proofs.lemmas.Bool.{or_left, or_right}
use Rattle.std.proofs.lemmas.Option.{cond_some}
use Rattle.infer_notation.proofs.FixedLemmas.{first_at}
use Rattle.infer_notation.proofs.OptionLemmas.{bind_some, cond_given, map_some}
use Rattle.infer_notation.proofs.HexLemmas.{same_test}
use Rattle.infer_notation.proofs.SeenLemmas.{seen_fixed}
use Rattle.infer_notation.proofs.SignatureLemmas.{cursor_taken, ended_is, given_blanks, given_ended, given_next, given_start, step_was}

-- ---- what is known of buffers of two kinds

or_none : (a b : Bool) → a ≡ false → (a || b) ≡ b
or_none a b e = ap (λ t. t || b) e

pub known_other : (k : kinds.Known) (f g : List ℕ → Bool) → ((b : List ℕ) → f b ≡ false) → IsKnown k g → IsKnown k (λ b. f b || g b)
known_other known.Never f g none h = λ b. or_none (f b) (g b) (none b) ∙ h b
known_other (known.Led l) f g none h = λ b e. h b (sym (or_none (f b) (g b) (none b)) ∙ e)
known_other known.Nothing f g none h = tt

pub known_one : (l : Lead) (f g : List ℕ → Bool) → IsKnown (known.Led l) f → ((b : List ℕ) → g b ≡ false) → IsKnown (known.Led l) (λ b. f b || g b)
known_one l f g h none b e = elim (or_cases (f b) (g b) e) [ inl one ↦ h b one | inr other ↦ absurd (false≢true (sym (none b) ∙ other)) ]

pub known_led : (l m n : Lead) (f g : List ℕ → Bool) → IsKnown (known.Led l) f → IsKnown (known.Led m) g
    → ((b : List ℕ) → IsTrue (has_part b (lead_part l) || has_part b (lead_part m)) → IsTrue (has_part b (lead_part n))) → IsKnown (known.Led n) (λ b. f b || g b)
known_led l m n f g h i both b e = both b (elim (or_cases (f b) (g b) e) [
  | inl one ↦ ap (λ t. t || has_part b (lead_part m)) (h b one)
  | inr other ↦ or_right (has_part b (lead_part l)) (has_part b (lead_part m)) (i b other)
])

-- ---- and of those that have both

pub known_both : (k : kinds.Known) (f g : List ℕ → Bool) → (k ≡ known.Nothing → ⊥) → IsKnown k f → IsKnown k (λ b. f b && g b)
known_both known.Never f g some h = λ b. ap (λ t. t && g b) (h b)
known_both (known.Led l) f g some h = λ b e. h b (and_parts (f b) (g b) e).0
known_both known.Nothing f g some h = tt

pub known_lead : (l : Lead) (f g : List ℕ → Bool) → ((b : List ℕ) → g b ≡ true → IsLed (Some l) b) → IsKnown (known.Led l) (λ b. f b && g b)
known_lead l f g h b e = h b (and_parts (f b) (g b) e).1

-- ---- a part

-- what has a text has its first byte
pub text_leads : (b : List ℕ) (place x : ℕ) (xs : List ℕ) → IsTrue (has_part b (text place (x ∷ xs))) → IsTrue (has_part b (byte place (any_of (x ∷ x ∷ x ∷ x ∷ []))))
unfolding stands
text_leads b place x xs h = first_at (any_of (x ∷ x ∷ x ∷ x ∷ [])) place b ∙ on_front (drop place b) h
  where
    on_front : (ys : List ℕ) → starts_with nat_eq ys (x ∷ xs) ≡ true → first_passes (allows (any_of (x ∷ x ∷ x ∷ x ∷ []))) ys ≡ true
    on_front [] h = absurd (false≢true h)
    on_front (y ∷ ys) h = ap (λ t. t || list_any (λ z. y == z) (x ∷ x ∷ x ∷ [])) (same_test y x ∙ (and_parts (x == y) (starts_with nat_eq ys xs) h).0)

-- what is within the least length is the part
pub within_has : (least place size : ℕ) (p : Part) (d : Cursor) (e : Effect) (b : List ℕ) → within least place size p ≡ Some (d, e) → effect_seen b e ≡ Has true → IsTrue (has_part b p)
within_has least place size p d e b is seen =
    let (fits, same) = cond_some (nat_le (place + size) least) (fixed.cursor More least (place + size), part p) (d, e) is in
    let has : Has (has_part b p) ≡ Has true = ap (λ (x : Cursor × Effect). effect_seen b x.1) same ∙ seen in cc

-- what adds nothing has no part
no_part : (t : Bool) (c d : Cursor) (e : Effect) (b : List ℕ) (o : Option (Cursor × Effect)) → cond t (Some (c, nothing)) o ≡ Some (d, e) → effect_seen b e ≡ Has true → o ≡ Some (d, e)
no_part true c d e b o is seen =
    let same : (c, nothing) ≡ (d, e) = cc in
    absurd (let has : Nothing ≡ Has true = ap (λ (x : Cursor × Effect). effect_seen b x.1) same ∙ seen in cc)
no_part false c d e b o is seen = is

-- a lead that says what is known of a part
pub led_by : (o : Option Lead) (p : Part) (b : List ℕ) → IfSome o (λ l. lead_part l ≡ p) → IsTrue (has_part b p) → IsLed o b
led_by None p b is h = refl
led_by (Some l) p b is h = ap (has_part b) is ∙ h

-- a byte of one set is one of the other
pub byte_leads : (s t : Bytes) (place : ℕ) (b : List ℕ) → ((x : ℕ) → IsTrue (allows s x) → IsTrue (allows t x)) → IsTrue (has_part b (byte place s)) → IsTrue (has_part b (byte place t))
byte_leads s t place b within h =
    let parts = and_parts (nat_lt place (length b)) (allows s (get_or b place 0)) h in
    ap (λ k. k && allows t (get_or b place 0)) parts.0 ∙ within (get_or b place 0) parts.1

-- the bytes of both, one added after the other
all_added : (bytes others one two three four : List ℕ) → length others ≡ 4
    → ((x : ℕ) → IsTrue (allows (any_of bytes) x || x == get_or others 0 0) → IsTrue (allows (any_of one) x))
    → ((x : ℕ) → IsTrue (allows (any_of one) x || x == get_or others 1 0) → IsTrue (allows (any_of two) x))
    → ((x : ℕ) → IsTrue (allows (any_of two) x || x == get_or others 2 0) → IsTrue (allows (any_of three) x))
    → ((x : ℕ) → IsTrue (allows (any_of three) x || x == get_or others 3 0) → IsTrue (allows (any_of four) x))
    → (x : ℕ) → IsTrue (allows (any_of bytes) x || allows (any_of others) x) → IsTrue (allows (any_of four) x)
all_added bytes (a ∷ b ∷ c ∷ d ∷ []) one two three four len f g h i = λ x e.
    let f' = f x in
    let g' = g x in
    let h' = h x in
    let i' = i x in
    joined (allows (any_of bytes) x) (x == a) (x == b) (x == c) (x == d) (allows (any_of one) x) (allows (any_of two) x) (allows (any_of three) x) (allows (any_of four) x) f' g' h' i' e
  where
    joined : (p a b c d one two three four : Bool) → ((p || a) ≡ true → one ≡ true) → ((one || b) ≡ true → two ≡ true) → ((two || c) ≡ true → three ≡ true) → ((three || d) ≡ true → four ≡ true)
        → (p || (a || (b || (c || (d || false))))) ≡ true → four ≡ true
    joined true a b c d one two three four f g h i e = i (or_left _ _ (h (or_left _ _ (g (or_left _ _ (f refl))))))
    joined false true b c d one two three four f g h i e = i (or_left _ _ (h (or_left _ _ (g (or_left _ _ (f refl))))))
    joined false false true c d one two three four f g h i e = i (or_left _ _ (h (or_left _ _ (g (or_right one true refl)))))
    joined false false false true d one two three four f g h i e = i (or_left _ _ (h (or_right two true refl)))
    joined false false false false true one two three four f g h i e = i (or_right three true refl)
    joined false false false false false one two three four f g h i e = absurd (false≢true e)
all_added bytes others one two three four len f g h i = absurd (omega arith)

pub all_last : (bytes others one two three : List ℕ) (o : Option (List ℕ)) → length others ≡ 4
    → ((x : ℕ) → IsTrue (allows (any_of bytes) x || x == get_or others 0 0) → IsTrue (allows (any_of one) x))
    → ((x : ℕ) → IsTrue (allows (any_of one) x || x == get_or others 1 0) → IsTrue (allows (any_of two) x))
    → ((x : ℕ) → IsTrue (allows (any_of two) x || x == get_or others 2 0) → IsTrue (allows (any_of three) x))
    → IfSome o (λ four. (x : ℕ) → IsTrue (allows (any_of three) x || x == get_or others 3 0) → IsTrue (allows (any_of four) x))
    → IfSome o (λ four. (x : ℕ) → IsTrue (allows (any_of bytes) x || allows (any_of others) x) → IsTrue (allows (any_of four) x))
all_last bytes others one two three None len f g h i = tt
all_last bytes others one two three (Some four) len f g h i = all_added bytes others one two three four len f g h i

-- what two leads at one place say
pub merged_leads : (one other : Lead) (bytes : List ℕ) → one.place ≡ other.place → ((x : ℕ) → IsTrue (allows (any_of one.bytes) x || allows (any_of other.bytes) x) → IsTrue (allows (any_of bytes) x))
    → (b : List ℕ) → IsTrue (has_part b (lead_part one) || has_part b (lead_part other)) → IsTrue (has_part b (byte one.place (any_of bytes)))
merged_leads one other bytes same all b h = elim (or_cases (has_part b (lead_part one)) (has_part b (lead_part other)) h) [
  | inl here ↦ byte_leads (any_of one.bytes) (any_of bytes) one.place b (λ x e. all x (ap (λ t. t || allows (any_of other.bytes) x) e)) here
  | inr there ↦ byte_leads (any_of other.bytes) (any_of bytes) one.place b (λ x e. all x (or_right (allows (any_of one.bytes) x) (allows (any_of other.bytes) x) e)) (subst (λ p. IsTrue (has_part b (byte p (any_of other.bytes)))) (sym same) there)
]

-- a text that is asked for
pub first_leads : (b : List ℕ) (place : ℕ) (xs : List ℕ) → 1 ≤ length xs → IsTrue (has_part b (text place xs))
    → IsTrue (has_part b (byte place (any_of (get_or xs 0 0 ∷ get_or xs 0 0 ∷ get_or xs 0 0 ∷ get_or xs 0 0 ∷ []))))
first_leads b place [] some h = absurd (omega arith)
first_leads b place (x ∷ xs) some h = text_leads b place x xs h

pub quoted_has : (least place : ℕ) (xs : List ℕ) (d : Cursor) (e : Effect) (b : List ℕ) → piece least place (quoted xs) ≡ Some (d, e) → effect_seen b e ≡ Has true
    → IsTrue (has_part b (text place xs))
quoted_has least place xs d e b is seen = within_has least place (length xs) (text place xs) d e b is seen

-- what follows on a part that may be the last
pub more_piece : (least place : ℕ) (t : Token) (d : Cursor) (e : Effect) (b : List ℕ) → more_read least place t ≡ Some (d, e) → effect_seen b e ≡ Has true → piece least place t ≡ Some (d, e)
more_piece least place (quoted xs) d e b is seen = is
more_piece least place (set xs) d e b is seen = is
more_piece least place (separator m) d e b is seen = no_part (m == 0x2C) (fixed.cursor At least place) d e b None is seen
more_piece least place (bare w) d e b is seen =
    no_part (bytes_eq w (codes "and")) (fixed.cursor Binary least place) d e b (piece least place (bare w))
    (no_part (bytes_eq w (codes "or")) (fixed.cursor Length 0 0) d e b _ is seen) seen

-- a bare word that asks for a part
pub word_piece : (least place : ℕ) (w : List ℕ) (d : Cursor) (e : Effect) (b : List ℕ) → piece least place (bare w) ≡ Some (d, e) → effect_seen b e ≡ Has true
    → word_part least place w (range_of w) ≡ Some (d, e)
word_piece least place w d e b is seen = no_part (bytes_eq w (codes "not")) (fixed.cursor Byte least place) d e b _ is seen

-- one of a range
pub range_leads : (least place low high : ℕ) (w : List ℕ) (d : Cursor) (e : Effect) (b : List ℕ) → word_part least place w (range_of w) ≡ Some (d, e) → range_of w ≡ Some (low, high)
    → effect_seen b e ≡ Has true → IsTrue (has_part b (byte place (between low high)))
range_leads least place low high w d e b is range seen =
    within_has least place 1 (byte place (between low high)) d e b (cond_given (nat_le low high) _ (d, e) (sym (ap (word_part least place w) range) ∙ is)).1 seen

-- bytes, of which the first is known
pub bytes_lead : (least place x : ℕ) (w : List ℕ) (d : Cursor) (e : Effect) (b : List ℕ) → word_part least place w (range_of w) ≡ Some (d, e) → range_of w ≡ None
    → ((xs : List ℕ) → bytes_of w ≡ Some xs → (more : List ℕ) × (xs ≡ x ∷ more)) → effect_seen b e ≡ Has true → IsTrue (has_part b (byte place (any_of (x ∷ x ∷ x ∷ x ∷ []))))
bytes_lead least place x w d e b is range first seen =
    let (xs, are, some) = bind_some (bytes_of w) (λ xs. within least place (length xs) (text place xs)) (d, e) (sym (ap (word_part least place w) range) ∙ is) in
    let front = first xs are in
    text_leads b place x front.0 (subst (λ ys. IsTrue (has_part b (text place ys))) front.1 (within_has least place (length xs) (text place xs) d e b some seen))

pub half_found : (x : ℕ) (xs ys : List ℕ) → is_blank x ≡ false → bytes_after None (x ∷ ys) ≡ Some xs → bytes_after (Some x) ys ≡ Some xs
half_found x xs ys dark e = sym (let past : bytes_after None (x ∷ ys) ≡ bytes_after (Some x) ys = rw dark refl in past) ∙ e

-- the first byte that a word writes
pub first_written : (x y z : ℕ) (w : List ℕ) → is_blank x ≡ false → byte_with x y ≡ Some z → (xs : List ℕ) → bytes_of (x ∷ y ∷ w) ≡ Some xs → (more : List ℕ) × (xs ≡ z ∷ more)
first_written x y z w dark is xs are =
    let past : bytes_after (Some x) (y ∷ w) ≡ Some xs = half_found x xs (y ∷ w) dark are in
    let (more, rest, same) = map_some (λ bytes. z ∷ bytes) (bytes_after None w) xs
    (subst (λ o. (o >>= λ b. option_map (λ bytes. b ∷ bytes) (bytes_after None w)) ≡ Some xs) is past) in
    (more, sym same)

pub first_of : (w : List ℕ) (r : Option ℕ) → 2 ≤ length w → is_blank (get_or w 0 0) ≡ false → r ≡ byte_with (get_or w 0 0) (get_or w 1 0)
    → IfSome r (λ x. (bytes : List ℕ) → bytes_of w ≡ Some bytes → (more : List ℕ) × (bytes ≡ x ∷ more))
first_of [] r some dark is = absurd (omega arith)
first_of (x ∷ []) r some dark is = absurd (omega arith)
first_of (x ∷ y ∷ w) None some dark is = tt
first_of (x ∷ y ∷ w) (Some z) some dark is = λ bytes are. first_written x y z w dark (sym is) bytes are

-- a set that is asked for, which has a byte
pub set_has : (least place : ℕ) (digits : List ℕ) (d : Cursor) (e : Effect) (b : List ℕ) → piece least place (set digits) ≡ Some (d, e) → effect_seen b e ≡ Has true
    → (xs : List ℕ) × (bytes_of digits ≡ Some xs) × IsTrue (has_part b (byte place (any_of xs)))
set_has least place digits d e b is seen =
    let (xs, are, some) = bind_some (bytes_of digits) (set_part least place) (d, e) is in (xs, are, part_of xs some)
  where
    part_of : (xs : List ℕ) → set_part least place xs ≡ Some (d, e) → IsTrue (has_part b (byte place (any_of xs)))
    part_of [] some = absurd cc
    part_of (x ∷ xs) some = within_has least place 1 (byte place (any_of (x ∷ xs))) d e b some seen

-- a byte that is written by two digits
pub byte_found : (found : Option (List ℕ)) (x y b : ℕ) (more xs ys : List ℕ) → byte_with x y ≡ Some b → ((z : ℕ) → IsTrue (is_found found z || z == b) → IsTrue (allows (any_of more) z))
    → bytes_after (Some x) (y ∷ ys) ≡ Some xs
    → (zs : List ℕ) × (bytes_after None ys ≡ Some zs) × ((z : ℕ) → IsTrue (is_found found z || allows (any_of xs) z) → IsTrue (is_found (Some more) z || allows (any_of zs) z))
byte_found found x y b more xs ys is all are =
    let (zs, rest, same) = map_some (λ bytes. b ∷ bytes) (bytes_after None ys) xs
    (subst (λ o. (o >>= λ b. option_map (λ bytes. b ∷ bytes) (bytes_after None ys)) ≡ Some xs) is are) in
    (zs, rest, λ z e. joined (is_found found z) (z == b) (allows (any_of zs) z) (allows (any_of more) z) (all z) (subst (λ l. IsTrue (is_found found z || allows (any_of l) z)) (sym same) e))
  where
    joined : (p q r m : Bool) → ((p || q) ≡ true → m ≡ true) → (p || (q || r)) ≡ true → (m || r) ≡ true
    joined true q r m f e = or_left _ _ (f refl)
    joined false true r m f e = or_left _ _ (f refl)
    joined false false r m f e = or_right m r e

pub blank_found : (x : ℕ) (xs ys : List ℕ) → is_blank x ≡ true → bytes_after None (x ∷ ys) ≡ Some xs → bytes_after None ys ≡ Some xs
blank_found x xs ys blank e = sym (let past : bytes_after None (x ∷ ys) ≡ bytes_after None ys = rw blank refl in past) ∙ e

-- no digit is left
none_left : (first : Option ℕ) (ys : List ℕ) → bytes_after first [] ≡ Some ys → ys ≡ []
none_left None ys e = cc
none_left (Some x) ys e = absurd cc

pub all_found : (found : Option (List ℕ)) (first : Option ℕ) (text : List ℕ) (i : ℕ) → length text ≤ i
    → ((xs : List ℕ) → bytes_of text ≡ Some xs → (ys : List ℕ) × (bytes_after first (drop i text) ≡ Some ys) × ((x : ℕ) → IsTrue (allows (any_of xs) x) → IsTrue (is_found found x || allows (any_of ys) x)))
    → IfSome found (λ bytes. (xs : List ℕ) → bytes_of text ≡ Some xs → (x : ℕ) → IsTrue (allows (any_of xs) x) → IsTrue (allows (any_of bytes) x))
all_found None first xs i all h = tt
all_found (Some bytes) first digits i all h = λ xs e x has.
    let left = h xs e in
    let none = none_left first left.0 (sym (at_drop_all (bytes_after first) digits i all) ∙ left.1) in
    elim (or_cases (allows (any_of bytes) x) (allows (any_of []) x) (subst (λ ys. IsTrue (allows (any_of bytes) x || allows (any_of ys) x)) none (left.2 x has))) [
      | inl here ↦ here
      | inr there ↦ absurd (false≢true there)
    ]

-- ---- what was read

pub read_start : (r : Reading) (whole : List ℕ) → r.cursor ≡ start → r.any ≡ known.Never → r.last ≡ known.Never → IsRead r whole (after_blanks whole)
read_start r whole is any last = record {
  any = λ b. false;
  last = λ b. false;
  is_any = subst (λ k. IsKnown k (λ b. false)) (sym any) (λ b. refl);
  is_last = subst (λ k. IsKnown k (λ b. false)) (sym last) (λ b. refl);
  same = λ b. ap (λ c. given b (state c false false) 0 (after_blanks whole)) is ∙ given_start b whole;
}

pub read_blanks : (r : Reading) (whole xs : List ℕ) → IsRead r whole xs → IsRead r whole (after_blanks xs)
read_blanks r whole xs h = record {
  any = h.any;
  last = h.last;
  is_any = h.is_any;
  is_last = h.is_last;
  same = λ b. given_blanks b (state r.cursor (h.any b) (h.last b)) xs ∙ h.same b;
}

-- what a token adds to what is known
abbrev pub IsTaken : Reading → Reading → Cursor → declared.Effect → Option Lead → Type 0
IsTaken r s d f lead =
    (e : Effect) (any last : List ℕ → Bool) → effect_seen [] e ≡ f → ((b : List ℕ) → effect_seen b e ≡ Has true → IsLed lead b) → IsKnown r.any any → IsKnown r.last last
    → IsKnown s.any (λ b. (state_taken (state r.cursor (any b) (last b)) d (effect_seen b e)).any) × IsKnown s.last (λ b. (state_taken (state r.cursor (any b) (last b)) d (effect_seen b e)).last)

pub read_next : (r s : Reading) (whole xs : List ℕ) (t : Token) (n : ℕ) (d : Cursor) (f : declared.Effect) (lead : Option Lead) → 0 < length xs → is_blank (get_or xs 0 0) ≡ false
    → Some (t, n) ≡ token_at xs → Some (d, f) ≡ option_map (step_seen []) (step r.cursor t) → s.cursor ≡ d → IsTaken r s d f lead
    → ((b : List ℕ) (d : Cursor) (e : Effect) → step r.cursor t ≡ Some (d, e) → effect_seen b e ≡ Has true → IsLed lead b) → IsRead r whole xs → IsRead s whole (drop (1 + n) xs)
read_next r s whole xs t n d f lead some dark is-t is-s is-d taken asks h =
    let was = step_was [] d f (step r.cursor t) is-s in
    let e = was.0 in
    let k = taken e h.any h.last was.2 (λ b. asks b d e was.1) h.is_any h.is_last in
    record {
      any = λ b. (state_taken (state r.cursor (h.any b) (h.last b)) d (effect_seen b e)).any;
      last = λ b. (state_taken (state r.cursor (h.any b) (h.last b)) d (effect_seen b e)).last;
      is_any = k.0;
      is_last = k.1;
      same = λ b.
          let before = state r.cursor (h.any b) (h.last b) in
          let after = state_taken before d (effect_seen b e) in
          ap (λ c. option_map (rest_seen b after.any after.last) (rest_at c 0 (drop (1 + n) xs))) (is-d ∙ sym (cursor_taken before d (effect_seen b e)))
          ∙ sym (given_next b before d xs t n (effect_seen b e) some dark is-t (sym (ap (option_map (step_seen b)) was.1)))
          ∙ h.same b;
    }

has_true : (t : Bool) → t ≡ true → Has t ≡ Has true
has_true t e = ap (λ (t : Bool). Has t) e

pub taken_part : (r s : Reading) (d : Cursor) (f : declared.Effect) (lead : Option Lead) (has : Bool) → f ≡ Has has → s.any ≡ r.any
    → ((f g : List ℕ → Bool) → IsKnown r.last f → ((b : List ℕ) → g b ≡ true → IsLed lead b) → IsKnown s.last (λ b. f b && g b)) → IsTaken r s d f lead
taken_part r s d f lead has is any last (part p) ks ls seen leads h i =
    (subst (λ k. IsKnown k ks) (sym any) h, last ls (λ b. has_part b p) i (λ b e. leads b (has_true (has_part b p) e)))
taken_part r s d f lead has is any last asks_binary ks ls seen leads h i =
    (subst (λ k. IsKnown k ks) (sym any) h, last ls has_data i (λ b e. leads b (has_true (has_data b) e)))
taken_part r s d f lead has is any last e ks ls seen leads h i = absurd cc

pub taken_more : (r s : Reading) (d : Cursor) (f : declared.Effect) (lead : Option Lead) (long : Bool) → f ≡ Opens long → s.last ≡ known.Nothing
    → ((f g : List ℕ → Bool) → IsKnown r.any f → IsKnown r.last g → IsKnown s.any (λ b. f b || g b)) → IsTaken r s d f lead
taken_more r s d f lead long is last any (opens n) ks ls seen leads h i = (any ks ls h i, subst (λ k. IsKnown k (λ b. nat_le n (length b))) (sym last) tt)
taken_more r s d f lead long is last any e ks ls seen leads h i = absurd cc

-- ---- the end

-- what a buffer has that is accepted
pub read_end : (r : Reading) (whole left : List ℕ) (l : Lead) → length left ≡ 0 → IsRead r whole left → ((f g : List ℕ → Bool) → IsKnown r.any f → IsKnown r.last g → IsKnown (known.Led l) (λ b. f b || g b))
    → (alternatives : List Asked) → alternatives_of whole ≡ Some alternatives → (b : List ℕ) → IsTrue (accepts alternatives b) → IsTrue (has_part b (lead_part l))
read_end r whole (x ∷ xs) l none h either alternatives is b accepted = absurd (omega arith)
read_end r whole [] l none h either alternatives is b accepted =
    let same : given b (state r.cursor (h.any b) (h.last b)) 0 [] ≡ Some true =
    h.same b ∙ ap (option_map (λ alternatives. accepts alternatives b)) is ∙ ap (λ (t : Bool). Some t) accepted in
    either h.any h.last h.is_any h.is_last b (elim (ended_is r.cursor.wanted) [
      | inl none ↦ absurd (let not : None ≡ Some true = sym (ap (option_map (rest_seen b (h.any b) (h.last b))) none) ∙ same in cc)
      | inr some ↦ (let both : Some (h.any b || h.last b) ≡ Some true = sym (given_ended b (state r.cursor (h.any b) (h.last b)) r.cursor.wanted refl some) ∙ same in cc)
    ])

-- the alternatives that a signature without a relation has
pub lead_fixed : (o : Option (List Asked)) (lead : Option Lead) → ((asked : List Asked) → o ≡ Some asked → (b : List ℕ) → IsTrue (accepts asked b) → IsLed lead b)
    → (alternatives : List Alternative) → option_map (map described) o ≡ Some alternatives → IsLead lead alternatives
lead_fixed None lead h alternatives is = absurd cc
lead_fixed (Some asked) lead h alternatives is = λ b accepted.
    let seen = seen_fixed (Some asked) b (Some (accepts asked b)) refl in
    let same : Some seen.0 ≡ Some alternatives = sym seen.1 ∙ is in
    let all : seen.0 ≡ alternatives = cc in
    h asked refl b (seen.2.1 (subst (λ a. Accepted a b) (sym all) accepted))
