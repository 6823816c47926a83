-- Texts that tokens write, token by token.
use Rattle.infer_notation.proofs.Common.{◌≡◌, ◌<◌, ◌≤◌, ℕ, true, false, List, [], ◌∷◌, ◌++◌, Option, None, Some, codes, length, nat_le, option_map, inl, inr, refl, sym, ap, subst, ◌∙◌, arith, All, cases_Bool, le-leb, append-nil, All-cons, All-nil, cond_some, drop, drop_more, get_or, map, token_listed, bytes_eq-Decides, bare, separator, quoted, ◌>>=◌, byte_with, bytes_after, bytes_of, is_blank}
use Rattle.std.proofs.Common.{◌+◌, append_assoc}
use Rattle.std.proofs.lemmas.Bool.{leb-false, leb-true, lt-leb}
use Rattle.std.proofs.lemmas.List.{length-append}
use Rattle.std.proofs.lemmas.List.Elements.{All-head, All-tail}
use Rattle.std.specs.Str.{bytes_eq}
use Rattle.infer_notation.specs.Described.{Joins, WriteEach, Writes, between_quotes, bytes_piece, in_pieces, no_piece, one_text, quoted_piece, texts}
use Rattle.infer_notation.specs.Texts.{added, in_room, parted_at, piece_of, pieces_of, text_before, text_in}
use Rattle.infer_notation.specs.Tokens.{Token, is_word, set}
use Rattle.infer_formats.specs.declared.token.Token as declared
use Rattle.infer_notation.proofs.OptionLemmas.{bind_some, map_some}

pub word_is : (w : List ℕ) (t : Token) → is_word w t ≡ true → t ≡ bare w
word_is w (bare v) is = ap bare ((bytes_eq-Decides v w).0 is)
word_is w t is = absurd cc

-- ---- pieces

joins_so : (ts : List Token) (xs : List ℕ) → pieces_of ts ≡ Some xs → Joins ts xs
joins_so [] xs e = let none : [] ≡ xs = cc in subst (Joins []) none no_piece
joins_so (quoted t ∷ ts) xs e =
    let (ys, are, same) = map_some (λ ys. t ++ ys) (pieces_of ts) xs e in
    subst (Joins (quoted t ∷ ts)) same (quoted_piece t ts ys (joins_so ts ys are))
joins_so (bare w ∷ ts) xs e =
    let (x, is, some) = bind_some (bytes_of w) _ xs e in
    let (ys, are, same) = map_some (λ ys. x ++ ys) (pieces_of ts) xs some in
    subst (Joins (bare w ∷ ts)) same (bytes_piece w x ts ys is (joins_so ts ys are))
joins_so ts xs e = absurd cc

so_joins : (ts : List Token) (xs : List ℕ) → Joins ts xs → pieces_of ts ≡ Some xs
so_joins _ _ no_piece = refl
so_joins _ _ (quoted_piece xs ts ys joins) = ap (option_map (λ zs. xs ++ zs)) (so_joins ts ys joins)
so_joins _ _ (bytes_piece w xs ts ys is joins) = rw is (ap (option_map (λ zs. xs ++ zs)) (so_joins ts ys joins))

-- ---- a text

by_pieces : (ts : List Token) (text : List ℕ) → 0 < length ts → (pieces_of ts >>= in_room) ≡ Some text → Writes ts text
by_pieces ts text some e =
    let (xs, are, fits) = bind_some (pieces_of ts) in_room text e in
    let both = cond_some (nat_le (length xs) 64) xs text fits in
    subst (Writes ts) both.1 (in_pieces ts xs some (joins_so ts xs are) (leb-true (length xs) 64 both.0))

pub writes_so : (ts : List Token) (text : List ℕ) → text_in ts ≡ Some text → Writes ts text
writes_so [] text e = absurd cc
writes_so (quoted t ∷ []) text e = let same : t ≡ text = cc in subst (Writes (quoted t ∷ [])) same (between_quotes t)
writes_so (quoted t ∷ u ∷ ts) text e = by_pieces (quoted t ∷ u ∷ ts) text (omega arith) e
writes_so (bare w ∷ ts) text e = by_pieces (bare w ∷ ts) text (omega arith) e
writes_so (set s ∷ ts) text e = by_pieces (set s ∷ ts) text (omega arith) e
writes_so (separator x ∷ ts) text e = by_pieces (separator x ∷ ts) text (omega arith) e

module _ (text : List ℕ) (few : length text ≤ 64) where
  in_pieces_so : (ts : List Token) → Joins ts text → (pieces_of ts >>= in_room) ≡ Some text
  in_pieces_so ts joins = rw (so_joins ts text joins, le-leb (length text) 64 few) refl

  pieces_read : (ts : List Token) → 0 < length ts → Joins ts text → text_in ts ≡ Some text
  pieces_read [] some joins = absurd (omega arith)
  pieces_read (quoted t ∷ []) some joins = ap (λ (xs : List ℕ). Some xs) (sym (append-nil t)) ∙ so_joins (quoted t ∷ []) text joins
  pieces_read (quoted t ∷ u ∷ ts) some joins = in_pieces_so (quoted t ∷ u ∷ ts) joins
  pieces_read (bare w ∷ ts) some joins = in_pieces_so (bare w ∷ ts) joins
  pieces_read (set s ∷ ts) some joins = in_pieces_so (set s ∷ ts) joins
  pieces_read (separator x ∷ ts) some joins = in_pieces_so (separator x ∷ ts) joins

pub so_writes : (ts : List Token) (text : List ℕ) → Writes ts text → text_in ts ≡ Some text
so_writes _ _ (between_quotes text) = refl
so_writes _ _ (in_pieces ts text some joins few) = pieces_read text few ts some joins

-- ---- tokens before a word, and after it

abbrev Others : List ℕ → List Token → Type 0
Others w ts = All (λ t. is_word w t ≡ false) ts

-- what stands before the word, and what after it
abbrev pub IsCut : List ℕ → List Token → List Token → Option (List Token) → Type 0
IsCut w ts g None = ts ≡ g
IsCut w ts g (Some us) = ts ≡ g ++ (bare w ∷ us)

cut_so : (w : List ℕ) (ts : List Token) → IsCut w ts (parted_at w ts).0 (parted_at w ts).1
cut_so w [] = refl
cut_so w (t ∷ ts) = elim (cases_Bool (is_word w t)) [
  | inl is ↦ rw is (ap (λ u. u ∷ ts) (word_is w t is))
  | inr not ↦ rw not (on_rest (parted_at w ts).0 (parted_at w ts).1 (cut_so w ts))
]
  where
    on_rest : (g : List Token) (o : Option (List Token)) → IsCut w ts g o → IsCut w (t ∷ ts) (t ∷ g) o
    on_rest g None e = ap (λ us. t ∷ us) e
    on_rest g (Some us) e = ap (λ us. t ∷ us) e

uncut : (w : List ℕ) (ts : List Token) → Others w ts → parted_at w ts ≡ (ts, None)
uncut w [] all = refl
uncut w (t ∷ ts) all =
    rw (All-head (λ t. is_word w t ≡ false) t ts all) (ap (λ (p : List Token × Option (List Token)). (t ∷ p.0, p.1)) (uncut w ts (All-tail (λ t. is_word w t ≡ false) t ts all)))

cut_at : (w : List ℕ) (g us : List Token) → Others w g → parted_at w (g ++ (bare w ∷ us)) ≡ (g, Some us)
cut_at w [] us all = rw ((bytes_eq-Decides w w).1 refl) refl
cut_at w (t ∷ g) us all =
    rw (All-head (λ t. is_word w t ≡ false) t g all) (ap (λ (p : List Token × Option (List Token)). (t ∷ p.0, p.1)) (cut_at w g us (All-tail (λ t. is_word w t ≡ false) t g all)))

-- a word that writes no bytes is no piece
module _ (w : List ℕ) (none : bytes_of w ≡ None) where
  no_word : (v xs : List ℕ) → bytes_of v ≡ Some xs → is_word w (bare v) ≡ false
  no_word v xs is = elim (cases_Bool (bytes_eq v w)) [
    | inl same ↦ let both : Some xs ≡ None = sym is ∙ ap bytes_of ((bytes_eq-Decides v w).0 same) ∙ none in absurd cc
    | inr other ↦ other
  ]

  joins_others : (ts : List Token) (xs : List ℕ) → Joins ts xs → Others w ts
  joins_others _ _ no_piece = All-nil (λ t. is_word w t ≡ false)
  joins_others _ _ (quoted_piece xs ts ys joins) = All-cons (λ t. is_word w t ≡ false) (quoted xs) ts refl (joins_others ts ys joins)
  joins_others _ _ (bytes_piece v xs ts ys is joins) = All-cons (λ t. is_word w t ≡ false) (bare v) ts (no_word v xs is) (joins_others ts ys joins)

  others_so : (ts : List Token) (text : List ℕ) → Writes ts text → Others w ts
  others_so _ _ (between_quotes text) = All-cons (λ t. is_word w t ≡ false) (quoted text) [] refl (All-nil (λ t. is_word w t ≡ false))
  others_so _ _ (in_pieces ts text some joins few) = joins_others ts text joins

  pub read_last : (ts : List Token) (text : List ℕ) → Writes ts text → text_before w ts ≡ Some (text, None)
  read_last ts text writes = rw (uncut w ts (others_so ts text writes), so_writes ts text writes) refl

  pub read_before : (ts us : List Token) (text : List ℕ) → Writes ts text → text_before w (ts ++ (bare w ∷ us)) ≡ Some (text, Some us)
  read_before ts us text writes = rw (cut_at w ts us (others_so ts text writes), so_writes ts text writes) refl

-- a text that was read before a word
pub record Before (w : List ℕ) (ts : List Token) (text : List ℕ) (added : Option (List Token)) : Type 0 where
  pub front : List Token
  pub writes : Writes front text
  pub cut : IsCut w ts front added

pub before_so : (w : List ℕ) (ts : List Token) (text : List ℕ) (added : Option (List Token)) → text_before w ts ≡ Some (text, added) → Before w ts text added
before_so w ts text added e =
    let (t, is, same) = map_some (λ (t : List ℕ). (t, (parted_at w ts).1)) (text_in (parted_at w ts).0) (text, added) e in
    let is_text : t ≡ text = ap (λ (p : List ℕ × Option (List Token)). p.0) same in
    let is_after : (parted_at w ts).1 ≡ added = ap (λ (p : List ℕ × Option (List Token)). p.1) same in record {
      front = (parted_at w ts).0;
      writes = subst (Writes (parted_at w ts).0) is_text (writes_so (parted_at w ts).0 t is);
      cut = subst (IsCut w ts (parted_at w ts).0) is_after (cut_so w ts);
    }

-- ---- texts with words "has" between

-- those to come
abbrev pub AreLeft : Option (List Token) → List (List ℕ) → Type 0
AreLeft None others = others ≡ []
AreLeft (Some us) others = WriteEach us others

pub each_so : (ts : List Token) (text : List ℕ) (added : Option (List Token)) → text_before (codes "has") ts ≡ Some (text, added)
    → (others : List (List ℕ)) → AreLeft added others → WriteEach ts (text ∷ others)
each_so ts text None e others left =
    let b = before_so (codes "has") ts text None e in
    subst (λ us. WriteEach us (text ∷ others)) (sym b.cut) (subst (λ us. WriteEach b.front (text ∷ us)) (sym left) (one_text b.front text b.writes))
each_so ts text (Some us) e others left =
    let b = before_so (codes "has") ts text (Some us) e in
    subst (λ vs. WriteEach vs (text ∷ others)) (sym b.cut) (texts b.front us text others b.writes left)

-- the first of them, and those after it
pub each_first : (ts : List Token) (text : List ℕ) (others : List (List ℕ)) → WriteEach ts (text ∷ others)
    → (added : Option (List Token)) × (text_before (codes "has") ts ≡ Some (text, added)) × AreLeft added others
each_first _ _ _ (one_text ts text writes) = (None, read_last (codes "has") refl ts text writes, refl)
each_first _ _ _ (texts ts us text others writes each) = (Some us, read_before (codes "has") refl ts us text writes, each)

no_text : (ts : List Token) (all : List (List ℕ)) → WriteEach ts all → all ≡ [] → ⊥
no_text _ _ (one_text ts text writes) e = absurd cc
no_text _ _ (texts ts us text others writes each) e = absurd cc

pub last_read : (ts : List Token) (text : List ℕ) → WriteEach ts (text ∷ []) → text_in ts ≡ Some text
last_read _ _ (one_text ts text writes) = so_writes ts text writes
last_read _ _ (texts ts us text others writes each) = absurd (no_text us others each refl)

pub none_left : (added : Option (List Token)) → AreLeft added [] → added ≡ None
none_left None left = refl
none_left (Some us) left = absurd (no_text us [] left refl)

pub more_left : (added : Option (List Token)) (text : List ℕ) (others : List (List ℕ)) → AreLeft added (text ∷ others)
    → (us : List Token) × (added ≡ Some us) × WriteEach us (text ∷ others)
more_left None text others left = absurd cc
more_left (Some us) text others left = (us, refl, left)

-- ---- bytes that are joined, one after the other

-- too many, whatever follows
too_many : (xs ys : List ℕ) → in_room xs ≡ None → in_room (xs ++ ys) ≡ None
too_many xs ys e = elim (cases_Bool (nat_le (length xs) 64)) [
  | inl fits ↦ (let both : Some xs ≡ None = rw fits at e in absurd cc)
  | inr not ↦ rw (lt-leb (length (xs ++ ys)) 64 (let many = leb-false (length xs) 64 not in let n = length-append xs ys in omega (arith, many, n))) refl
]

module _ (before xs : List ℕ) where
  pub full : (o : Option (List ℕ)) → in_room (before ++ xs) ≡ None → added before (option_map (λ ys. xs ++ ys) o) ≡ None
  full None e = refl
  full (Some ys) e = ap in_room (sym (append_assoc before xs ys)) ∙ too_many (before ++ xs) ys e

  module _ (after : List ℕ) (e : Some after ≡ in_room (before ++ xs)) where
    both : (nat_le (length (before ++ xs)) 64 ≡ true) × (before ++ xs ≡ after)
    both = cond_some (nat_le (length (before ++ xs)) 64) (before ++ xs) after (sym e)

    pub more : (o : Option (List ℕ)) → added before (option_map (λ ys. xs ++ ys) o) ≡ added after o
    more None = refl
    more (Some ys) = ap in_room (sym (append_assoc before xs ys) ∙ ap (λ zs. zs ++ ys) both.1)

    pub few : length after ≤ 64
    few = subst (λ ys. length ys ≤ 64) both.1 (leb-true (length (before ++ xs)) 64 both.0)

-- a digit more
pub bytes_blank : (before : List ℕ) (x : ℕ) (xs : List ℕ) → is_blank x ≡ true → added before (bytes_after None (x ∷ xs)) ≡ added before (bytes_after None xs)
bytes_blank before x xs is = rw is refl

pub bytes_first : (before : List ℕ) (x : ℕ) (xs : List ℕ) → is_blank x ≡ false → added before (bytes_after None (x ∷ xs)) ≡ added before (bytes_after (Some x) xs)
bytes_first before x xs is = rw is refl

pub bytes_next : (before after : List ℕ) (x y b : ℕ) (xs : List ℕ) → byte_with x y ≡ Some b → Some after ≡ in_room (before ++ b ∷ [])
    → added before (bytes_after (Some x) (y ∷ xs)) ≡ added after (bytes_after None xs)
bytes_next before after x y b xs is e = rw is (more before (b ∷ []) after e (bytes_after None xs))

pub bytes_full : (before : List ℕ) (x y b : ℕ) (xs : List ℕ) → byte_with x y ≡ Some b → in_room (before ++ b ∷ []) ≡ None → added before (bytes_after (Some x) (y ∷ xs)) ≡ None
bytes_full before x y b xs is e = rw is (full before (b ∷ []) (bytes_after None xs) e)

-- a piece more
on_full : (before : List ℕ) (o p : Option (List ℕ)) → added before o ≡ None → added before (o >>= λ xs. option_map (λ ys. xs ++ ys) p) ≡ None
on_full before None p e = refl
on_full before (Some xs) p e = full before xs p e

on_next : (before after : List ℕ) (o p : Option (List ℕ)) → Some after ≡ added before o → (length after ≤ 64) × (added before (o >>= λ xs. option_map (λ ys. xs ++ ys) p) ≡ added after p)
on_next before after None p e = absurd cc
on_next before after (Some xs) p e = (few before xs after e, more before xs after e p)

module _ (ts : List declared.Token) (i : ℕ) (t : declared.Token) (inside : i < length ts) (before : List ℕ) where
  here : added before (pieces_of (map token_listed (drop i ts))) ≡ added before (piece_of (token_listed (get_or ts i t)) >>= λ xs. option_map (λ ys. xs ++ ys) (pieces_of (map token_listed (drop (i + 1) ts))))
  here = ap (λ us. added before (pieces_of (map token_listed us))) (drop_more ts i t inside)

  pub pieces_full : None ≡ added before (piece_of (token_listed (get_or ts i t))) → added before (pieces_of (map token_listed (drop i ts))) ≡ None
  pieces_full e = here ∙ on_full before (piece_of (token_listed (get_or ts i t))) (pieces_of (map token_listed (drop (i + 1) ts))) (sym e)

  pub pieces_next : (after : List ℕ) → Some after ≡ added before (piece_of (token_listed (get_or ts i t)))
      → (length after ≤ 64) × (added before (pieces_of (map token_listed (drop i ts))) ≡ added after (pieces_of (map token_listed (drop (i + 1) ts))))
  pieces_next after e =
      let step = on_next before after (piece_of (token_listed (get_or ts i t))) (pieces_of (map token_listed (drop (i + 1) ts))) e in
      (step.0, here ∙ step.1)
