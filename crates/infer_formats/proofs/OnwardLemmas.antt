-- What is left after a token, and after each byte of a text.
use Rattle.infer_formats.proofs.Common.{◌≡◌, ℕ, ◌+◌, ◌≤◌, ◌<◌, inl, ◌↔◌, true, List, [], ◌∷◌, ◌++◌, length, drop, get_or, refl, sym, subst, ap, ◌∙◌, arith, drop_all, drop_more, Symbol, blanks, text, Stands, PlaceSays, EndSays, EndsNumber, Follows, IsPast, Leaves, Onward, Reads, due_left, frames, left, next_left, Token, Inside, Ended, EndedBefore, Wrong, Due, Colon, After, Value, Next, Closed, Between, InKey, InValue, Reader, IsBlank, SaysAsMuch}
use Rattle.infer_formats.specs.declared.json.reader.Place as place
use Rattle.infer_formats.specs.declared.json.reader.Place.TheVariants as Place
use Rattle.infer_formats.proofs.ReaderLemmas.{after_ends, between_left, blank_skip, colon_ends, colon_read, due_not_blank, frames_none, frames_open}
use Rattle.infer_formats.proofs.LineLemmas.{past_read}

-- one byte on
pub onward_here : (ss : List Symbol) (s : List ℕ) → Onward ss s ss s
onward_here ss s others m v = (λ d. d, λ d. d)

-- by the byte that stands there
module _ (t u : Token) (s b : List ℕ) (i : ℕ) (l : i < length b) (before : Onward (left t) s (left u) (drop i b)) where
  there : (others : List Symbol) → EndsNumber others → (v : List ℕ)
      → Stands (left t ++ others) (s ++ v) ↔ Stands (left u ++ others) (get_or b i 0 ∷ drop (i + 1) b ++ v)
  there others m v = subst (λ q. Stands (left t ++ others) (s ++ v) ↔ Stands (left u ++ others) (q ++ v)) (drop_more b i 0 l) (before others m v)

  pub onward_more : (w : Token) → Follows (left u) (get_or b i 0) (Inside w) → Onward (left t) s (left w) (drop (i + 1) b)
  onward_more w f others m v =
      let h = there others m v in let g = f others m (drop (i + 1) b ++ v) in (λ d. g.0 (h.0 d), λ d. h.1 (g.1 d))

  pub onward_ended : Follows (left u) (get_or b i 0) Ended → Onward (left t) s [] (drop (i + 1) b)
  onward_ended f others m v =
      let h = there others m v in let g = f others (drop (i + 1) b ++ v) in (λ d. g.0 (h.0 d), λ d. h.1 (g.1 d))

  pub onward_before : Follows (left u) (get_or b i 0) EndedBefore → Onward (left t) s [] (drop i b)
  onward_before f others m v =
      let h = there others m v in let g = f others (drop (i + 1) b ++ v) in
      subst (λ q. Stands (left t ++ others) (s ++ v) ↔ Stands others (q ++ v)) (sym (drop_more b i 0 l)) (λ d. g.0 (h.0 d), λ d. h.1 (g.1 d))

  pub onward_wrong : Follows (left u) (get_or b i 0) Wrong → (others : List Symbol) → EndsNumber others → (v : List ℕ) → ¬ Stands (left t ++ others) (s ++ v)
  onward_wrong f others m v d = f others (drop (i + 1) b ++ v) ((there others m v).0 d)

pub onward_cut : (t u : Token) (s b : List ℕ) (i : ℕ) → length b ≤ i → Onward (left t) s (left u) (drop i b)
    → Onward (left t) s (left u) []
onward_cut t u s b i l before = subst (Onward (left t) s (left u)) (drop_all i b l) before

-- to the place after a token
abbrev Then : Next → Token → Due → ℕ → ℕ → Type 0
Then n t due d k =
    ((ss : List Symbol) → next_left n d k ss ≡ left t ++ blanks ∷ due_left due d k ss)
    × ((ss : List Symbol) → EndsNumber (blanks ∷ due_left due d k ss))

then_colon : (n : Next) (t : Token) (d k : ℕ) → n ≡ InKey t → Then n t Colon d k
then_colon n t d k e = (λ ss. ap (λ m. next_left m d k ss) e, λ ss. colon_ends _)

then_after : (n : Next) (t : Token) (d k : ℕ) → 1 ≤ d → n ≡ InValue t → Then n t After d k
then_after n t d k l e = (
  λ ss. ap (λ m. next_left m d k ss) e
      ∙ ap (λ rest. left t ++ rest) (frames_open d k ss l),
  λ ss. after_ends d k ss,
)

place_whole : (n : Next) (t : Token) (due : Due) (d k : ℕ) (s u : List ℕ) → Then n t due d k → Onward (left t) s [] u
    → (ss : List Symbol) (v : List ℕ) → Stands (next_left n d k ss) (s ++ v)
    ↔ Stands (blanks ∷ due_left due d k ss) (u ++ v)
place_whole n t due d k s u h o ss v =
    subst (λ q. Stands q (s ++ v) ↔ Stands (blanks ∷ due_left due d k ss) (u ++ v)) (sym (h.0 ss))
    (o (blanks ∷ due_left due d k ss) (h.1 ss) v)

place_cut : (n m : Next) (t u : Token) (due : Due) (d k : ℕ) (s : List ℕ) → Then n t due d k → Then m u due d k
    → Onward (left t) s (left u) []
    → (ss : List Symbol) (v : List ℕ) → Stands (next_left n d k ss) (s ++ v) ↔ Stands (next_left m d k ss) v
place_cut n m t u due d k s h g o ss v =
    subst (λ q. Stands q (s ++ v) ↔ Stands (next_left m d k ss) v) (sym (h.0 ss))
    (subst (λ q. Stands (left t ++ blanks ∷ due_left due d k ss) (s ++ v) ↔ Stands q v) (sym (g.0 ss))
    (o (blanks ∷ due_left due d k ss) (h.1 ss) v))

place_wrong : (n : Next) (t : Token) (due : Due) (d k : ℕ) (s : List ℕ) → Then n t due d k
    → ((others : List Symbol) → EndsNumber others → (v : List ℕ) → ¬ Stands (left t ++ others) (s ++ v))
    → (ss : List Symbol) (v : List ℕ) → ¬ Stands (next_left n d k ss) (s ++ v)
place_wrong n t due d k s h o ss v x =
    o (blanks ∷ due_left due d k ss) (h.1 ss) v (subst (λ q. Stands q (s ++ v)) (h.0 ss) x)

place_told : (n : Next) (t : Token) (due : Due) (d k : ℕ) (b : List ℕ) (at : ℕ) (p : place.Place) → Then n t due d k
    → ((u : Token) → (m : Next) × Then m u due d k)
    → EndSays t b at due p → PlaceSays n d k b at p
place_told n t due d k b at (Place.At p next) h others (same, low, high, o) = (
  low,
  high,
  subst (λ q. (ss : List Symbol) (v : List ℕ) → Stands (next_left n d k ss) (drop at b ++ v)
      ↔ Stands (blanks ∷ due_left q d k ss) (drop p b ++ v)) (sym same)
      (place_whole n t due d k (drop at b) (drop p b) h o),
)
place_told n t due d k b at Place.Cut h others (u, o) =
    let (m, g) = others u in (m, place_cut n m t u due d k (drop at b) h g o)
place_told n t due d k b at Place.Wrong h others o = place_wrong n t due d k (drop at b) h o

pub place_key : (n : Next) (t : Token) (d k : ℕ) (b : List ℕ) (at : ℕ) (p : place.Place) → n ≡ InKey t
    → EndSays t b at Colon p → PlaceSays n d k b at p
place_key n t d k b at p e h =
    place_told n t Colon d k b at p (then_colon n t d k e) (λ u. (InKey u, then_colon (InKey u) u d k refl)) h

pub place_value : (n : Next) (t : Token) (d k : ℕ) (b : List ℕ) (at : ℕ) (p : place.Place) → 1 ≤ d → n ≡ InValue t
    → EndSays t b at After p → PlaceSays n d k b at p
place_value n t d k b at p l e h =
    place_told n t After d k b at p (then_after n t d k l e) (λ u. (InValue u, then_after (InValue u) u d k l refl)) h

pub place_between : (n : Next) (due : Due) (d k : ℕ) (s : List ℕ) → 1 ≤ d → n ≡ Between due
    → (ss : List Symbol) (v : List ℕ) → Stands (next_left n d k ss) (s ++ v)
    ↔ Stands (blanks ∷ due_left due d k ss) (s ++ v)
place_between n due d k s l e ss v =
    subst (λ q. Stands q (s ++ v) ↔ Stands (blanks ∷ due_left due d k ss) (s ++ v))
    (sym (ap (λ m. next_left m d k ss) e ∙ between_left due d k ss l)) (λ x. x, λ x. x)

pub place_closed : (n : Next) (d k : ℕ) (s : List ℕ) → 1 ≤ d → n ≡ Closed
    → (ss : List Symbol) (v : List ℕ) → Stands (next_left n d k ss) (s ++ v)
    ↔ Stands (blanks ∷ due_left After d k ss) (s ++ v)
place_closed n d k s l e ss v =
    subst (λ q. Stands q (s ++ v) ↔ Stands (blanks ∷ due_left After d k ss) (s ++ v))
    (sym (ap (λ m. next_left m d k ss) e ∙ frames_open d k ss l)) (λ x. x, λ x. x)

-- of a text
abbrev pub DueAt : ℕ → List ℕ → Due → ℕ → ℕ → ℕ → Type 0
DueAt x rest due d k at = Leaves x rest (λ ss. blanks ∷ due_left due d k ss) (drop at rest)

abbrev pub NextAt : ℕ → List ℕ → Next → ℕ → ℕ → ℕ → Type 0
NextAt x rest n d k at = Leaves x rest (next_left n d k) (drop at rest)

pub due_blanks : (x : ℕ) (rest : List ℕ) (due : Due) (d k at to : ℕ) → at < length rest → IsBlank (get_or rest at 0)
    → IsPast (drop (at + 1) rest) (drop to rest)
    → DueAt x rest due d k at → DueAt x rest due d k to
due_blanks x rest due d k at to l b p before ss v =
    let past : IsPast (drop at rest) (drop to rest) =
    subst (λ q. IsPast q (drop to rest)) (sym (drop_more rest at 0 l)) (inl (b, p)) in
    let read =
    past_read (due_left due d k ss) (drop at rest) (drop to rest)
    (λ y w h. due_not_blank due d k y ss w h) past v in
    let h = before ss v in
    (λ s. read.0 (h.0 s), λ s. h.1 (read.1 s))

pub due_read : (x : ℕ) (rest : List ℕ) (due : Due) (d k at : ℕ) (r : Reader) → at < length rest
    → Reads (λ ss. blanks ∷ due_left due d k ss) (get_or rest at 0) r true → DueAt x rest due d k at
    → NextAt x rest r.next r.depth r.kinds (at + 1)
due_read x rest due d k at r l reads before ss v =
    let h =
    subst (λ q. Stands (text ∷ ss) (x ∷ rest ++ v) ↔ Stands (blanks ∷ due_left due d k ss) (q ++ v))
    (drop_more rest at 0 l) (before ss v) in
    let g = reads.2 ss (drop (at + 1) rest ++ v) in
    (λ s. g.0 (h.0 s), λ s. h.1 (g.1 s))

pub next_done : (x : ℕ) (rest : List ℕ) (n : Next) (d k at : ℕ) → d ≡ 0 → n ≡ Closed → NextAt x rest n d k at
    → Leaves x rest (λ ss. ss) (drop at rest)
next_done x rest n d k at e is before ss v =
    subst (λ q. Stands (text ∷ ss) (x ∷ rest ++ v) ↔ Stands q (drop at rest ++ v))
    (ap (λ m. next_left m d k ss) is ∙ ap (λ j. frames j k ss) e ∙ frames_none k ss) (before ss v)

pub next_due : (x : ℕ) (rest : List ℕ) (n : Next) (due : Due) (d k at to : ℕ) → NextAt x rest n d k at
    → ((ss : List Symbol) (v : List ℕ) → Stands (next_left n d k ss) (drop at rest ++ v)
    ↔ Stands (blanks ∷ due_left due d k ss) (drop to rest ++ v)) → DueAt x rest due d k to
next_due x rest n due d k at to before h ss v =
    (λ s. (h ss v).0 ((before ss v).0 s), λ s. (before ss v).1 ((h ss v).1 s))

pub next_cut : (x : ℕ) (rest : List ℕ) (n m : Next) (d k at : ℕ) → NextAt x rest n d k at
    → ((ss : List Symbol) (v : List ℕ) → Stands (next_left n d k ss) (drop at rest ++ v)
    ↔ Stands (next_left m d k ss) v) → Leaves x rest (next_left m d k) []
next_cut x rest n m d k at before h ss v = (λ s. (h ss v).0 ((before ss v).0 s), λ s. (before ss v).1 ((h ss v).1 s))

pub due_cut : (x : ℕ) (rest : List ℕ) (due : Due) (d k at : ℕ) → 1 ≤ d → length rest ≤ at → DueAt x rest due d k at
    → Leaves x rest (next_left (Between due) d k) []
due_cut x rest due d k at l past before ss v =
    let h =
    subst (λ q. Stands (text ∷ ss) (x ∷ rest ++ v) ↔ Stands (blanks ∷ due_left due d k ss) (q ++ v))
    (drop_all at rest past) (before ss v) in
    subst (λ q. Stands (text ∷ ss) (x ∷ rest ++ v) ↔ Stands q v) (sym (between_left due d k ss l)) h

-- a colon that stands where it is due leaves a value
pub colon_past : (b : List ℕ) (p : ℕ) → p < length b → get_or b p 0 ≡ 0x3A → SaysAsMuch b (Place.At p Colon) (Place.At (p + 1) Value)
colon_past b p lt e n d k at (low, high, h) = (
  omega arith,
  omega arith,
  λ ss v.
      let x = get_or b p 0 in
      let skip = blank_skip x (due_left Colon d k ss) (drop (p + 1) b ++ v) (λ blank. grind arith) in
      let colon = colon_read x (blanks ∷ due_left Value d k ss) (drop (p + 1) b ++ v) e in
      let reads : Stands (blanks ∷ due_left Colon d k ss) (drop p b ++ v) ↔ Stands (blanks ∷ due_left Value d k ss) (drop (p + 1) b ++ v) =
      subst (λ u. Stands (blanks ∷ due_left Colon d k ss) (u ++ v) ↔ Stands (blanks ∷ due_left Value d k ss) (drop (p + 1) b ++ v)) (sym (drop_more b p 0 lt))
      (λ s. colon.0 (skip.0 s), λ s. skip.1 (colon.1 s)) in
      (λ s. reads.0 ((h ss v).0 s), λ s. (h ss v).1 (reads.1 s)),
)
