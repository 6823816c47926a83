-- Skippable frames: where one stands at the front, and what is data after them.
use Rattle.infer_deep.proofs.Common.{◌≡◌, ◌↔◌, ℕ, ◌+◌, ◌-◌, ◌<◌, ◌≤◌, ◌⊎◌, inl, List, [], ◌∷◌, ◌++◌, length, max, get_or_past, get_or, take, drop, refl, ap, arith, length-append, IsTrue, take_at, take_rest, take-append-drop, length-take-le, get_or_append_left, le32, are_bytes, AgreesAt, Lasts, ComesWith, AreApart, IsEarly, MayBecome, nat_tests, SkipsTo, NoneBegins, BeginsWith, BeginsFrame, IsFrame, IsFramed, OccursAt}
use Rattle.infer_deep.specs.Laws.{BeginApart}
use Rattle.infer_deep.proofs.OpenLemmas.{fills_parts, grown_agrees, kept, kept_agrees, kept_bytes, kept_ends, kept_numbers, reaches_text}
use Rattle.infer_deep.proofs.PlaceLemmas.{OccursAt-append, OccursAt-agree, OccursAt-first, OccursAt-front}
use Rattle.infer_deep.proofs.NumberLemmas.{le32-append}
use Rattle.infer_deep.proofs.JoinedLemmas.{IsPrefixFree, Stops, WordsBegin, NoneBegins-first, After-lead, After-lasts, After-comes, After-left, After-apart, After-open}

-- what begins as a frame does so in a part that has its first four bytes
front_begins : (b more : List ℕ) → 4 ≤ length b → BeginsFrame (b ++ more) → BeginsFrame b
front_begins b more l f = grind (arith, OccursAt-front b more (0x2A ∷ 0x4D ∷ 0x18 ∷ []) 1, get_or_append_left b more 0 0)

pub BeginsFrame-early : IsEarly BeginsFrame
BeginsFrame-early b more long f = front_begins b more (omega arith) f

-- what begins as a frame does so by the number in its first four bytes
pub number_of_frame : (b : List ℕ) → 4 ≤ length b → ((i : ℕ) → get_or b i 0 < 256) → ((0x184D2A50 ≤ le32 b 0) × (le32 b 0 ≤ 0x184D2A5F)) ↔ BeginsFrame b
unfolding le32
number_of_frame b long bytes = grind (arith, nat_tests)

-- what a buffer says of the frame that begins it
module _ (b word rest : List ℕ) (f : IsFrame word) (e : b ≡ word ++ rest) where
  begun-length : length word ≡ 8 + le32 b 4
  begun-length = let same = le32-append word rest 4 (omega arith) in omega (arith, ap (λ u. le32 u 4) e)

  pub begun_fits : 8 + le32 b 4 ≤ length b
  begun_fits = let n = begun-length in omega (arith, ap length e, length-append word rest)

-- and what a frame begins begins as one
IsFrame-begins : (b rest : List ℕ) → BeginsWith IsFrame b rest → BeginsFrame b
IsFrame-begins b rest w = grind (arith, nat_tests, OccursAt-append w.word rest (0x2A ∷ 0x4D ∷ 0x18 ∷ []) 1, get_or_append_left w.word rest 0 0)

IsFrame-prefix_free : IsPrefixFree IsFrame
IsFrame-prefix_free v w x y f g e = grind (arith, nat_tests, begun-length (v ++ x) v x f refl, begun-length (v ++ x) w y g e, take_at v x (length v) refl, take_at w y (length v))

-- a frame of n bytes stands at the front
pub frame_begins : (b : List ℕ) (n : ℕ)
    → n ≡ 8 + le32 b 4 → BeginsFrame b → n ≤ length b → BeginsWith IsFrame b (take (length b - n) (drop n b))
frame_begins b n is begins fits =
    let front = front_begins (take n b) (drop n b) in
    grind (arith, nat_tests, take-append-drop n b, length-take-le n b, le32-append (take n b) (drop n b) 4, front, take_rest b n)

pub empty_frame : (b : List ℕ) → BeginsFrame b → le32 b 4 ≡ 0 → 8 ≤ length b → BeginsWith IsFrame b (take (length b - 8) (drop 8 b))
empty_frame b begins empty long = frame_begins b 8 (omega arith) begins long

-- the first byte of a frame
abbrev IsFrameByte : ℕ → Type 0
IsFrameByte x = (0x50 ≤ x) × (x ≤ 0x5F)

IsFrame-begin : WordsBegin IsFrame IsFrameByte
IsFrame-begin frame f = (omega arith, (f.begins.low, f.begins.high))

-- what is framed is a text after frames
abbrev Stands : List ℕ → List ℕ → Type 0
Stands magic b = OccursAt b magic 0

module _ (magic : List ℕ) where
  pub IsFramed-lasts : Lasts (IsFramed magic)
  IsFramed-lasts = After-lasts IsFrame (Stands magic) (λ u x. OccursAt-append u x magic 0)

  pub IsFramed-comes : length magic ≤ 4 → ComesWith (IsFramed magic) BeginsFrame
  IsFramed-comes short = After-comes IsFrame (Stands magic) BeginsFrame
      (λ u x rest l w. BeginsFrame-early u x l (IsFrame-begins (u ++ x) rest w)) (λ u x l o. inl (OccursAt-front u x magic 0 (omega arith) o))

-- the first byte is the magic's, or a frame's
pub IsFramed-lead : (x : ℕ) (magic b : List ℕ) → IsFramed (x ∷ magic) b → (get_or b 0 0 ≡ x) ⊎ IsFrameByte (get_or b 0 0)
IsFramed-lead x magic b h =
    let first = λ (u : List ℕ) (o : OccursAt u (x ∷ magic) 0). OccursAt-first u (x ∷ magic) 0 (omega arith) o in
    grind (arith, After-lead IsFrame (Stands (x ∷ magic)) IsFrameByte (λ y. y ≡ x) IsFrame-begin first b h)

-- a magic number whose first byte is below 50 begins with no frame
module _ (magic : List ℕ) (some : 0 < length magic) (low : get_or magic 0 0 < 0x50) where
  stands_stops : Stops (Stands magic) IsFrame
  stands_stops b o = grind (arith, nat_tests, NoneBegins-first IsFrame IsFrameByte IsFrame-begin b, IsFrame-begin b, OccursAt-first b magic 0 some o)

  pub IsFramed-left : (b left : List ℕ) → SkipsTo IsFrame b left → NoneBegins IsFrame left → Stands magic left ↔ IsFramed magic b
  IsFramed-left = After-left IsFrame (Stands magic) IsFrame-prefix_free stands_stops

  pub is_framed_open : IsTrue (are_bytes magic) → (b left : List ℕ) → SkipsTo IsFrame b left → NoneBegins IsFrame left
      → (AgreesAt left magic 0 ⊎ MayBecome IsFrame left) ↔ MayBecome (IsFramed magic) b
  is_framed_open bytes b left skips none =
      let reached = After-open IsFrame (Stands magic) IsFrame-prefix_free stands_stops
      ((reaches_text [] magic 0 bytes).0 (record { reads = λ k l m. absurd (omega arith) })) b left skips none in
      grind (arith, nat_tests, After-open, IsFrame-prefix_free, stands_stops, reaches_text)

-- two that differ in the first byte exclude each other
pub IsFramed-apart : (v w : List ℕ)
    → BeginApart v w → get_or v 0 0 < 0x50 → get_or w 0 0 < 0x50 → AreApart (IsFramed v) (IsFramed w)
IsFramed-apart v w (some_v, some_w, differ) low_v low_w b f =
    After-apart IsFrame (Stands w) IsFrame-prefix_free (stands_stops w some_w low_w) (Stands v) (stands_stops v some_v low_v)
    (λ u o k. differ (OccursAt-agree u v w 0 0 o k some_v some_w)) b f

-- what more bytes can make a frame agrees with its magic number
abbrev mark : List ℕ
mark = 0x2A ∷ 0x4D ∷ 0x18 ∷ []

pub frame_first : (b : List ℕ) → MayBecome IsFrame b → 0 < length b → IsFrameByte (get_or b 0 0)
frame_first b (more, bytes, f) some = let first = get_or_append_left b more 0 0 some in grind (arith, f.begins)

pub frame_mark : (b : List ℕ) → MayBecome IsFrame b → AgreesAt b mark 1
frame_mark b (more, bytes, f) = grown_agrees b more mark 1 f.begins.mark

-- and what agrees with it, and begins with no whole frame, more bytes can make one
pub frame_reached : (b : List ℕ) → NoneBegins IsFrame b → (0 < length b → IsFrameByte (get_or b 0 0)) → AgreesAt b mark 1 → MayBecome IsFrame b
frame_reached b none first agrees =
    let x = max (get_or b 0 0) 0x50 in
    let is : IsFrameByte x = grind (arith, first, get_or_past b 0 0) in
    let begun : AgreesAt b (x ∷ []) 0 = grind (arith, first) in
    let f = fills_parts (record { place = 0; text = x ∷ [] } ∷ record { place = 1; text = mark } ∷ kept b 4 4 ∷ []) b 0 (8 + le32 b 4)
    (omega arith, grind (arith, nat_tests, is), (omega arith, refl, (omega arith, kept_bytes b 4 4, omega (arith, kept_ends))))
    (begun, (agrees, (kept_agrees b 4 4, tt))) in
    let same = (kept_numbers b f.more 4 f.holds.1.1.0).0 in
    let head = OccursAt-first (b ++ f.more) (x ∷ []) 0 (omega arith) f.holds.0 in
    let begins : BeginsFrame (b ++ f.more) = record { low = omega arith; high = omega arith; mark = f.holds.1.0 } in
    let within : length b ≤ 8 + le32 b 4 = grind (arith, front_begins b f.more, frame_begins b (8 + le32 b 4) refl) in
    (f.more, f.bytes, record { begins = begins; sized = omega (arith, f.long, f.short) })
