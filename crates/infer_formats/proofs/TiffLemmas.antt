-- Tags of TIFF files: what more bytes keep and may bring, and the bytes that each file has.
use Rattle.infer_formats.proofs.Common.{[], IsTrue, ◌&&◌, suc, and_parts, OccursAt, ◌≡◌, inl, inr, ℕ, ◌+◌, ◌-◌, ◌*◌, ◌/◌, min, ◌<◌, ◌≤◌, Bool, true, false, List, ◌++◌, length, get_or, subst, arith, cases_lt, AgreesAt, are_bytes, MayBecome, agrees_past, grown_agrees, bytes16, number16, number32, BeginsTiff, HasTag, IsTagEntry, ◌∷◌, sym, ◌∙◌, OccursAt-append, ◌↔◌, StandsByPlace, accepts, at_least, stands, be16, be32}
use Rattle.infer_formats.specs.Outline.{tiff_lines}
use Rattle.infer_formats.specs.Tiff.{HasTagAndMake, IsMakeEntry, MayBeginTiff, MayHaveEntry, MayHaveTag, make_tag}
use Rattle.infer_sig.specs.Signature.{text}
use Rattle.infer_formats.proofs.GrowthLemmas.{number16-append, number32-append, longer}
use Rattle.infer_formats.proofs.OpenLemmas.{grown_byte, number16_stands, small_byte}
use Rattle.infer_formats.proofs.OutlineLemmas.{occurs, other, one}
use Rattle.infer_sig.specs.Signature as fixed
use Rattle.infer_sig.proofs.KnownLemmas.{Known, at_most, proved, refuted_if, same, takes, ◌>>=◌, ◌>>◌}
use Rattle.infer_sig.proofs.OccurrenceLemmas as Place
use Rattle.infer_sig.proofs.OccurrenceLemmas.{ByPlace}

-- ---- a buffer that grows

module _ (b more : List ℕ) where
  begins_tiff : (big : Bool) → BeginsTiff big b → BeginsTiff big (b ++ more)
  begins_tiff true o = OccursAt-append b more _ 0 o
  begins_tiff false o = OccursAt-append b more _ 0 o

  entry_lasts : (big : Bool) (tag i : ℕ) → IsTagEntry big tag b (number32 big b 4) i → IsTagEntry big tag (b ++ more) (number32 big (b ++ more) 4) i
  entry_lasts big tag i (lt, whole, is) =
      let start = number32 big b 4 in
      subst (λ s. IsTagEntry big tag (b ++ more) s i) (sym (number32-append b more big 4 (omega arith))) (
        subst (λ n. i < n) (sym (number16-append b more big start (omega arith))) lt,
        longer b more _ whole,
        number16-append b more big (start + 2 + 12 * i) (omega arith) ∙ is,
      )

  made_lasts : (big : Bool) (make : List ℕ) (i : ℕ) → IsMakeEntry big make b (number32 big b 4) i
      → IsMakeEntry big make (b ++ more) (number32 big (b ++ more) 4) i
  made_lasts big make i (entry, o) =
      let start = number32 big b 4 in
      let whole = entry.1 in
      let at = number32-append b more big (start + 2 + 12 * i + 8) (omega arith) in
      let place = number32-append b more big 4 (omega arith) in (
        entry_lasts big make_tag i entry,
        subst (λ s. OccursAt (b ++ more) make (number32 big (b ++ more) (s + 2 + 12 * i + 8))) (sym place)
            (subst (OccursAt (b ++ more) make) (sym at) (OccursAt-append b more make _ o)),
      )

  pub tag_and_make-lasts : (tag : ℕ) (make : List ℕ) → HasTagAndMake tag make b → HasTagAndMake tag make (b ++ more)
  tag_and_make-lasts tag make (big, begins, (i, tagged), (j, made)) =
      (big, begins_tiff big begins, (i, entry_lasts big tag i tagged), (j, made_lasts big make j made))

  pub tag-lasts : (tag : ℕ) → HasTag tag b → HasTag tag (b ++ more)
  tag-lasts tag (big, begins, (i, tagged)) = (big, begins_tiff big begins, (i, entry_lasts big tag i tagged))

-- ---- what more bytes may bring

begins_known : (big : Bool) (b more : List ℕ) → BeginsTiff big (b ++ more) → MayBeginTiff big b
begins_known true b more o = grown_agrees b more _ 0 o
begins_known false b more o = grown_agrees b more _ 0 o

known_entry : (big : Bool) (tag : ℕ) (b more : List ℕ) (i : ℕ) → ((k : ℕ) → get_or (b ++ more) k 0 < 256)
    → IsTagEntry big tag (b ++ more) (number32 big (b ++ more) 4) i → MayHaveEntry big tag b
known_entry big tag b more i small entry = elim (cases_lt (length b) 8) [
  | inl l ↦ inl l
  | inr long ↦ elim (cases_lt (length b) (number32 big b 4 + 2)) [
    | inl l ↦ inr (inl l)
    | inr listed ↦
        let c = b ++ more in
        let s = number32 big b 4 in
        let start : number32 big c 4 ≡ s = number32-append b more big 4 (omega arith) in
        let count : number16 big c s ≡ number16 big b s = number16-append b more big s (omega arith) in
        let (below, fits, tagged) = subst (λ u. IsTagEntry big tag c u i) start entry in
        let stands = number16_stands c big (s + 2 + 12 * i) tag small (omega arith) tagged in
        inr (inr (i, subst (λ n. i < n) count below, grown_agrees b more (bytes16 big tag) (s + 2 + 12 * i) stands))
  ]
]

pub tag_known : (tag : ℕ) (b : List ℕ) → IsTrue (are_bytes b) → MayBecome (HasTag tag) b → MayHaveTag tag b
tag_known tag b b_bytes (more, bytes, (true, begins, (i, entry))) =
    inr (begins_known true b more begins, known_entry true tag b more i (λ k. grown_byte b more k b_bytes bytes) entry)
tag_known tag b b_bytes (more, bytes, (false, begins, (i, entry))) =
    inl (begins_known false b more begins, known_entry false tag b more i (λ k. grown_byte b more k b_bytes bytes) entry)

-- no entry agrees if none of those does that b has, or the first one past its end
pub none_agrees : (b wanted : List ℕ) (s many count : ℕ) → s + 2 ≤ length b → count ≡ min many ((length b - s - 2) / 12 + 2)
    → ((k : ℕ) → k < count → ¬ AgreesAt b wanted (s + 2 + 12 * k)) → (i : ℕ) → i < many → ¬ AgreesAt b wanted (s + 2 + 12 * i)
none_agrees b wanted s many count listed is none i lt a = elim (cases_lt i count) [
  | inl l ↦ none i l a
  | inr l ↦
      let q = (length b - s - 2) / 12 + 1 in
      none q (omega arith) (agrees_past b wanted (s + 2 + 12 * q) (omega arith))
]

-- ---- the bytes that each has

module _ (by_place : (place : ℕ) (t buf : List ℕ) → IsTrue (stands place t buf) ↔ StandsByPlace place t buf) (b : List ℕ) where
  abbrev little_tiff : fixed.Alternative
  little_tiff = at_least 4 (text 0 (0x49 ∷ 0x49 ∷ 0x2A ∷ 0x00 ∷ []) ∷ [])

  abbrev big_tiff : fixed.Alternative
  big_tiff = at_least 4 (text 0 (0x4D ∷ 0x4D ∷ 0x00 ∷ 0x2A ∷ []) ∷ [])

  pub tag_lines : (big : Bool) → BeginsTiff big b → IsTrue (accepts tiff_lines b)
  tag_lines false o = let le = o.fits in one by_place b 4 (text 0 (0x49 ∷ 0x49 ∷ 0x2A ∷ 0x00 ∷ [])) (big_tiff ∷ []) (omega arith) (occurs by_place b 0 _ o)
  tag_lines true o = let le = o.fits in other by_place b little_tiff (big_tiff ∷ []) (one by_place b 4 (text 0 (0x4D ∷ 0x4D ∷ 0x00 ∷ 0x2A ∷ [])) [] (omega arith) (occurs by_place b 0 _ o))

-- ---- what a computation says of a directory of TIFF

module _ (by_place : ByPlace) (b : List ℕ) where
  -- the first entry of a directory whose highest byte comes first
  abbrev known_first_tag : (tag : ℕ) → Known (HasTag tag b)
  known_first_tag tag = do
    begins ← takes (Place.occurs by_place (0x4D ∷ 0x4D ∷ 0x00 ∷ 0x2A ∷ []) b 0)
    some ← takes (at_most 1 (be16 b (be32 b 4)))
    whole ← takes (at_most (be32 b 4 + 2 + 12 * 0 + 12) (length b))
    is_it ← takes (same (be16 b (be32 b 4 + 2 + 12 * 0)) tag)
    proved (true, begins, (0, (some, whole, is_it)))

  -- the two bytes of the tag stand nowhere, in either order
  abbrev pub lacks_tag : ℕ → Bool
  lacks_tag tag =
      are_bytes b && (Place.lacks 0 (suc (length b)) (bytes16 true tag) b && Place.lacks 0 (suc (length b)) (bytes16 false tag) b)

  stands_nowhere : (big : Bool) (tag p : ℕ) → IsTrue (lacks_tag tag) → ¬ OccursAt b (bytes16 big tag) p
  stands_nowhere true tag p none = grind (arith, and_parts, Place.nowhere_from by_place (bytes16 true tag) b 0 p)
  stands_nowhere false tag p none = grind (arith, and_parts, Place.nowhere_from by_place (bytes16 false tag) b 0 p)

  pub untagged : (tag : ℕ) → IsTrue (lacks_tag tag) → ¬ HasTag tag b
  untagged tag none (big, begins, (i, (lt, whole, is))) =
      let s = number32 big b 4 in
      stands_nowhere big tag (s + 2 + 12 * i) none (number16_stands b big (s + 2 + 12 * i) tag (λ k. small_byte b k (and_parts (are_bytes b) _ none).0) (omega arith) is)

  -- a directory whose first entry has the tag, or no such bytes
  abbrev pub known_tag : (tag : ℕ) → Known (HasTag tag b)
  known_tag tag = ◌>>◌ (known_first_tag tag) (refuted_if (lacks_tag tag) (untagged tag))

  -- the tag first, and the make right after it
  abbrev known_made_next : (tag : ℕ) (make : List ℕ) → Known (HasTagAndMake tag make b)
  known_made_next tag make = do
    begins ← takes (Place.occurs by_place (0x4D ∷ 0x4D ∷ 0x00 ∷ 0x2A ∷ []) b 0)
    some ← takes (at_most 2 (be16 b (be32 b 4)))
    whole ← takes (at_most (be32 b 4 + 2 + 12 * 1 + 12) (length b))
    tagged ← takes (same (be16 b (be32 b 4 + 2 + 12 * 0)) tag)
    made ← takes (same (be16 b (be32 b 4 + 2 + 12 * 1)) make_tag)
    stands ← takes (Place.occurs by_place make b (be32 b (be32 b 4 + 2 + 12 * 1 + 8)))
    proved (true, begins, (0, (omega arith, omega arith, tagged)), (1, ((omega arith, whole, made), stands)))

  pub unmade : (tag : ℕ) (make : List ℕ) → IsTrue (Place.lacks 0 (suc (length b)) make b) → ¬ HasTagAndMake tag make b
  unmade tag make none (big, begins, tagged, (j, (entry, o))) = Place.nowhere_from by_place make b 0 _ (omega arith) none o

  -- or that make stands nowhere
  abbrev pub known_tag_and_make : (tag : ℕ) (make : List ℕ) → Known (HasTagAndMake tag make b)
  known_tag_and_make tag make = ◌>>◌ (known_made_next tag make) (refuted_if (Place.lacks 0 (suc (length b)) make b) (unmade tag make))
