-- Text and binary data, block by block: what more bytes keep and may make, and the bytes that each has.
use Rattle.infer_formats.proofs.Common.{[], ◌≡◌, ℕ, ◌+◌, ◌-◌, ◌≤◌, ◌↔◌, Bool, true, false, List, length, get_or, take, drop, sym, subst, ap, ◌∙◌, arith, length-drop, OnTrue, get_or-drop, get_or-take, take_rest, AllBelow, IsBinary, IsDataByte, IsPlainByte, SomeBelow, ◌⊎◌, ◌<◌, inl, inr, suc, IsTrue, nat_eq, ◌∷◌, ◌++◌, refl, slice_index, cases_lt, get_or_append_left, OccursAt, MayBecome, OccursAt-append, OccursAt-front, Stays, lines, plain_text, IsText, StandsByPlace, accepts, between, stands, leb-true, nat_le, part_reads, ◌==◌, ◌&&◌, ◌||◌, nat_tests, not, zero}
use Rattle.infer_deep.specs.Text.{BeginsMarked, IsMark}
use Rattle.infer_sig.specs.Signature.{byte}
use Rattle.infer_formats.proofs.GrowthLemmas.{carried, longer}
use Rattle.infer_formats.proofs.OutlineLemmas.{in_range, one}
use Rattle.std.proofs.lemmas.List.Sums.{AllPass-from_list_all}
use Rattle.std.specs.List.{list_any}
use Rattle.std.proofs.lemmas.Bool.{or_cases}
use Rattle.infer_formats.proofs.TestLemmas.{neither}
use Rattle.infer_sig.proofs.KnownLemmas.{Known, at_most, proved, proved_if, takes, ◌>>=◌}

-- one more block of s bytes without them
pub plain_more : (b : List ℕ) (s n m : ℕ) → m ≡ n + s → AllBelow IsPlainByte b n → AllBelow IsPlainByte (take (n + s - n) (drop n b)) s
    → AllBelow IsPlainByte b m
plain_more b s n m e before block k lt is =
    let early = before k in
    let late = λ (far : n ≤ k).
    let same : n + (k - n) ≡ k = omega arith in
    let read = part_reads b n (n + s) (k - n) (omega arith) ∙ ap (λ i. get_or b i 0) same in
    block (k - n) (omega arith) (subst IsDataByte (sym read) is) in
    grind arith

-- binary data in the first n bytes is in all
pub binary_front : (r : Bool) (b : List ℕ) (n : ℕ) → n ≤ length b → OnTrue r (SomeBelow IsDataByte (take n b) n) → OnTrue r (IsBinary b)
binary_front true b n le (k, lt, is) = (k, omega arith, subst IsDataByte (get_or-take n b k 0 lt) is)
binary_front false b n le h = tt

-- what comes after them decides
pub binary_rest : (b : List ℕ) (n : ℕ) → n ≤ length b → AllBelow IsPlainByte b n → IsBinary (take (length b - n) (drop n b)) ↔ IsBinary b
binary_rest b n le plain = (
  λ binary. let (k, lt, is) = subst IsBinary (take_rest b n) binary in
      (n + k, omega (arith, lt, length-drop n b), subst IsDataByte (get_or-drop n b k 0) is),
  λ (k, lt, is).
      let far : n ≤ k = grind (arith, plain k) in
      let same : n + (k - n) ≡ k = omega arith in
      subst IsBinary (sym (take_rest b n))
      (k - n, omega (arith, lt, length-drop n b), subst IsDataByte (sym (get_or-drop n b (k - n) 0 ∙ ap (λ i. get_or b i 0) same)) is),
)

-- ---- a buffer that grows

module _ (b more : List ℕ) where
  pub binary-lasts : IsBinary b → IsBinary (b ++ more)
  binary-lasts (k, lt, is) = (k, longer b more (suc k) lt, carried b more IsDataByte k lt is)

-- ---- what more bytes may make

-- no byte of a mark is one of binary data
mark_high : (mark : List ℕ) → IsMark mark → (k : ℕ) → k < length mark → 0xBB ≤ slice_index mark k
mark_high mark is k lt = leb-true 0xBB _ (AllPass-from_list_all (nat_le 0xBB) mark (elim is [
  | inl e ↦ rw e refl
  | inr (inl e) ↦ rw e refl
  | inr (inr e) ↦ rw e refl
]) k 0 lt)

high_plain : (x : ℕ) → 0xBB ≤ x → ¬ IsDataByte x
high_plain x h is = grind arith

first_reads : {b text : List ℕ} → OccursAt b text 0 → (k : ℕ) → k < length text → slice_index b k ≡ slice_index text k
first_reads {b} {text} o k lt = let e : 0 + k ≡ k = omega arith in subst (λ i. slice_index b i ≡ slice_index text k) e (o.reads k lt)

module _ (b more : List ℕ) where
  known : (k : ℕ) → k < length b → slice_index (b ++ more) k ≡ slice_index b k
  known k lt = get_or_append_left b more 0 k lt

  -- a mark that is cut has no such byte
  cut_plain : (mark : List ℕ) → IsMark mark → OccursAt (b ++ more) mark 0 → length b ≤ length mark → ¬ IsBinary b
  cut_plain mark is o short (k, lt, data_byte) =
      let same : slice_index (b ++ more) k ≡ slice_index mark k = first_reads o k (omega arith) in
      let high = mark_high mark is k (omega arith) in
      high_plain (slice_index b k) (subst (λ x. 0xBB ≤ x) (sym same ∙ known k lt) high) data_byte

  was_text : (x : ℕ) (c : List ℕ) → b ≡ x ∷ c → IsText (b ++ more) → IsText b
  was_text x c e (inl (mark, is, o)) = elim (cases_lt (length b) (length mark)) [
    | inl short ↦ inr (subst (λ t. 1 ≤ length t) (sym e) (omega arith), cut_plain mark is o (omega arith))
    | inr long ↦ inl (mark, is, OccursAt-front b more mark 0 (omega arith) o)
  ]
  was_text x c e (inr (some, plain)) = inr (subst (λ t. 1 ≤ length t) (sym e) (omega arith), λ binary. plain (binary-lasts b more binary))

pub text_may : (b : List ℕ) → MayBecome IsText b → (length b ≡ 0) ⊎ IsText b
text_may [] h = inl refl
text_may (x ∷ b) (more, bytes, is) = inr (was_text (x ∷ b) more x b refl is)

pub empty_or_text : (b : List ℕ) (r t : Bool) → r ≡ nat_eq (length b) 0 → r ≡ false → IsTrue t ↔ IsText b → MayBecome IsText b → IsTrue t
empty_or_text b r t e not_so is h = elim (text_may b h) [
  | inl none ↦ absurd (grind arith)
  | inr so ↦ is.1 so
]

-- ---- texts with a mark

pub marked_stays : (b : List ℕ) → BeginsMarked b → Stays IsText b
marked_stays b (mark, is, o) more bytes = inl (mark, is, OccursAt-append b more mark 0 o)

-- ---- the bytes that each has

module _ (by_place : (place : ℕ) (t buf : List ℕ) → IsTrue (stands place t buf) ↔ StandsByPlace place t buf) (b : List ℕ) where
  pub text_lines : ((i : ℕ) → slice_index b i < 256) → IsText b → IsTrue (accepts (lines plain_text) b)
  text_lines small h =
      let (lt, low) = begun h in one by_place b 1 (byte 0 (between 0x09 0xFF)) [] (omega arith) (in_range by_place b 0 0x09 0xFF lt low (let s = small 0 in omega arith))
    where
      marked : (mark : List ℕ) (x : ℕ) → 0 < length mark → OccursAt b mark 0 → slice_index mark 0 ≡ x → 9 ≤ x → (0 < length b) × (9 ≤ slice_index b 0)
      marked mark x lt o e le = let fits = o.fits in let same = o.reads 0 lt in (omega arith, omega arith)

      begun : IsText b → (0 < length b) × (9 ≤ slice_index b 0)
      begun (inl (mark, inl e, o)) = marked mark 0xEF (rw e (omega arith)) o (rw e refl) (omega arith)
      begun (inl (mark, inr (inl e), o)) = marked mark 0xFE (rw e (omega arith)) o (rw e refl) (omega arith)
      begun (inl (mark, inr (inr e), o)) = marked mark 0xFF (rw e (omega arith)) o (rw e refl) (omega arith)
      begun (inr (le, none)) = (
        omega arith,
        elim (cases_lt (slice_index b 0) 9) [
          | inl l ↦ absurd (none (0, omega arith, inl (omega arith)))
          | inr l ↦ l
        ],
      )

-- ---- what a computation says of text, and of binary data

abbrev is_data : ℕ → Bool
is_data x = nat_le x 0x08 || (x == 0x0B || ((nat_le 0x0E x && nat_le x 0x1A) || (nat_le 0x1C x && nat_le x 0x1F)))

data_byte : (x : ℕ) → IsTrue (is_data x) → IsDataByte x
data_byte x h = grind (arith, nat_tests)

no_data_byte : (x : ℕ) → IsTrue (not (is_data x)) → ¬ IsDataByte x
no_data_byte x h is = grind (arith, nat_tests)

pub has_data : (b : List ℕ) → IsTrue (list_any is_data b) → IsBinary b
has_data [] h = absurd (cc)
has_data (x ∷ b) h = elim (or_cases (is_data x) _ h) [
  | inl e ↦ (0, omega arith, data_byte x e)
  | inr e ↦ let (k, lt, is) = has_data b e in (suc k, omega arith, is)
]

pub lacks_data : (b : List ℕ) → IsTrue (not (list_any is_data b)) → ¬ IsBinary b
lacks_data [] h (k, lt, is) = omega arith
lacks_data (x ∷ b) h (zero, lt, is) = no_data_byte x (neither (is_data x) (list_any is_data b) h).0 is
lacks_data (x ∷ b) h (suc k, lt, is) = lacks_data b (neither (is_data x) (list_any is_data b) h).1 (k, omega arith, is)

module _ (b : List ℕ) where
  abbrev pub known_binary : Known (IsBinary b)
  known_binary = proved_if (list_any is_data b) (has_data b)

  abbrev pub known_text : Known (IsText b)
  known_text = do
    some ← takes (at_most 1 (length b))
    none ← takes (proved_if (not (list_any is_data b)) (lacks_data b))
    proved (inr (some, none))
