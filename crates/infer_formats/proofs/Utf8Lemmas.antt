-- Beginnings of UTF-8, by what each byte may follow.
use Rattle.infer_formats.proofs.Common.{◌≡◌, ℕ, zero, suc, ◌+◌, ◌-◌, ◌<◌, ◌≤◌, inl, inr, ◌↔◌, List, [], ◌∷◌, ◌++◌, length, get_or, take, drop, refl, sym, subst, ap, ◌∙◌, arith, append_assoc, drop_more, drop_all, cases_lt, take-append-drop, take_all, append-nil, BeginsUtf8, IsCutLen, MayBeginChar, MayFollow}
use Rattle.std.proofs.lemmas.Str.{IsUtf8-append}
use Rattle.std.specs.Str.{IsUtf8}
use Rattle.simdutf8.specs.Steps.{IsClosed, IsContinuation, Step, first, second, later, StepsThen, least_after}
use Rattle.simdutf8.specs.Tracks.{last_three}
use Rattle.simdutf8.proofs.Chars.{least_is, most_is, StepsThen-IsUtf8, closed-IsUtf8}
use Rattle.simdutf8.proofs.StepsLemmas.{StepsThen_parts, StepsThen-append}

-- a character of two, three and four bytes
char_of_two : (x y : ℕ) → MayFollow x y → x < 0xE0 → IsUtf8 (x ∷ y ∷ [])
char_of_two x y f short =
    let l = least_is x in
    let m = most_is x in
    (StepsThen-IsUtf8 (x ∷ y ∷ [])).0
    (first (omega arith) (inr (omega arith)), (second (omega arith) (omega arith) (omega arith), omega arith))

char_of_three : (x y z : ℕ) → MayFollow x y → IsContinuation z → 0xE0 ≤ x → x < 0xF0 → IsUtf8 (x ∷ y ∷ z ∷ [])
char_of_three x y z f c low high =
    let l = least_is x in
    let m = most_is x in
    (StepsThen-IsUtf8 (x ∷ y ∷ z ∷ [])).0
    (first (omega arith) (inr (omega arith)), (second (omega arith) (omega arith) (omega arith), (later (inr low) (omega arith) (omega arith), omega arith)))

char_of_four : (x y z u : ℕ) → MayFollow x y → IsContinuation z → IsContinuation u → 0xF0 ≤ x → IsUtf8 (x ∷ y ∷ z ∷ u ∷ [])
char_of_four x y z u f c d low =
    let l = least_is x in
    let m = most_is x in
    (StepsThen-IsUtf8 (x ∷ y ∷ z ∷ u ∷ [])).0
    (first (omega arith) (inr (omega arith)), (second (omega arith) (omega arith) (omega arith), (later (inr (omega arith)) (omega arith) (omega arith), (later (inl low) (omega arith) (omega arith), omega arith))))

-- the least byte may follow
least_follows : (x : ℕ) → 0xC2 ≤ x → x ≤ 0xF4 → MayFollow x (least_after x)
least_follows x low high =
    let l = least_is x in
    let m = most_is x in
    omega arith

-- what a character can begin with becomes one
abbrev Completes : List ℕ → Type 0
Completes t = (more : List ℕ) × IsUtf8 (t ++ more)

pub one_completes : (x : ℕ) → 0xC2 ≤ x → x ≤ 0xF4 → Completes (x ∷ [])
one_completes x low high =
    let f = least_follows x low high in
    elim (cases_lt x 0xE0) [
      | inl short ↦ (least_after x ∷ [], char_of_two x (least_after x) f short)
      | inr long ↦ elim (cases_lt x 0xF0) [
        | inl short ↦ (least_after x ∷ 0x80 ∷ [], char_of_three x (least_after x) 0x80 f (omega arith) long short)
        | inr longer ↦ (least_after x ∷ 0x80 ∷ 0x80 ∷ [], char_of_four x (least_after x) 0x80 0x80 f (omega arith) (omega arith) longer)
      ]
    ]

pub two_complete : (x y : ℕ) → MayFollow x y → 0xE0 ≤ x → Completes (x ∷ y ∷ [])
two_complete x y f long = elim (cases_lt x 0xF0) [
  | inl short ↦ (0x80 ∷ [], char_of_three x y 0x80 f (omega arith) long short)
  | inr longer ↦ (0x80 ∷ 0x80 ∷ [], char_of_four x y 0x80 0x80 f (omega arith) (omega arith) longer)
]

pub three_complete : (x y z : ℕ) → MayFollow x y → IsContinuation z → 0xF0 ≤ x → Completes (x ∷ y ∷ z ∷ [])
three_complete x y z f c longer = (0x80 ∷ [], char_of_four x y z 0x80 f c (omega arith) longer)

-- and what becomes one is such
second_may_follow : (x y : ℕ) → 0xC0 ≤ x → Step 0 0 x y → MayFollow x y
second_may_follow x y lead (first p q) = absurd (omega arith)
second_may_follow x y lead (second p q r) = omega arith
second_may_follow x y lead (later p q r) = absurd (omega arith)

third_continues : (x y z : ℕ) → 0xE0 ≤ x → Step 0 x y z → IsContinuation z
third_continues x y z lead (first p q) = absurd (omega arith)
third_continues x y z lead (second p q r) = absurd (omega arith)
third_continues x y z lead (later p q r) = r

pub one_completed : (x : ℕ) (more : List ℕ) → 0xC0 ≤ x → StepsThen IsClosed 0 0 0 (x ∷ more) → (0xC2 ≤ x) × (x ≤ 0xF4)
one_completed x [] lead (s, closed) = absurd (omega arith)
one_completed x (y ∷ more) lead (s, (t, rest)) = let f = second_may_follow x y lead t in (f.0, f.1)

-- a first byte of a character comes where none is open
closed_before_first : (u v w x : ℕ) → 0xC0 ≤ x → Step u v w x → IsClosed u v w
closed_before_first u v w x lead (first p q) = p
closed_before_first u v w x lead (second p q r) = let m = most_is w in absurd (omega arith)
closed_before_first u v w x lead (later p q r) = absurd (omega arith)

-- so what comes before it is UTF-8, and what begins with it
pub cut_before_first : (p t : List ℕ) (x : ℕ) (rest : List ℕ) → t ≡ x ∷ rest → 0xC0 ≤ x → IsUtf8 (p ++ t) → IsUtf8 p × IsUtf8 t
cut_before_first p t x rest e lead utf =
    let parts = (StepsThen-append IsClosed 0 0 0 p t).0 ((StepsThen-IsUtf8 (p ++ t)).1 utf) in
    let l = last_three 0 0 0 p in
    let begun : StepsThen IsClosed l.0 l.1 l.2 (x ∷ rest) = subst (StepsThen IsClosed l.0 l.1 l.2) e parts.1 in
    let closed = closed_before_first l.0 l.1 l.2 x lead begun.0 in (
      (StepsThen-IsUtf8 p).0 ((StepsThen_parts IsClosed 0 0 0 p).1 (parts.0, closed)),
      closed-IsUtf8 l.0 l.1 l.2 t closed parts.1,
    )

-- the two parts again make the whole
joined : (p t : List ℕ) → IsUtf8 p → Completes t → BeginsUtf8 (p ++ t)
joined p t utf (more, done) = (more, subst IsUtf8 (sym (append_assoc p t more)) (IsUtf8-append p (t ++ more) utf done))

parted : (p : List ℕ) (x : ℕ) (rest : List ℕ) → 0xC0 ≤ x → BeginsUtf8 (p ++ x ∷ rest)
    → IsUtf8 p × ((more : List ℕ) × StepsThen IsClosed 0 0 0 (x ∷ rest ++ more))
parted p x rest lead (more, utf) =
    let cut = cut_before_first p (x ∷ rest ++ more) x (rest ++ more) refl lead (subst IsUtf8 (append_assoc p (x ∷ rest) more) utf) in
    (cut.0, (more, (StepsThen-IsUtf8 (x ∷ rest ++ more)).1 cut.1))

-- by the number of bytes that are cut off
cut_one : (p : List ℕ) (x : ℕ) → 0xC0 ≤ x → BeginsUtf8 (p ++ x ∷ []) ↔ (MayBeginChar (x ∷ []) × IsUtf8 p)
cut_one p x lead = (
  λ begins. let (utf, (more, steps)) = parted p x [] lead begins in (one_completed x more lead steps, utf),
  λ (may, utf). joined p (x ∷ []) utf (one_completes x may.0 may.1),
)

cut_two : (p : List ℕ) (x y : ℕ) → 0xE0 ≤ x → BeginsUtf8 (p ++ x ∷ y ∷ []) ↔ (MayBeginChar (x ∷ y ∷ []) × IsUtf8 p)
cut_two p x y lead = (
  λ begins. let (utf, (more, steps)) = parted p x (y ∷ []) (omega arith) begins in (second_may_follow x y (omega arith) steps.1.0, utf),
  λ (may, utf). joined p (x ∷ y ∷ []) utf (two_complete x y may lead),
)

cut_three : (p : List ℕ) (x y z : ℕ) → 0xF0 ≤ x → BeginsUtf8 (p ++ x ∷ y ∷ z ∷ []) ↔ (MayBeginChar (x ∷ y ∷ z ∷ []) × IsUtf8 p)
cut_three p x y z lead = (
  λ begins. let (utf, (more, steps)) = parted p x (y ∷ z ∷ []) (omega arith) begins in
      ((second_may_follow x y (omega arith) steps.1.0, third_continues x y z (omega arith) steps.1.1.0), utf),
  λ (may, utf). joined p (x ∷ y ∷ z ∷ []) utf (three_complete x y z may.0 may.1 lead),
)

-- the last three bytes, by their places after three others
last_three_reads : (x y z : ℕ) (bs : List ℕ) → last_three x y z bs
    ≡ (get_or (x ∷ y ∷ z ∷ bs) (length bs) 0, get_or (x ∷ y ∷ z ∷ bs) (suc (length bs)) 0, get_or (x ∷ y ∷ z ∷ bs) (suc (suc (length bs))) 0)
last_three_reads x y z [] = refl
last_three_reads x y z (b ∷ bs) = last_three_reads y z b bs

-- n places before the end, or before it begins
from_end : (bs : List ℕ) (most k n : ℕ) → 0 < most → k + n ≡ length bs + 3 → (n ≤ length bs → get_or bs (length bs - n) 0 < most)
    → get_or (0 ∷ 0 ∷ 0 ∷ bs) k 0 < most
from_end bs most zero n pos e h = pos
from_end bs most (suc zero) n pos e h = pos
from_end bs most (suc (suc zero)) n pos e h = pos
from_end bs most (suc (suc (suc k))) n pos e h =
    let same : length bs - n ≡ k = omega arith in
    subst (λ i. get_or bs i 0 < most) same (h (omega arith))

-- and with none cut off
cut_none : (b : List ℕ) → (1 ≤ length b → get_or b (length b - 1) 0 < 0xC0) → (2 ≤ length b → get_or b (length b - 2) 0 < 0xE0)
    → (3 ≤ length b → get_or b (length b - 3) 0 < 0xF0) → BeginsUtf8 b → IsUtf8 b
cut_none b one two three (more, utf) =
    let parts = (StepsThen-append IsClosed 0 0 0 b more).0 ((StepsThen-IsUtf8 (b ++ more)).1 utf) in
    let l = last_three 0 0 0 b in
    let same = last_three_reads 0 0 0 b in
    let closed : IsClosed l.0 l.1 l.2 =
    subst (λ t. IsClosed t.0 t.1 t.2) (sym same) (
      from_end b 0xF0 (length b) 3 (omega arith) (omega arith) three,
      from_end b 0xE0 (suc (length b)) 2 (omega arith) (omega arith) two,
      from_end b 0xC0 (suc (suc (length b))) 1 (omega arith) (omega arith) one,
    ) in
    (StepsThen-IsUtf8 b).0 ((StepsThen_parts IsClosed 0 0 0 b).1 (parts.0, closed))

-- the last bytes of a buffer
last_one : (b : List ℕ) (i : ℕ) → i + 1 ≡ length b → drop i b ≡ get_or b i 0 ∷ []
last_one b i e = rw (drop_more b i 0 (omega arith), drop_all (i + 1) b (omega arith)) refl

last_two : (b : List ℕ) (i : ℕ) → i + 2 ≡ length b → drop i b ≡ get_or b i 0 ∷ get_or b (i + 1) 0 ∷ []
last_two b i e = drop_more b i 0 (omega arith) ∙ ap (λ t. get_or b i 0 ∷ t) (last_one b (i + 1) (omega arith))

last_of_three : (b : List ℕ) (i : ℕ) → i + 3 ≡ length b → drop i b ≡ get_or b i 0 ∷ get_or b (i + 1) 0 ∷ get_or b (i + 1 + 1) 0 ∷ []
last_of_three b i e = drop_more b i 0 (omega arith) ∙ ap (λ t. get_or b i 0 ∷ t) (last_two b (i + 1) (omega arith))

-- what the part before and the part cut off say together
abbrev Says : List ℕ → List ℕ → List ℕ → Type 0
Says b p t = BeginsUtf8 b ↔ (MayBeginChar t × IsUtf8 p)

at_parts : (b t : List ℕ) (i : ℕ) → drop i b ≡ t → Says (take i b ++ t) (take i b) t → Says b (take i b) (drop i b)
at_parts b t i e says =
    let whole : take i b ++ t ≡ b = ap (λ u. take i b ++ u) (sym e) ∙ take-append-drop i b in
    subst (λ u. Says b (take i b) u) (sym e) (subst (λ u. Says u (take i b) t) whole says)

uncut : (b : List ℕ) → (BeginsUtf8 b → IsUtf8 b) → Says b b []
uncut b whole = (
  λ begins. (tt, whole begins),
  λ (may, utf). ([], subst IsUtf8 (sym (append-nil b)) utf),
)

uncut_at : (b : List ℕ) (i : ℕ) → i ≡ length b → (BeginsUtf8 b → IsUtf8 b) → Says b (take i b) (drop i b)
uncut_at b i e whole =
    subst (λ p. Says b p (drop i b)) (sym (take_all i b (omega arith)))
    (subst (λ t. Says b b t) (sym (drop_all i b (omega arith))) (uncut b whole))

lead_at : (b : List ℕ) (least i j : ℕ) → i ≡ j → least ≤ get_or b i 0 → least ≤ get_or b j 0
lead_at b least i j e le = subst (λ k. least ≤ get_or b k 0) e le

pub begins_by_cut : (b : List ℕ) (n : ℕ) → IsCutLen b n → Says b (take (length b - n) b) (drop (length b - n) b)
begins_by_cut b n (le, cases) =
    let i = length b - n in
    elim cases [
      | inl one ↦ at_parts b _ i (last_one b i (omega arith)) (cut_one _ _ (lead_at b 0xC0 _ i (omega arith) one.1))
      | inr (inl two) ↦ at_parts b _ i (last_two b i (omega arith)) (cut_two _ _ _ (lead_at b 0xE0 _ i (omega arith) two.1))
      | inr (inr (inl three)) ↦ at_parts b _ i (last_of_three b i (omega arith)) (cut_three _ _ _ _ (lead_at b 0xF0 _ i (omega arith) three.1))
      | inr (inr (inr none)) ↦ uncut_at b i (omega arith) (cut_none b none.1 none.2 none.3)
    ]

pub begins_by_parts : (b p t : List ℕ) (n : ℕ) → IsCutLen b n → p ≡ take (length b - n) b → t ≡ drop (length b - n) b → Says b p t
begins_by_parts b p t n cut front back =
    subst (λ u. Says b u t) (sym front) (subst (λ u. Says b (take (length b - n) b) u) (sym back) (begins_by_cut b n cut))
