-- What is left of a text, byte by byte.
use Rattle.infer_formats.proofs.Common.{◌≡◌, ℕ, zero, suc, ◌+◌, ◌-◌, ◌*◌, ◌/◌, ◌%◌, ◌^◌, ◌≤◌, ◌<◌, ◌⊎◌, inl, inr, ◌↔◌, Bool, true, false, List, ◌∷◌, refl, sym, subst, ap, ◌∙◌, arith, Symbol, blanks, value, items, more_items, members, member, more_members, chars, text, byte, Stands, first_in, more_in, next_left, IsNested, frames, due_left, EndsNumber, Reads, Due, First, Value, Key, Colon, After, Next, Closed, Between, Reader, IsBlank, beginning, closing, IsClosedTo, MayGoOn}
use Rattle.std.proofs.Math.Nat.{pow-le-pow_right}
use Rattle.std.proofs.lemmas.Grind.{pow_more}
use Rattle.infer_formats.proofs.JsonLemmas.{begins, range_begins, value_begins, array_begins, object_begins, none_nested}

pub frames_none : (k : ℕ) (ss : List Symbol) → frames 0 k ss ≡ ss
unfolding frames
frames_none k ss = refl

pub frames_open : (d k : ℕ) (ss : List Symbol) → 1 ≤ d → frames d k ss ≡ blanks ∷ due_left After d k ss
unfolding frames
frames_open zero k ss l = absurd (omega arith)
frames_open (suc m) k ss l =
    let e : m ≡ suc m - 1 = omega arith in
    ap (λ i. blanks ∷ more_in (k % 2) (128 - suc m) ∷ frames i (k / 2) ss) e

-- a colon, and the quote of a key
pub colon_read : (x : ℕ) (ss : List Symbol) (v : List ℕ) → x ≡ 0x3A → Stands (byte 0x3A ∷ ss) (x ∷ v) ↔ Stands ss v
colon_read x ss v e =
    let b = range_begins 0x3A 0x3A x ss v in (λ d. let f = b.0 d in grind arith, λ d. b.1 (grind arith))

pub key_read : (n x : ℕ) (ss : List Symbol) (v : List ℕ) → x ≡ 0x22
    → Stands (member n ∷ ss) (x ∷ v) ↔ Stands (chars ∷ blanks ∷ byte 0x3A ∷ blanks ∷ value n ∷ ss) v
key_read n x ss v e =
    let b = begins 2 x v (member n ∷ ss) in (λ d. let f = b.0 d in grind arith, λ d. b.1 (grind arith))

-- after a value, in an array and in an object
more_item : (kind n : ℕ) (ss : List Symbol) (v : List ℕ) → kind ≡ 0
    → Stands (more_in kind n ∷ ss) (0x2C ∷ v) ↔ Stands (blanks ∷ value n ∷ blanks ∷ more_in kind n ∷ ss) v
more_item zero n ss v e =
    let b = begins 2 0x2C v (more_items n ∷ ss) in (λ d. let f = b.0 d in grind arith, λ d. b.1 (grind arith))
more_item (suc k) n ss v e = absurd (omega arith)

more_member : (kind n : ℕ) (ss : List Symbol) (v : List ℕ) → kind ≡ 1
    → Stands (more_in kind n ∷ ss) (0x2C ∷ v) ↔ Stands (blanks ∷ member n ∷ blanks ∷ more_in kind n ∷ ss) v
more_member zero n ss v e = absurd (omega arith)
more_member (suc k) n ss v e =
    let b = begins 2 0x2C v (more_members n ∷ ss) in (λ d. let f = b.0 d in grind arith, λ d. b.1 (grind arith))

item_read : (d k : ℕ) (ss : List Symbol) (v : List ℕ) → 1 ≤ d → k % 2 ≡ 0
    → Stands (due_left After d k ss) (0x2C ∷ v) ↔ Stands (blanks ∷ due_left Value d k ss) v
item_read d k ss v l e =
    subst (λ rest. Stands (due_left After d k ss) (0x2C ∷ v) ↔ Stands (blanks ∷ value (128 - d) ∷ rest) v)
    (sym (frames_open d k ss l))
    (more_item (k % 2) (128 - d) (frames (d - 1) (k / 2) ss) v e)

member_read : (d k : ℕ) (ss : List Symbol) (v : List ℕ) → 1 ≤ d → k % 2 ≡ 1
    → Stands (due_left After d k ss) (0x2C ∷ v) ↔ Stands (blanks ∷ due_left Key d k ss) v
member_read d k ss v l e =
    subst (λ rest. Stands (due_left After d k ss) (0x2C ∷ v) ↔ Stands (blanks ∷ member (128 - d) ∷ rest) v)
    (sym (frames_open d k ss l))
    (more_member (k % 2) (128 - d) (frames (d - 1) (k / 2) ss) v e)

-- the bracket of this kind closes
more_closes : (kind n x : ℕ) (ss : List Symbol) (v : List ℕ) → x ≡ closing kind
    → Stands (more_in kind n ∷ ss) (x ∷ v) ↔ Stands ss v
more_closes zero n x ss v e =
    let b = begins 2 x v (more_items n ∷ ss) in (λ d. let f = b.0 d in grind arith, λ d. b.1 (grind arith))
more_closes (suc k) n x ss v e =
    let b = begins 2 x v (more_members n ∷ ss) in (λ d. let f = b.0 d in grind arith, λ d. b.1 (grind arith))

first_closes : (kind n x : ℕ) (ss : List Symbol) (v : List ℕ) → x ≡ closing kind
    → Stands (first_in kind n ∷ ss) (x ∷ v) ↔ Stands ss v
first_closes zero n x ss v e =
    let b = begins 1 x v (items n ∷ ss) in
    let c = range_begins 0x5D 0x5D x ss v in
    let d = value_begins n x (blanks ∷ more_items n ∷ ss) v (λ f. omega arith) (λ f. omega arith) in
    (λ s. let f = b.0 s in grind arith, λ s. b.1 (inr (inl (c.1 (grind arith)))))
first_closes (suc k) n x ss v e =
    let b = begins 3 x v (members n ∷ ss) in (λ d. let f = b.0 d in grind arith, λ d. b.1 (grind arith))

-- where it does not close, a value or a member comes
first_item : (kind n x : ℕ) (ss : List Symbol) (v : List ℕ) → kind ≡ 0 → ¬ (x ≡ 0x5D)
    → Stands (first_in kind n ∷ ss) (x ∷ v) ↔ Stands (value n ∷ blanks ∷ more_in kind n ∷ ss) (x ∷ v)
first_item zero n x ss v e p =
    let b = begins 1 x v (items n ∷ ss) in
    let c = range_begins 0x5D 0x5D x ss v in
    (λ s. let f = b.0 s in grind arith, λ s. b.1 (inr (inr (inl s))))
first_item (suc k) n x ss v e p = absurd (omega arith)

first_member : (kind n x : ℕ) (ss : List Symbol) (v : List ℕ) → kind ≡ 1 → ¬ (x ≡ 0x7D)
    → Stands (first_in kind n ∷ ss) (x ∷ v) ↔ Stands (member n ∷ blanks ∷ more_in kind n ∷ ss) (x ∷ v)
first_member zero n x ss v e p = absurd (omega arith)
first_member (suc k) n x ss v e p =
    let b = begins 1 x v (members n ∷ ss) in
    let c = range_begins 0x7D 0x7D x ss v in
    (λ s. let f = b.0 s in grind arith, λ s. b.1 (inr (inr (inl s))))

first_is_value : (d k x : ℕ) (ss : List Symbol) (v : List ℕ) → 1 ≤ d → k % 2 ≡ 0 → ¬ (x ≡ 0x5D)
    → Stands (due_left First d k ss) (x ∷ v) ↔ Stands (due_left Value d k ss) (x ∷ v)
first_is_value d k x ss v l e p =
    subst (λ rest. Stands (due_left First d k ss) (x ∷ v) ↔ Stands (value (128 - d) ∷ rest) (x ∷ v))
    (sym (frames_open d k ss l))
    (first_item (k % 2) (128 - d) x (frames (d - 1) (k / 2) ss) v e p)

first_is_key : (d k x : ℕ) (ss : List Symbol) (v : List ℕ) → 1 ≤ d → k % 2 ≡ 1 → ¬ (x ≡ 0x7D)
    → Stands (due_left First d k ss) (x ∷ v) ↔ Stands (due_left Key d k ss) (x ∷ v)
first_is_key d k x ss v l e p =
    subst (λ rest. Stands (due_left First d k ss) (x ∷ v) ↔ Stands (member (128 - d) ∷ rest) (x ∷ v))
    (sym (frames_open d k ss l))
    (first_member (k % 2) (128 - d) x (frames (d - 1) (k / 2) ss) v e p)

-- white space
first_not_blank : (kind n x : ℕ) (ss : List Symbol) (v : List ℕ) → IsBlank x → ¬ Stands (first_in kind n ∷ ss) (x ∷ v)
first_not_blank zero n x ss v h d =
    let f = (begins 1 x v (items n ∷ ss)).0 d in
    let c = range_begins 0x5D 0x5D x ss v in
    let e = value_begins n x (blanks ∷ more_items n ∷ ss) v (λ q. omega arith) (λ q. omega arith) in
    grind arith
first_not_blank (suc k) n x ss v h d = let f = (begins 3 x v (members n ∷ ss)).0 d in grind arith

more_not_blank : (kind n x : ℕ) (ss : List Symbol) (v : List ℕ) → IsBlank x → ¬ Stands (more_in kind n ∷ ss) (x ∷ v)
more_not_blank zero n x ss v h d = let f = (begins 2 x v (more_items n ∷ ss)).0 d in grind arith
more_not_blank (suc k) n x ss v h d = let f = (begins 2 x v (more_members n ∷ ss)).0 d in grind arith

pub due_not_blank : (due : Due) (d k x : ℕ) (ss : List Symbol) (v : List ℕ) → IsBlank x
    → ¬ Stands (due_left due d k ss) (x ∷ v)
due_not_blank First d k x ss v h s = first_not_blank (k % 2) (128 - d) x (frames (d - 1) (k / 2) ss) v h s
due_not_blank Value d k x ss v h s =
    let f = (value_begins (128 - d) x (frames d k ss) v (λ q. omega arith) (λ q. omega arith)).0 s in grind arith
due_not_blank Key d k x ss v h s = let f = (begins 2 x v (due_left Key d k ss)).0 s in grind arith
due_not_blank Colon d k x ss v h s = let f = (begins 1 x v (due_left Colon d k ss)).0 s in grind arith
due_not_blank After d k x ss v h s = more_not_blank (k % 2) (128 - d) x (frames (d - 1) (k / 2) ss) v h s

pub blank_read : (x : ℕ) (ss : List Symbol) (v : List ℕ) → IsBlank x → ¬ Stands ss (x ∷ v)
    → Stands (blanks ∷ ss) (x ∷ v) ↔ Stands (blanks ∷ ss) v
blank_read x ss v h p =
    let b = begins 1 x v (blanks ∷ ss) in
    let b2 = begins 2 x v (byte x ∷ blanks ∷ ss) in
    let c = λ (y : ℕ). range_begins y y x (blanks ∷ ss) v in
    (λ d. let f = b.0 d in grind (arith, range_begins), λ d. b.1 (grind (arith, range_begins)))

pub blank_skip : (x : ℕ) (ss : List Symbol) (v : List ℕ) → ¬ IsBlank x → Stands (blanks ∷ ss) (x ∷ v)
    ↔ Stands ss (x ∷ v)
blank_skip x ss v h =
    let b = begins 1 x v (blanks ∷ ss) in
    (λ d. let f = b.0 d in grind (arith, range_begins), λ d. b.1 (inr (inl d)))

-- what is read the same
pub reads_same : (before other : List Symbol → List Symbol) (x : ℕ) (r : Reader) (ok : Bool)
    → ((ss : List Symbol) (v : List ℕ) → Stands (before ss) (x ∷ v) ↔ Stands (other ss) (x ∷ v)) → Reads other x r ok
    → Reads before x r ok
reads_same before other x r true same h =
    (h.0, h.1, λ ss v. (λ d. (h.2 ss v).0 ((same ss v).0 d), λ d. (same ss v).1 ((h.2 ss v).1 d)))
reads_same before other x r false same h = λ ss v d. h ss v ((same ss v).0 d)

-- numbers end there
pub colon_ends : (ss : List Symbol) → EndsNumber (blanks ∷ byte 0x3A ∷ ss)
colon_ends ss x v h d =
    let f = (blank_skip x (byte 0x3A ∷ ss) v (λ b. grind arith)).0 d in
    let e = (range_begins 0x3A 0x3A x ss v).0 f in
    grind arith

pub more_end : (kind n x : ℕ) (ss : List Symbol) (v : List ℕ) → MayGoOn x → ¬ Stands (more_in kind n ∷ ss) (x ∷ v)
more_end zero n x ss v h d = let f = (begins 2 x v (more_items n ∷ ss)).0 d in grind arith
more_end (suc k) n x ss v h d = let f = (begins 2 x v (more_members n ∷ ss)).0 d in grind arith

pub after_ends : (d k : ℕ) (ss : List Symbol) → EndsNumber (blanks ∷ due_left After d k ss)
after_ends d k ss x v h s =
    more_end (k % 2) (128 - d) x (frames (d - 1) (k / 2) ss) v h
    ((blank_skip x (due_left After d k ss) v (λ b. grind arith)).0 s)

-- what is left, where brackets are open
pub between_left : (due : Due) (d k : ℕ) (ss : List Symbol) → 1 ≤ d
    → next_left (Between due) d k ss ≡ blanks ∷ due_left due d k ss
between_left After d k ss l = frames_open d k ss l
between_left _ d k ss l = refl

pub reads_closed : (before : List Symbol → List Symbol) (x : ℕ) (old new : Reader) → IsNested old → IsClosedTo old new
    → ((ss : List Symbol) (v : List ℕ) → Stands (before ss) (x ∷ v)
    ↔ Stands (frames (old.depth - 1) (old.kinds / 2) ss) v) → Reads before x new true
reads_closed before x old new nested closed h =
    let same = λ (ss : List Symbol).
    let F : Next → ℕ → ℕ → List Symbol = λ n d k. next_left n d k ss in
    let P : List Symbol → Type 0 = λ rest. (v : List ℕ) → Stands (before ss) (x ∷ v) ↔ Stands rest v in
    let e : F new.next new.depth new.kinds ≡ F Closed (old.depth - 1) (old.kinds / 2) = cc in
    subst P (sym e) (h ss) in
    ((omega arith, closed.3), λ e. closed.0, same)

-- one more bracket
pub bits_fit : (d k b : ℕ) → d < 128 → k < 2 ^ d → b ≤ 1 → (2 * k + b < 2 ^ (d + 1)) × (2 ^ (d + 1) ≤ 2 ^ 128)
bits_fit d k b l f g =
    let p = pow_more 2 d in
    let q = pow-le-pow_right {n = 2} (omega arith) {i = d + 1} {j = 128} (omega arith) in
    (omega arith, q)

brackets : (b : ℕ) → (beginning b ≡ 0x5B) ⊎ (beginning b ≡ 0x7B)
brackets zero = inl refl
brackets (suc b) = inr refl

pub enters_no_more : (d k b : ℕ) (ss : List Symbol) (v : List ℕ) → d ≡ 128
    → ¬ Stands (due_left Value d k ss) (beginning b ∷ v)
enters_no_more d k b ss v e s =
    let same : 128 - d ≡ 0 = omega arith in
    let given = subst (λ n. Stands (value n ∷ frames d k ss) (beginning b ∷ v)) same s in
    none_nested (beginning b) (frames d k ss) v (brackets b) given

begins_first : (b n : ℕ) (ss : List Symbol) (v : List ℕ) → Stands (value (suc n) ∷ ss) (beginning b ∷ v)
    ↔ Stands (blanks ∷ first_in b n ∷ ss) v
begins_first zero n ss v = array_begins n ss v
begins_first (suc b) n ss v = object_begins n ss v

pub enters_more : (d k b : ℕ) (ss : List Symbol) (v : List ℕ) → d < 128 → b ≤ 1
    → Stands (due_left Value d k ss) (beginning b ∷ v) ↔ Stands (blanks ∷ due_left First (d + 1) (2 * k + b) ss) v
enters_more d k b ss v l g =
    let less : suc (128 - (d + 1)) ≡ 128 - d = omega arith in
    let kind : b ≡ (2 * k + b) % 2 = omega arith in
    let rest : k ≡ (2 * k + b) / 2 = omega arith in
    let outer : d ≡ d + 1 - 1 = omega arith in
    let base = begins_first b (128 - (d + 1)) (frames d k ss) v in
    let first =
    subst (λ n. Stands (value n ∷ frames d k ss) (beginning b ∷ v)
    ↔ Stands (blanks ∷ first_in b (128 - (d + 1)) ∷ frames d k ss) v) less base in
    let second =
    subst (λ c. Stands (value (128 - d) ∷ frames d k ss) (beginning b ∷ v)
    ↔ Stands (blanks ∷ first_in c (128 - (d + 1)) ∷ frames d k ss) v) kind first in
    let third =
    subst (λ j. Stands (value (128 - d) ∷ frames d k ss) (beginning b ∷ v)
    ↔ Stands (blanks ∷ first_in ((2 * k + b) % 2) (128 - (d + 1)) ∷ frames d j ss) v) rest second in
    subst (λ i. Stands (value (128 - d) ∷ frames d k ss) (beginning b ∷ v)
    ↔ Stands (blanks ∷ first_in ((2 * k + b) % 2) (128 - (d + 1)) ∷ frames i ((2 * k + b) / 2) ss) v) outer third

-- the first bracket of a text
begins_text : (b : ℕ) (ss : List Symbol) (v : List ℕ) → Stands (text ∷ ss) (beginning b ∷ v)
    ↔ Stands (blanks ∷ first_in b 127 ∷ ss) v
begins_text zero ss v =
    let b = begins 2 0x5B v (text ∷ ss) in (λ d. let e = b.0 d in grind arith, λ d. b.1 (grind arith))
begins_text (suc k) ss v =
    let b = begins 2 0x7B v (text ∷ ss) in (λ d. let e = b.0 d in grind arith, λ d. b.1 (grind arith))

pub begun : (b : ℕ) (ss : List Symbol) (v : List ℕ) → b ≤ 1 → Stands (text ∷ ss) (beginning b ∷ v)
    ↔ Stands (blanks ∷ due_left First 1 b ss) v
begun b ss v g =
    let kind : b ≡ b % 2 = omega arith in
    let outer : 0 ≡ b / 2 = omega arith in
    let P : ℕ → List Symbol → Type 0 =
    λ c rest. Stands (text ∷ ss) (beginning b ∷ v) ↔ Stands (blanks ∷ first_in c 127 ∷ rest) v in
    subst (λ c. P c (frames 0 (b / 2) ss)) kind
    (subst (λ k. P b (frames 0 k ss)) outer (subst (P b) (sym (frames_none 0 ss)) (begins_text b ss v)))

-- the rules of `read_after`, whatever the byte
pub after_closes : (d k x : ℕ) (ss : List Symbol) (v : List ℕ) → x ≡ closing (k % 2)
    → Stands (due_left After d k ss) (x ∷ v) ↔ Stands (frames (d - 1) (k / 2) ss) v
after_closes d k x ss v e = more_closes (k % 2) (128 - d) x (frames (d - 1) (k / 2) ss) v e

pub first_closed : (d k x : ℕ) (ss : List Symbol) (v : List ℕ) → x ≡ closing (k % 2)
    → Stands (due_left First d k ss) (x ∷ v) ↔ Stands (frames (d - 1) (k / 2) ss) v
first_closed d k x ss v e = first_closes (k % 2) (128 - d) x (frames (d - 1) (k / 2) ss) v e

pub comma_item : (d k x : ℕ) (ss : List Symbol) (v : List ℕ) → x ≡ 0x2C → 1 ≤ d → ¬ (k % 2 ≡ 1)
    → Stands (due_left After d k ss) (x ∷ v) ↔ Stands (blanks ∷ due_left Value d k ss) v
comma_item d k x ss v e l p =
    subst (λ y. Stands (due_left After d k ss) (y ∷ v) ↔ Stands (blanks ∷ due_left Value d k ss) v) (sym e)
    (item_read d k ss v l (omega arith))

pub comma_member : (d k x : ℕ) (ss : List Symbol) (v : List ℕ) → x ≡ 0x2C → 1 ≤ d → k % 2 ≡ 1
    → Stands (due_left After d k ss) (x ∷ v) ↔ Stands (blanks ∷ due_left Key d k ss) v
comma_member d k x ss v e l p =
    subst (λ y. Stands (due_left After d k ss) (y ∷ v) ↔ Stands (blanks ∷ due_left Key d k ss) v) (sym e)
    (member_read d k ss v l p)

closing_array : (kind : ℕ) → kind ≡ 0 → closing kind ≡ 0x5D
closing_array zero e = refl
closing_array (suc k) e = absurd (omega arith)

closing_object : (kind : ℕ) → kind ≡ 1 → closing kind ≡ 0x7D
closing_object zero e = absurd (omega arith)
closing_object (suc k) e = refl

pub begun_value : (d k x : ℕ) (ss : List Symbol) (v : List ℕ) → 1 ≤ d → ¬ (x ≡ closing (k % 2)) → ¬ (k % 2 ≡ 1)
    → Stands (due_left First d k ss) (x ∷ v) ↔ Stands (due_left Value d k ss) (x ∷ v)
begun_value d k x ss v l p q =
    let z : k % 2 ≡ 0 = omega arith in first_is_value d k x ss v l z (λ e. p (e ∙ sym (closing_array (k % 2) z)))

pub begun_key : (d k x : ℕ) (ss : List Symbol) (v : List ℕ) → 1 ≤ d → ¬ (x ≡ closing (k % 2)) → k % 2 ≡ 1
    → Stands (due_left First d k ss) (x ∷ v) ↔ Stands (due_left Key d k ss) (x ∷ v)
begun_key d k x ss v l p z = first_is_key d k x ss v l z (λ e. p (e ∙ sym (closing_object (k % 2) z)))

pub reads_between : (due is : Due) (d k x : ℕ) (r : Reader) (ok : Bool) → due ≡ is → ¬ IsBlank x
    → Reads (due_left is d k) x r ok
    → Reads (λ ss. blanks ∷ due_left due d k ss) x r ok
reads_between due is d k x r ok e p h =
    subst (λ (other : Due). Reads (λ ss. blanks ∷ due_left other d k ss) x r ok) (sym e)
    (reads_same (λ ss. blanks ∷ due_left is d k ss) (due_left is d k) x r ok
    (λ ss v. blank_skip x (due_left is d k ss) v p) h)
