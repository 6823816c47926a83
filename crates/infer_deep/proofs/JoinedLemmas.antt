-- Words joined: what is left after them is one, however it is found, and what holds of a buffer after them.
use Rattle.infer_deep.proofs.Common.{◌≡◌, ◌↔◌, ℕ, zero, suc, ◌-◌, ◌<◌, ◌≤◌, ◌⊎◌, inl, inr, List, [], ◌∷◌, ◌++◌, length, get_or, take, drop, refl, sym, subst, ◌∙◌, arith, append_assoc, append_cancel_left, take-append-drop, take-append-le, take_at, take-append-add, cases_lt, All-append, All-take, front_reads, AllByRecursion, concat, repeat, OccursAt, SkipsTo, NoneBegins, BeginsWith, LeadsTo, After, Lasts, ComesWith, AreApart, MayBecome}
use Rattle.infer_deep.proofs.PlaceLemmas.{begins-from_OccursAt}
use Rattle.infer_deep.proofs.OpenLemmas.{IsBytes}

-- a word of the kind P begins another only if they are the same
abbrev pub IsPrefixFree : (List ℕ → Type 0) → Type 0
IsPrefixFree P = (v w x y : List ℕ) → P v → P w → v ++ x ≡ w ++ y → v ≡ w

-- each word of the kind P begins with a byte of the kind Q
abbrev pub WordsBegin : (List ℕ → Type 0) → (ℕ → Type 0) → Type 0
WordsBegin P Q = (word : List ℕ) → P word → (0 < length word) × Q (get_or word 0 0)

-- what has the property S begins with no word of the kind P
abbrev pub Stops : (List ℕ → Type 0) → (List ℕ → Type 0) → Type 0
Stops S P = (b : List ℕ) → S b → NoneBegins P b

module _ (P : List ℕ → Type 0) where
  pub SkipsTo-none : (b : List ℕ) → SkipsTo P b b
  SkipsTo-none b = record { words = []; each = tt; whole = refl }

  -- either there is no word, or the buffer begins with one
  SkipsTo-begin : (b rest : List ℕ) (words : List (List ℕ)) → AllByRecursion P words → b ≡ concat words ++ rest
      → (b ≡ rest) ⊎ ((x : List ℕ) × BeginsWith P b x)
  SkipsTo-begin b rest [] all e = inl e
  SkipsTo-begin b rest (word ∷ words) all e =
      inr (concat words ++ rest, record { word = word; kind = all.0; whole = e ∙ append_assoc word (concat words) rest })

  -- a word that stands at the front is one
  pub word_begins : (b word : List ℕ) → P word → OccursAt b word 0 → BeginsWith P b (take (length b - length word) (drop (length word) b))
  word_begins b word is o = record { word = word; kind = is; whole = begins-from_OccursAt b word o }

  -- one more word in front
  pub SkipsTo-cons : (b c rest : List ℕ) → BeginsWith P b c → SkipsTo P c rest → SkipsTo P b rest
  SkipsTo-cons b c rest h s = record { words = h.word ∷ s.words; each = (h.kind, s.each); whole = grind (arith, append_assoc) }

  -- one more word skipped
  pub leads_past : (b c d : List ℕ) → LeadsTo P b c → BeginsWith P c d → LeadsTo P b d
  leads_past b c d leads h = λ rest s. leads rest (SkipsTo-cons c d rest h s)

  -- one word n times is words to skip
  LeadsTo-repeat : (n : ℕ) (word rest : List ℕ) → P word → LeadsTo P (repeat n word ++ rest) rest
  LeadsTo-repeat zero word rest is more s = s
  LeadsTo-repeat (suc n) word rest is more s =
      SkipsTo-cons _ (repeat n word ++ rest) more
      (record { word = word; kind = is; whole = append_assoc word (repeat n word) rest }) (LeadsTo-repeat n word rest is more s)

  pub leads_past_repeat : (b word : List ℕ) (n : ℕ) → P word
      → OccursAt b (repeat n word) 0 → LeadsTo P b (take (length b - length (repeat n word)) (drop (length (repeat n word)) b))
  leads_past_repeat b word n is o more s = grind (arith, begins-from_OccursAt b, LeadsTo-repeat n word)

  -- words after words
  SkipsTo-join : (words : List (List ℕ)) (b x y : List ℕ) → AllByRecursion P words → b ≡ concat words ++ x → SkipsTo P x y → SkipsTo P b y
  SkipsTo-join [] b x y all e s = subst (λ u. SkipsTo P u y) (sym e) s
  SkipsTo-join (word ∷ words) b x y all e s = grind (arith, SkipsTo-cons b (concat words ++ x) y (record { word = word; kind = all.0; whole = e ∙ append_assoc word (concat words) x }), SkipsTo-join words (concat words ++ x) x y all.1 refl s)

  -- in a buffer that grows
  SkipsTo-append : (b rest more : List ℕ) → SkipsTo P b rest → SkipsTo P (b ++ more) (rest ++ more)
  SkipsTo-append b rest more s = record { words = s.words; each = s.each; whole = grind (arith, append_assoc) }

  -- the way to a rest at which the words end leads over each other rest
  through : IsPrefixFree P → (vs ws : List (List ℕ)) (x y : List ℕ) → AllByRecursion P vs → AllByRecursion P ws
      → NoneBegins P y → concat vs ++ x ≡ concat ws ++ y → SkipsTo P x y
  through free [] ws x y a b n e = record { words = ws; each = b; whole = e }
  through free (v ∷ vs) [] x y a b n e = absurd (n v _ a.0 (sym e ∙ append_assoc v (concat vs) x))
  through free (v ∷ vs) (w ∷ ws) x y a b n e =
      let joined : v ++ (concat vs ++ x) ≡ w ++ (concat ws ++ y) = grind (arith, append_assoc) in
      let same = free v w _ _ a.0 b.0 joined in
      through free vs ws x y a.1 b.1 n (append_cancel_left v _ _ (cc))

  -- a word that a buffer begins once it grows, and not before, is one that it can become
  word_reached : (b more rest : List ℕ) → NoneBegins P b → IsBytes more → BeginsWith P (b ++ more) rest → MayBecome P b
  word_reached b more rest none bytes w =
      let n = length w.word in
      elim (cases_lt n (length b)) [
        | inl l ↦ absurd (none w.word (drop n b) w.kind (grind (arith, take-append-le n b more, take_at w.word rest n, take-append-drop n b)))
        | inr l ↦
            let split : w.word ≡ b ++ take (n - length b) more = grind (arith, take_at w.word rest n, take-append-add b more (n - length b)) in
            (take (n - length b) more, All-take (λ x. x < 256) (n - length b) more bytes, subst P split w.kind)
      ]

module _ (P : List ℕ → Type 0) (Q : ℕ → Type 0) (begin : WordsBegin P Q) where
  pub begun-first : (b rest : List ℕ) → BeginsWith P b rest → Q (get_or b 0 0)
  begun-first b rest h = grind (arith, front_reads)

  pub NoneBegins-first : (b : List ℕ) → (¬ Q (get_or b 0 0)) → NoneBegins P b
  NoneBegins-first b not word rest is e = not (begun-first b rest (record { word = word; kind = is; whole = e }))

-- words of the kind P, and then what has the property S
module _ (P S : List ℕ → Type 0) where
  -- the first byte is one of the kind Q, or what S wants
  pub After-lead : (Q R : ℕ → Type 0) → WordsBegin P Q → ((rest : List ℕ) → S rest → R (get_or rest 0 0))
      → (b : List ℕ) → After P S b → Q (get_or b 0 0) ⊎ R (get_or b 0 0)
  After-lead Q R begin first b (rest, s, h) =
      elim (SkipsTo-begin P b rest s.words s.each s.whole) [
        | inl e ↦ inr (subst (λ u. R (get_or u 0 0)) (sym e) (first rest h))
        | inr (x, w) ↦ inl (begun-first P Q begin b x w)
      ]

  pub After-lasts : Lasts S → Lasts (After P S)
  After-lasts lasts b more (rest, s, h) = (rest ++ more, SkipsTo-append P b rest more s, lasts rest more h)

  -- what more bytes bring, a word in front brings or what brings S
  pub After-comes : (U : List ℕ → Type 0) → ((b more rest : List ℕ) → 1024 ≤ length b → BeginsWith P (b ++ more) rest → U b)
      → ComesWith S U → ComesWith (After P S) U
  After-comes U begun comes b more long (rest, s, h) =
      elim (SkipsTo-begin P (b ++ more) rest s.words s.each s.whole) [
        | inl e ↦ elim (comes b more long (subst S (sym e) h)) [ inl k ↦ inl (b, SkipsTo-none P b, k) | inr u ↦ inr u ]
        | inr (x, w) ↦ inr (begun b more x long w)
      ]

  -- what is left after the words has the property exactly if the buffer is so
  module _ (free : IsPrefixFree P) (stops : Stops S P) where
    pub After-left : (b left : List ℕ) → SkipsTo P b left → NoneBegins P left → S left ↔ After P S b
    After-left b left skips none = (
      λ h. (left, skips, h),
      λ (rest, s, h).
          let u = through P free s.words skips.words rest left s.each skips.each none (sym s.whole ∙ skips.whole) in
          elim (SkipsTo-begin P rest left u.words u.each u.whole) [ inl e ↦ subst S e h | inr (r, w) ↦ absurd (stops rest h w.word r w.kind w.whole) ],
    )

    pub After-trimmed : (b left : List ℕ) → SkipsTo P b left → NoneBegins P left → After P S left ↔ After P S b
    After-trimmed b left skips none = grind (arith, After-left left left (SkipsTo-none P left) none, SkipsTo-none P left, After-left b left skips none)

    -- what excludes S after the words excludes such a buffer
    pub After-apart : (R : List ℕ → Type 0) → Stops R P → AreApart R S → AreApart (After P R) (After P S)
    After-apart R stops_r apart b (rest, s, h) t = apart rest h ((After-left b rest s (stops_r rest h)).1 t)

    -- what is left can become S or another word just if the buffer can become so, provided that something is S
    pub After-open : MayBecome S [] → (b left : List ℕ) → SkipsTo P b left → NoneBegins P left
        → (MayBecome S left ⊎ MayBecome P left) ↔ MayBecome (After P S) b
    After-open (some, some_bytes, is_some) b left skips none = (
      λ reach. elim reach [
        | inl (more, bytes, h) ↦ (more, bytes, (left ++ more, SkipsTo-append P b left more skips, h))
        | inr (more, bytes, word) ↦
            let one = SkipsTo-cons P (left ++ (more ++ some)) some some
            (record { word = left ++ more; kind = word; whole = sym (append_assoc left more some) }) (SkipsTo-none P some) in
            let grown = SkipsTo-append P b left (more ++ some) skips in
            let all = SkipsTo-join P grown.words _ _ some grown.each grown.whole one in
            (more ++ some, All-append (λ x. x < 256) more some bytes some_bytes, (some, all, is_some))
      ],
      λ (more, bytes, (rest, s, h)).
          let u = through P free skips.words s.words (left ++ more) rest skips.each s.each (stops rest h) (grind (arith, append_assoc)) in
          elim (SkipsTo-begin P (left ++ more) rest u.words u.each u.whole) [
            | inl e ↦ inl (more, bytes, subst S (sym e) h)
            | inr (x, w) ↦ inr (word_reached P left more x none bytes w)
          ],
    )
