-- White space, marks and tags: what a buffer begins with, and what is markup after them.
use Rattle.infer_deep.proofs.Common.{◌≡◌, ◌↔◌, ℕ, suc, ◌-◌, ◌<◌, ◌≤◌, ◌⊎◌, Bool, true, false, List, [], ◌∷◌, ◌++◌, length, get_or, take, drop, refl, sym, ap, subst, ◌∙◌, inl, inr, arith, eqb, length-append, min, IsTrue, take-append-drop, take_at, get_or_append_left, get_or-take, get_or_at, take-append-le, drop_more, length-map, length-take-le, append_assoc, append-nil, map-append, take-map, take_all, All-drop, cases_lt, AllPass-from_list_all, eq-eqb, nat_tests, Any, codes, filter, OccursAt, AllBelow, are_bytes, AgreesAt, Lasts, AreApart, ComesWith, IsEarly, MayBecome, After, SkipsTo, LeadsTo, NoneBegins, BeginsWith, IsWhite, IsSpace, IsMark, IsSameInAnyCase, BeginsInAnyCase, BeginsMarked, BeginsWhite, BeginsWithTag, IsHtml, IsXml, tags, tags_with}
use Rattle.infer_deep.proofs.Common.{front_from_reads}
use Rattle.std.proofs.Math.ListN.{get_or-map}
use Rattle.std.specs.Char.{to_ascii_lowercase}
use Rattle.infer_deep.proofs.OpenLemmas.{MayBecome-grown, MayBecome-here, bytes_from_test, grown_agrees, stands_where_whole}
use Rattle.infer_deep.proofs.JoinedLemmas.{IsPrefixFree, Stops, WordsBegin, begun-first, word_begins, SkipsTo-none, SkipsTo-cons, NoneBegins-first, After-lead, After-lasts, After-comes, After-left, After-trimmed, After-apart, After-open}
use Rattle.infer_deep.proofs.PlaceLemmas.{byte_stands, begins-from_OccursAt, OccursAt-begins, OccursAt-front}

-- a mark, or white space, that stands at the front
pub long_mark : (b : List ℕ) → OccursAt b (0xEF ∷ 0xBB ∷ 0xBF ∷ []) 0 → BeginsWith IsMark b (take (length b - 3) (drop 3 b))
long_mark b o = word_begins IsMark b _ (inl refl) o

pub short_mark : (b : List ℕ) → OccursAt b (0xFE ∷ 0xFF ∷ []) 0 ⊎ OccursAt b (0xFF ∷ 0xFE ∷ []) 0 → BeginsWith IsMark b (take (length b - 2) (drop 2 b))
short_mark b (inl o) = word_begins IsMark b _ (inr (inl refl)) o
short_mark b (inr o) = word_begins IsMark b _ (inr (inr refl)) o

pub space_begins : (b : List ℕ)
    → 0 < length b → IsWhite (get_or b 0 0) → BeginsWith IsSpace b (take (length b - 1) (drop 1 b))
space_begins b l white = word_begins IsSpace b (get_or b 0 0 ∷ []) (get_or b 0 0, white, refl) (byte_stands b (get_or b 0 0) 0 l refl)

-- white bytes in front are words to skip
LeadsTo-white : (block b : List ℕ) → AllBelow IsWhite block (length block) → LeadsTo IsSpace (block ++ b) b
LeadsTo-white [] b all rest s = s
LeadsTo-white (x ∷ block) b all rest s =
    SkipsTo-cons IsSpace (x ∷ (block ++ b)) (block ++ b) rest (record { word = x ∷ []; kind = (x, all 0 (omega arith), refl); whole = refl })
    (LeadsTo-white block b (λ k l. all (suc k) (omega arith)) rest s)

pub leads_past_block : (b c block rest : List ℕ) (n : ℕ)
    → LeadsTo IsSpace b c → n ≤ length c → block ≡ take n c → rest ≡ drop n c → AllBelow IsWhite block n → LeadsTo IsSpace b rest
leads_past_block b c block rest n leads l p q all more s = grind (arith, nat_tests, length-take-le n c l, take-append-drop n c, LeadsTo-white block rest)

IsSpace-prefix_free : IsPrefixFree IsSpace
IsSpace-prefix_free v w x y (a, f, p) (b, g, q) e = cc

IsSpace-begin : WordsBegin IsSpace IsWhite
IsSpace-begin word (x, white, e) = subst (λ (u : List ℕ). (0 < length u) × IsWhite (get_or u 0 0)) (sym e) (omega arith, white)

-- the first byte of a mark
abbrev IsMarkByte : ℕ → Type 0
IsMarkByte x = (x ≡ 0xEF) ⊎ (x ≡ 0xFE) ⊎ (x ≡ 0xFF)

IsMark-begin : WordsBegin IsMark IsMarkByte
IsMark-begin word is = grind arith

IsMark-prefix_free : IsPrefixFree IsMark
IsMark-prefix_free v w x y f g e = grind arith

-- texts that are the same in any case
same_length : (word text : List ℕ) → IsSameInAnyCase word text → length word ≡ length text
same_length word text h = sym (length-map word to_ascii_lowercase) ∙ ap length h ∙ length-map text to_ascii_lowercase

-- what begins with a text in any case
pub begins_in_any_case : (b text : List ℕ) → IsSameInAnyCase (take (length text) b) text → BeginsInAnyCase text b
begins_in_any_case b text h = record { word = take (length text) b; rest = drop (length text) b; same = h; whole = sym (take-append-drop (length text) b) }

pub front_in_any_case : (b text : List ℕ) → BeginsInAnyCase text b → IsSameInAnyCase (take (length text) b) text
front_in_any_case b text h = grind (arith, nat_tests, take_at, same_length)

BeginsInAnyCase-byte : (b text : List ℕ) (i : ℕ)
    → i < length text → BeginsInAnyCase text b → to_ascii_lowercase (get_or b i 0) ≡ to_ascii_lowercase (get_or text i 0)
BeginsInAnyCase-byte b text i l h = grind (arith, nat_tests, get_or-take (length text) b i 0 l, get_or-map to_ascii_lowercase (take (length text) b) i 0, front_in_any_case b text h, get_or-map to_ascii_lowercase text i 0)

BeginsInAnyCase-lasts : (text : List ℕ) → Lasts (BeginsInAnyCase text)
BeginsInAnyCase-lasts text b more h = record { word = h.word; rest = h.rest ++ more; same = h.same; whole = grind (arith, append_assoc) }

BeginsInAnyCase-front : (b more text : List ℕ) → length text ≤ length b → BeginsInAnyCase text (b ++ more) → BeginsInAnyCase text b
BeginsInAnyCase-front b more text l h = grind (arith, nat_tests, begins_in_any_case, take-append-le, front_in_any_case)

-- a byte that is "<" in lower case is "<"
BeginsInAnyCase-open : (b text : List ℕ) → 0 < length text → get_or text 0 0 ≡ 0x3C → BeginsInAnyCase text b → get_or b 0 0 ≡ 0x3C
BeginsInAnyCase-open b text l first h = grind (arith, nat_tests, BeginsInAnyCase-byte b text 0 l h)

-- a tag, from its text and the byte after it
pub tag_from_text : (b tag : List ℕ) → length tag < length b
    → (get_or b (length tag) 0 ≡ 0x20) ⊎ (get_or b (length tag) 0 ≡ 0x3E) → BeginsInAnyCase tag b → BeginsWithTag tag b
tag_from_text b tag l closes h =
    grind (arith, nat_tests, front_in_any_case b tag h, take-append-drop (length tag) b, drop_more b (length tag) 0 l)

pub text_of_tag : (b tag : List ℕ) → BeginsWithTag tag b → BeginsInAnyCase tag b
text_of_tag b tag h = record { word = h.word; rest = h.end ∷ h.rest; same = h.same; whole = h.whole }

tag_of_word : (word tag : List ℕ) → IsSameInAnyCase word tag → BeginsWithTag tag (word ++ 0x3E ∷ [])
tag_of_word word tag h = record { word = word; end = 0x3E; rest = []; same = h; closes = inr refl; whole = refl }

-- the text of HTML begins with one of the tags, and that of XML so
abbrev pub HasTag : List ℕ → Type 0
HasTag b = Any (λ tag. BeginsWithTag tag b) tags

abbrev pub HasXml : List ℕ → Type 0
HasXml b = BeginsInAnyCase (codes "<?xml") b

-- each tag is short, and begins with "<" and then with no "?"
tag_opens : (k : ℕ) (tag : List ℕ) → k < length tags → get_or tags k tag ≡ tag
    → (length tag < 1000) × (1 < length tag) × (get_or tag 0 0 ≡ 0x3C) × (to_ascii_lowercase (get_or tag 1 0) ≡ 0x3F → ⊥)
tag_opens k tag l e = grind (arith, nat_tests, AllPass-from_list_all)

pub HasTag-open : (b : List ℕ) → HasTag b → get_or b 0 0 ≡ 0x3C
HasTag-open b (k, tag, l, e, h) = grind (arith, nat_tests, tag_opens k tag l e, BeginsInAnyCase-open b tag, text_of_tag b tag h)

-- some element of a list is the first or one of the rest
module _ {X : Type 0} (P : X → Type 0) (x : X) (xs : List X) where
  Any-cons : P x ⊎ Any P xs → Any P (x ∷ xs)
  Any-cons (inl p) = (0, x, omega arith, refl, p)
  Any-cons (inr (k, y, l, e, p)) = (suc k, y, omega (arith, l), e, p)

  cons-Any : Any P (x ∷ xs) → P x ⊎ Any P xs
  cons-Any h0 = grind (arith, nat_tests)

-- and if it passes a test, one of those that pass
module _ {X : Type 0} (P : X → Type 0) (test : X → Bool) where
  Any-from_filter : (xs : List X) → Any P (filter test xs) → Any P xs
  Any-from_filter [] h = h
  Any-from_filter (x ∷ xs) h = grind (arith, nat_tests, Any-from_filter xs, Any-cons P x xs, cons-Any P x (filter test xs))

  Any-filter : ((x : X) → P x → test x ≡ true) → (xs : List X) → Any P xs → Any P (filter test xs)
  Any-filter passes [] h = h
  Any-filter passes (x ∷ xs) h = kept (test x) refl (Any-filter passes xs)
    where
      kept : (r : Bool) → test x ≡ r → (Any P xs → Any P (filter test xs)) → Any P (filter test (x ∷ xs))
      kept true e rest = rw e (Any-cons P x (filter test xs) (elim (cons-Any P x xs h) [ inl p ↦ inl p | inr q ↦ inr (rest q) ]))
      kept false e rest = rw e (elim (cons-Any P x xs h) [ inl p ↦ absurd (let t = passes x p in cc) | inr q ↦ rest q ])

-- one of the tags has a property that tells its second byte just if one of those with that byte has it
module _ (P : List ℕ → Type 0) (c : ℕ) (second : (tag : List ℕ) → P tag → 1 < length tag → to_ascii_lowercase (get_or tag 1 0) ≡ c) where
  abbrev has_second : List ℕ → Bool
  has_second tag = eqb (to_ascii_lowercase (get_or tag 1 0)) c

  Any-second : Any P (tags_with c) ↔ Any P tags
  unfolding tags_with
  Any-second = (
    λ h. Any-from_filter P has_second tags h,
    λ (k, tag, l, e, h).
        let (j, found, m, same, p) = Any-filter (λ tag. P tag × (1 < length tag)) has_second (λ tag p. eq-eqb _ _ (second tag p.0 p.1)) tags
        (k, tag, l, e, (h, (tag_opens k tag l e).1)) in
        (j, found, m, same, p.0),
  )

pub HasTag-second : (b : List ℕ) → Any (λ tag. BeginsWithTag tag b) (tags_with (to_ascii_lowercase (get_or b 1 0))) ↔ HasTag b
HasTag-second b =
    Any-second (λ tag. BeginsWithTag tag b) (to_ascii_lowercase (get_or b 1 0))
    (λ tag h long. sym (BeginsInAnyCase-byte b tag 1 long (text_of_tag b tag h)))

pub HasTag-long : (b : List ℕ) → HasTag b → 1 < length b
HasTag-long b (k, tag, l, e, h) = grind (arith, nat_tests, tag_opens k tag l e, same_length h.word tag h.same, length-append h.word (h.end ∷ h.rest))

HasXml-open : (b : List ℕ) → HasXml b → get_or b 0 0 ≡ 0x3C
HasXml-open b h = BeginsInAnyCase-open b (codes "<?xml") (omega arith) refl h

-- a buffer begins in no two ways
HasTag-apart_xml : AreApart HasTag HasXml
HasTag-apart_xml b (k, tag, l, e, h) x = grind (arith, nat_tests, tag_opens k tag l e, BeginsInAnyCase-byte b tag 1, text_of_tag b tag h, BeginsInAnyCase-byte b (codes "<?xml") 1)

-- in a buffer that grows, and in its front
HasTag-lasts : Lasts HasTag
HasTag-lasts b more (k, tag, l, e, h) =
    (k, tag, l, e, record { word = h.word; end = h.end; rest = h.rest ++ more; same = h.same; closes = h.closes; whole = grind (arith, append_assoc) })

pub tag_end : (b more tag : List ℕ) → BeginsWithTag tag (b ++ more) → length tag < length b
    → (get_or b (length tag) 0 ≡ 0x20) ⊎ (get_or b (length tag) 0 ≡ 0x3E)
tag_end b more tag h l = grind (arith, nat_tests, get_or_append_left, get_or_at, same_length)

HasTag-early : IsEarly HasTag
HasTag-early b more long (k, tag, l, e, h) =
    let front = BeginsInAnyCase-front b more tag in
    (k, tag, l, e, grind (arith, tag_opens k tag l e, front, text_of_tag (b ++ more) tag h, tag_from_text b tag, tag_end b more tag h))

-- what begins with "<" begins with no space and no mark, nor do marks begin with a space
HasTag-stops : Stops HasTag IsSpace
HasTag-stops b h = let first = HasTag-open b h in NoneBegins-first IsSpace IsWhite IsSpace-begin b (λ white. omega arith)

NoneBegins-mark : (b : List ℕ) → get_or b 0 0 ≡ 0x3C → NoneBegins IsMark b
NoneBegins-mark b first = NoneBegins-first IsMark IsMarkByte IsMark-begin b (λ mark. omega arith)

-- XML is marks and the text after white space
abbrev IsMarkedXml : List ℕ → Type 0
IsMarkedXml = After IsMark HasXml

IsMarkedXml-lead : (b : List ℕ) → IsMarkedXml b → IsMarkByte (get_or b 0 0) ⊎ (get_or b 0 0 ≡ 0x3C)
IsMarkedXml-lead = After-lead IsMark HasXml IsMarkByte (λ x. x ≡ 0x3C) IsMark-begin HasXml-open

IsMarkedXml-stops : Stops IsMarkedXml IsSpace
IsMarkedXml-stops b h = grind (arith, nat_tests, IsMarkedXml-lead b h, NoneBegins-first IsSpace IsWhite IsSpace-begin b, IsSpace-begin b)

IsMarkedXml-left : (b left : List ℕ) → SkipsTo IsMark b left → NoneBegins IsMark left → HasXml left ↔ IsMarkedXml b
IsMarkedXml-left = After-left IsMark HasXml IsMark-prefix_free (λ b h. NoneBegins-mark b (HasXml-open b h))

pub IsHtml-apart_IsXml : AreApart IsHtml IsXml
IsHtml-apart_IsXml = After-apart IsSpace IsMarkedXml IsSpace-prefix_free IsMarkedXml-stops HasTag HasTag-stops
    (λ u tag x. HasTag-apart_xml u tag ((IsMarkedXml-left u u (SkipsTo-none IsMark u) (NoneBegins-mark u (HasTag-open u tag))).1 x))

-- in a buffer that grows
pub IsHtml-lasts : Lasts IsHtml
IsHtml-lasts = After-lasts IsSpace HasTag HasTag-lasts

pub IsXml-lasts : Lasts IsXml
IsXml-lasts = grind (arith, nat_tests, After-lasts IsSpace IsMarkedXml (After-lasts IsMark HasXml (BeginsInAnyCase-lasts _)), After-lasts IsMark HasXml (BeginsInAnyCase-lasts _), BeginsInAnyCase-lasts)

-- the first byte
pub IsHtml-lead : (b : List ℕ) → IsHtml b → IsWhite (get_or b 0 0) ⊎ (get_or b 0 0 ≡ 0x3C)
IsHtml-lead = After-lead IsSpace HasTag IsWhite (λ x. x ≡ 0x3C) IsSpace-begin HasTag-open

pub IsXml-lead : (b : List ℕ) → IsXml b → IsWhite (get_or b 0 0) ⊎ (get_or b 0 0 ≡ 0x3C) ⊎ IsMarkByte (get_or b 0 0)
IsXml-lead = After-lead IsSpace IsMarkedXml IsWhite (λ y. (y ≡ 0x3C) ⊎ IsMarkByte y) IsSpace-begin (λ u h. grind (arith, IsMarkedXml-lead u h))

-- what more bytes bring
pub BeginsWhite-early : IsEarly BeginsWhite
BeginsWhite-early b more long w = subst IsWhite (get_or_append_left b more 0 0 (omega arith)) w

pub BeginsMarked-early : IsEarly BeginsMarked
BeginsMarked-early b more long (mark, is, o) = grind (arith, nat_tests, OccursAt-front b more mark 0)

white_begins : (b more rest : List ℕ) → 1024 ≤ length b → BeginsWith IsSpace (b ++ more) rest → BeginsWhite b
white_begins b more rest long w = BeginsWhite-early b more long (begun-first IsSpace IsWhite IsSpace-begin (b ++ more) rest w)

pub IsHtml-comes : ComesWith IsHtml BeginsWhite
IsHtml-comes = After-comes IsSpace HasTag BeginsWhite white_begins (λ b more long h. inl (HasTag-early b more long h))

pub IsXml-comes : ComesWith IsXml (λ b. BeginsWhite b ⊎ BeginsMarked b)
IsXml-comes = After-comes IsSpace IsMarkedXml (λ u. BeginsWhite u ⊎ BeginsMarked u) (λ u y rest l w. inl (white_begins u y rest l w))
    (After-comes IsMark HasXml (λ u. BeginsWhite u ⊎ BeginsMarked u)
    (λ u y rest l w. inr (BeginsMarked-early u y l (w.word, w.kind, OccursAt-begins (u ++ y) w.word rest w.whole)))
    (λ u y l h. inl (BeginsInAnyCase-front u y _ (omega arith) h)))

-- what more bytes can bring: a text that is the same as far as the buffer goes
same_filled : (b text : List ℕ) (n : ℕ) → length b ≤ length text → n ≡ min (length b) (length text)
    → IsSameInAnyCase (take n b) (take n text) → IsSameInAnyCase (b ++ drop n text) text
same_filled b text n l is h = grind (arith, nat_tests, map-append to_ascii_lowercase b (drop n text), take_all n b, map-append to_ascii_lowercase (take n text) (drop n text), take-append-drop n text)

pub text_reached : (b tag : List ℕ) → MayBecome (BeginsWithTag tag) b → MayBecome (BeginsInAnyCase tag) b
text_reached b tag (more, bytes, h) = (more, bytes, text_of_tag (b ++ more) tag h)

module _ (b text : List ℕ) (n : ℕ) (is : n ≡ min (length b) (length text)) where
  pub known_from_reached : MayBecome (BeginsInAnyCase text) b → IsSameInAnyCase (take n b) (take n text)
  known_from_reached (more, bytes, h) =
      let long = same_length h.word text h.same in
      grind (arith, nat_tests, take-append-le n b more, take-append-le n h.word h.rest, take-map to_ascii_lowercase n)

  whole_from_known : length text < length b → IsSameInAnyCase (take n b) (take n text) → BeginsInAnyCase text b
  whole_from_known l h = grind (arith, nat_tests, begins_in_any_case, take_all)

  tag_filled : IsTrue (are_bytes text) → IsSameInAnyCase (take n b) (take n text)
      → (length text < length b → (get_or b (length text) 0 ≡ 0x20) ⊎ (get_or b (length text) 0 ≡ 0x3E)) → MayBecome (BeginsWithTag text) b
  tag_filled bytes h closes =
      elim (cases_lt (length text) (length b)) [
        | inl l ↦ MayBecome-here (BeginsWithTag text) b (tag_from_text b text l (closes l) (whole_from_known l h))
        | inr l ↦
            MayBecome-grown (BeginsWithTag text) b (drop n text) (All-drop (λ x. x < 256) n text (bytes_from_test text bytes))
            (0x3E ∷ [], bytes_from_test (0x3E ∷ []) refl, tag_of_word (b ++ drop n text) text (same_filled b text n l is h))
      ]

  pub reached_from_known : IsTrue (are_bytes text) → IsSameInAnyCase (take n b) (take n text) → MayBecome (BeginsInAnyCase text) b
  reached_from_known bytes h = grind (arith, nat_tests, MayBecome-here (BeginsInAnyCase text) b, whole_from_known, text_reached b text, tag_filled bytes h)

-- a tag can come where its text can, unless another byte follows it
pub tag_reached : (b tag : List ℕ) → IsTrue (are_bytes tag) → MayBecome (BeginsInAnyCase tag) b
    → (length tag < length b → (get_or b (length tag) 0 ≡ 0x20) ⊎ (get_or b (length tag) 0 ≡ 0x3E)) → MayBecome (BeginsWithTag tag) b
tag_reached b tag bytes h closes =
    let n = min (length b) (length tag) in tag_filled b tag n refl bytes (known_from_reached b tag n refl h) closes

pub has_tag_reached : (b : List ℕ) → Any (λ tag. MayBecome (BeginsWithTag tag) b) tags ↔ MayBecome HasTag b
has_tag_reached b = grind (arith, nat_tests)

pub reached_open : (b : List ℕ) → 0 < length b → MayBecome HasTag b → get_or b 0 0 ≡ 0x3C
reached_open b some (more, bytes, h) = sym (get_or_append_left b more 0 0 some) ∙ HasTag-open (b ++ more) h

pub HasTag-reached_second : (b : List ℕ) → 1 < length b
    → Any (λ tag. MayBecome (BeginsWithTag tag) b) (tags_with (to_ascii_lowercase (get_or b 1 0))) ↔ MayBecome HasTag b
HasTag-reached_second b l =
    let second = Any-second (λ tag. MayBecome (BeginsWithTag tag) b) (to_ascii_lowercase (get_or b 1 0)) (λ tag (more, bytes, h) long.
    grind (arith, BeginsInAnyCase-byte (b ++ more) tag 1 long (text_of_tag (b ++ more) tag h), get_or_append_left b more 0 1 l)) in
    grind (arith, second, has_tag_reached b)

-- no more white space comes but to an empty rest
no_space_comes : (b : List ℕ) → NoneBegins IsSpace b → MayBecome IsSpace b → b ≡ []
no_space_comes [] none h = refl
no_space_comes (y ∷ ys) none (more, bytes, (x, white, e)) = absurd (none (y ∷ []) ys (x, white, (cc)) refl)

-- and what can follow white space can come to it
space_open : (S : List ℕ → Type 0) → Stops S IsSpace → MayBecome S []
    → (b text : List ℕ) → SkipsTo IsSpace b text → NoneBegins IsSpace text → MayBecome S text ↔ MayBecome (After IsSpace S) b
space_open S stops some b text skips none = grind (arith, After-open IsSpace S IsSpace-prefix_free stops some b text skips none, no_space_comes text none)

HasXml-some : MayBecome HasXml []
HasXml-some = reached_from_known [] (codes "<?xml") 0 refl refl refl

-- every tag can come to its first byte
tag_comes : (b : List ℕ) (n : ℕ) → n ≡ min (length b) 2 → length b ≤ 2 → IsSameInAnyCase (take n b) (take n (codes "<P")) → MayBecome HasTag b
tag_comes b n is short same =
    (has_tag_reached b).0 (15, codes "<P", omega arith, refl, tag_filled b (codes "<P") n is refl same (λ l. absurd (omega arith)))

pub HasTag-begun : (b : List ℕ) → length b < 2 → (0 < length b → get_or b 0 0 ≡ 0x3C) → MayBecome HasTag b
HasTag-begun [] l h = tag_comes [] 0 refl (omega arith) refl
HasTag-begun (x ∷ []) l h = subst (λ y. MayBecome HasTag (y ∷ [])) (sym (h (omega arith))) (tag_comes (0x3C ∷ []) 1 refl (omega arith) refl)
HasTag-begun (x ∷ y ∷ b) l h = absurd (omega (arith, l))

IsMarkedXml-open : (text left : List ℕ) → SkipsTo IsMark text left → NoneBegins IsMark left
    → (MayBecome HasXml left ⊎ MayBecome IsMark left) ↔ MayBecome IsMarkedXml text
IsMarkedXml-open = After-open IsMark HasXml IsMark-prefix_free (λ b h. NoneBegins-mark b (HasXml-open b h)) HasXml-some

-- what is left after white space, and after marks
module _ (b text : List ℕ) (skips : SkipsTo IsSpace b text) (none : NoneBegins IsSpace text) where
  pub IsHtml-left : HasTag text ↔ IsHtml b
  IsHtml-left = After-left IsSpace HasTag IsSpace-prefix_free HasTag-stops b text skips none

  pub IsHtml-trimmed : IsHtml text ↔ IsHtml b
  IsHtml-trimmed = After-trimmed IsSpace HasTag IsSpace-prefix_free HasTag-stops b text skips none

  pub IsXml-left : (left : List ℕ) → SkipsTo IsMark text left → NoneBegins IsMark left → HasXml left ↔ IsXml b
  IsXml-left left marks ends =
      grind (arith, IsMarkedXml-left text left marks ends, After-left IsSpace IsMarkedXml IsSpace-prefix_free IsMarkedXml-stops b text skips none)

  pub IsXml-trimmed : IsXml text ↔ IsXml b
  IsXml-trimmed = After-trimmed IsSpace IsMarkedXml IsSpace-prefix_free IsMarkedXml-stops b text skips none

  -- and what it can become
  pub is_html_open : MayBecome HasTag text ↔ MayBecome IsHtml b
  is_html_open = space_open HasTag HasTag-stops (tag_comes [] 0 refl (omega arith) refl) b text skips none

  pub is_xml_open : (left : List ℕ) → SkipsTo IsMark text left → NoneBegins IsMark left
      → (MayBecome HasXml left ⊎ MayBecome IsMark left) ↔ MayBecome IsXml b
  is_xml_open left marks ends =
      let unmarked = IsMarkedXml-open text left marks ends in
      let some = (IsMarkedXml-open [] [] (SkipsTo-none IsMark []) (NoneBegins-first IsMark IsMarkByte IsMark-begin [] (λ mark. omega arith))).0 (inl HasXml-some) in
      let unspaced = space_open IsMarkedXml IsMarkedXml-stops some b text skips none in
      (λ h. unspaced.0 (unmarked.0 h), λ x. unmarked.1 (unspaced.1 x))

-- a mark that the end of the buffer cuts
mark_reached : (b mark : List ℕ) → IsTrue (are_bytes mark) → IsMark mark → NoneBegins IsMark b → AgreesAt b mark 0 → MayBecome IsMark b
mark_reached b mark bytes is none a =
    let begun = λ (o : OccursAt b mark 0). none mark _ is (begins-from_OccursAt b mark o) in
    let cut : length b < length mark = grind (arith, begun, stands_where_whole b mark 0) in
    let same : mark ≡ b ++ drop (length b) mark = front_from_reads 0 mark b (omega arith) (λ i l. grind (arith, a.reads i)) in
    (drop (length b) mark, All-drop (λ x. x < 256) (length b) mark (bytes_from_test mark bytes), subst IsMark same is)

agrees_with_mark : (b mark : List ℕ) → (x : MayBecome (λ c. c ≡ mark) b) → AgreesAt b mark 0
agrees_with_mark b mark (more, bytes, e) = grown_agrees b more mark 0 (OccursAt-begins (b ++ more) mark [] (e ∙ sym (append-nil mark)))

pub reaches_mark : (b : List ℕ) → NoneBegins IsMark b
    → (AgreesAt b (0xEF ∷ 0xBB ∷ 0xBF ∷ []) 0 ⊎ AgreesAt b (0xFE ∷ 0xFF ∷ []) 0 ⊎ AgreesAt b (0xFF ∷ 0xFE ∷ []) 0) ↔ MayBecome IsMark b
reaches_mark b none = grind (arith, nat_tests, mark_reached, agrees_with_mark)
