-- White space and the lines that texts stand on.
use Rattle.infer_formats.proofs.Common.{◌≡◌, ℕ, ◌+◌, ◌-◌, ◌≤◌, ◌<◌, ◌⊎◌, inl, inr, ◌↔◌, Bool, false, IsTrue, nat_eq, List, [], ◌∷◌, ◌++◌, Option, None, Some, length, take, drop, get_or, length-drop, refl, sym, subst, ap, ◌∙◌, arith, drop_more, take_rest, Symbol, blanks, text, same_line, next_line, BeginsLines, BeginsText, CanBe, UpToMark, SaysJson, Stands, IsBracket, SaysJsonPastMark, IsPast, IsPastMark, Leaves, StartsLine, next_left, Json, Lines, Text, Next, IsBlank, IsNextLine, LineSays}
use Rattle.std.proofs.Common.{rules}
use Rattle.infer_formats.specs.declared.json.lines.Line as line
use Rattle.infer_formats.specs.declared.json.lines.Line.TheVariants as Line
use Rattle.infer_formats.proofs.JsonLemmas.{begins, range_begins}
use Rattle.infer_formats.proofs.ReaderLemmas.{blank_read, blank_skip}
use Rattle.infer_formats.proofs.CompleteLemmas.{AllHold, completes, next_holds}

-- what stands the same after s and t
can_same : (ss us : List Symbol) (s t : List ℕ) → ((v : List ℕ) → Stands ss (s ++ v) ↔ Stands us (t ++ v))
    → CanBe ss s ↔ CanBe us t
can_same ss us s t h = (λ (v, d). (v, (h v).0 d), λ (v, d). (v, (h v).1 d))

-- nothing is left
pub empty_read : (s : List ℕ) (r : Bool) → r ≡ nat_eq (length s) 0 → IsTrue r ↔ (s ≡ [])
empty_read [] r e = (λ is. refl, λ f. search rules)
empty_read (x ∷ s) r e = (λ is. absurd (grind arith), λ f. absurd (cc))

pub some_left : (s : List ℕ) (r : Bool) → r ≡ nat_eq (length s) 0 → r ≡ false → 1 ≤ length s
some_left [] r e f = absurd (grind arith)
some_left (x ∷ s) r e f = omega arith

-- by their first byte
pub text_begins : (x : ℕ) (ss : List Symbol) (v : List ℕ) → ¬ IsBracket x → ¬ Stands (text ∷ ss) (x ∷ v)
text_begins x ss v p d = let f = (begins 2 x v (text ∷ ss)).0 d in grind arith

line_goes_on : (x : ℕ) (v : List ℕ) → IsBlank x → ¬ (x ≡ 0x0A) → Stands (same_line ∷ []) (x ∷ v)
    ↔ Stands (same_line ∷ []) v
line_goes_on x v h p =
    let b = begins 2 x v (same_line ∷ []) in (λ d. let f = b.0 d in grind arith, λ d. b.1 (grind arith))

line_ends : (x : ℕ) (v : List ℕ) → x ≡ 0x0A → Stands (same_line ∷ []) (x ∷ v) ↔ Stands (next_line ∷ []) v
line_ends x v e = let b = begins 2 x v (same_line ∷ []) in (λ d. let f = b.0 d in grind arith, λ d. b.1 (grind arith))

line_stops : (x : ℕ) (v : List ℕ) → ¬ IsBlank x → ¬ Stands (same_line ∷ []) (x ∷ v)
line_stops x v h d = let f = (begins 2 x v (same_line ∷ [])).0 d in grind arith

next_blank : (x : ℕ) (v : List ℕ) → IsBlank x → Stands (next_line ∷ []) (x ∷ v) ↔ Stands (next_line ∷ []) v
next_blank x v h =
    let b = begins 2 x v (next_line ∷ []) in
    let none = text_begins x (same_line ∷ []) v (λ o. grind arith) in
    let c = begins 1 x v (text ∷ same_line ∷ []) in
    (λ d. let f = b.0 d in grind arith, λ d. b.1 (grind arith))

next_text : (x : ℕ) (v : List ℕ) → ¬ IsBlank x → Stands (next_line ∷ []) (x ∷ v)
    ↔ Stands (text ∷ same_line ∷ []) (x ∷ v)
next_text x v h =
    let b = begins 1 x v (next_line ∷ []) in
    (λ d. let f = b.0 d in grind (arith, range_begins), λ d. b.1 (inr (inr (inr (inr (inr (inr (inl d))))))))

-- past white space
past_starts : (s t : List ℕ) → IsPast s t → StartsLine t
past_starts [] t e = subst StartsLine (sym e) tt
past_starts (x ∷ s) t (inl (b, p)) = past_starts s t p
past_starts (x ∷ s) t (inr (n, e)) = subst StartsLine (sym e) n

past_length : (s t : List ℕ) → IsPast s t → length t ≤ length s
past_length [] t e = subst (λ u. length u ≤ 0) (sym e) (omega arith)
past_length (x ∷ s) t (inl (b, p)) = let h = past_length s t p in omega arith
past_length (x ∷ s) t (inr (n, e)) = subst (λ u. length u ≤ length (x ∷ s)) (sym e) (omega arith)

-- no white space begins what the symbols stand for
abbrev pub NoBlank : List Symbol → Type 0
NoBlank ss = (x : ℕ) (v : List ℕ) → IsBlank x → ¬ Stands ss (x ∷ v)

pub text_no_blank : (ss : List Symbol) → NoBlank (text ∷ ss)
text_no_blank ss x v h = text_begins x ss v (λ o. grind arith)

none_no_blank : NoBlank []
none_no_blank x v h d = elim d [ ]

pub past_read : (ss : List Symbol) (s t : List ℕ) → NoBlank ss → IsPast s t → (v : List ℕ)
    → Stands (blanks ∷ ss) (s ++ v) ↔ Stands (blanks ∷ ss) (t ++ v)
past_read ss [] t n e v = subst (λ u. Stands (blanks ∷ ss) v ↔ Stands (blanks ∷ ss) (u ++ v)) (sym e) (λ d. d, λ d. d)
past_read ss (x ∷ s) t n (inl (b, p)) v =
    let first = blank_read x ss (s ++ v) b (n x (s ++ v) b) in
    let rest = past_read ss s t n p v in
    (λ d. rest.0 (first.0 d), λ d. first.1 (rest.1 d))
past_read ss (x ∷ s) t n (inr (m, e)) v =
    subst (λ u. Stands (blanks ∷ ss) (x ∷ s ++ v) ↔ Stands (blanks ∷ ss) (u ++ v)) (sym e) (λ d. d, λ d. d)

starts_read : (ss : List Symbol) (t : List ℕ) → AllHold ss → StartsLine t → CanBe (blanks ∷ ss) t ↔ CanBe ss t
starts_read ss [] a h = let c = completes ss a in (λ d. c, λ d. completes (blanks ∷ ss) a)
starts_read ss (x ∷ t) a h = can_same (blanks ∷ ss) ss (x ∷ t) (x ∷ t) (λ v. blank_skip x ss (t ++ v) h)

pub past_can : (ss : List Symbol) (s t : List ℕ) → AllHold ss → NoBlank ss → IsPast s t → CanBe (blanks ∷ ss) s
    ↔ CanBe ss t
past_can ss s t a n p =
    let same = can_same (blanks ∷ ss) (blanks ∷ ss) s t (past_read ss s t n p) in
    let first = starts_read ss t a (past_starts s t p) in
    (λ d. first.0 (same.0 d), λ d. same.1 (first.1 d))

can_none : (t : List ℕ) → CanBe [] t ↔ (t ≡ [])
can_none [] = (λ d. refl, λ e. completes [] tt)
can_none (x ∷ t) = (λ (v, d). elim d [ ], λ e. absurd (cc))

pub past_all : (s t : List ℕ) → IsPast s t → CanBe (blanks ∷ []) s ↔ (t ≡ [])
past_all s t p =
    let a = past_can [] s t tt none_no_blank p in
    let b = can_none t in
    (λ d. b.0 (a.0 d), λ e. a.1 (b.1 e))

next_past : (s t : List ℕ) → IsPast s t → (v : List ℕ) → Stands (next_line ∷ []) (s ++ v)
    ↔ Stands (next_line ∷ []) (t ++ v)
next_past [] t e v =
    subst (λ u. Stands (next_line ∷ []) v ↔ Stands (next_line ∷ []) (u ++ v)) (sym e) (λ d. d, λ d. d)
next_past (x ∷ s) t (inl (b, p)) v =
    let first = next_blank x (s ++ v) b in
    let rest = next_past s t p v in
    (λ d. rest.0 (first.0 d), λ d. first.1 (rest.1 d))
next_past (x ∷ s) t (inr (m, e)) v =
    subst (λ u. Stands (next_line ∷ []) (x ∷ s ++ v) ↔ Stands (next_line ∷ []) (u ++ v)) (sym e) (λ d. d, λ d. d)

-- where no white space stands, a next line is a text, or none is left
next_is_text : (s : List ℕ) → StartsLine s → 1 ≤ length s → CanBe (next_line ∷ []) s ↔ CanBe (text ∷ same_line ∷ []) s
next_is_text [] h l = absurd (omega arith)
next_is_text (x ∷ s) h l =
    can_same (next_line ∷ []) (text ∷ same_line ∷ []) (x ∷ s) (x ∷ s) (λ v. next_text x (s ++ v) h)

-- the next line
abbrev pub SameLine : List ℕ → List ℕ → Type 0
SameLine s t = (CanBe (same_line ∷ []) s ↔ CanBe (same_line ∷ []) t) × (CanBe (blanks ∷ []) s ↔ CanBe (blanks ∷ []) t)

blank_more : (s : List ℕ) (i : ℕ) → i < length s → IsBlank (get_or s i 0) → CanBe (blanks ∷ []) (drop i s)
    ↔ CanBe (blanks ∷ []) (drop (i + 1) s)
blank_more s i l b =
    subst (λ u. CanBe (blanks ∷ []) u ↔ CanBe (blanks ∷ []) (drop (i + 1) s)) (sym (drop_more s i 0 l))
    (can_same (blanks ∷ []) (blanks ∷ []) (get_or s i 0 ∷ drop (i + 1) s) (drop (i + 1) s)
    (λ v. blank_read (get_or s i 0) [] (drop (i + 1) s ++ v) b (λ d. elim d [ ])))

pub same_more : (s : List ℕ) (i : ℕ) → i < length s → IsBlank (get_or s i 0) → ¬ (get_or s i 0 ≡ 0x0A)
    → SameLine s (drop i s) → SameLine s (drop (i + 1) s)
same_more s i l b p h =
    let x = get_or s i 0 in
    let line : CanBe (same_line ∷ []) (drop i s) ↔ CanBe (same_line ∷ []) (drop (i + 1) s) =
    subst (λ u. CanBe (same_line ∷ []) u ↔ CanBe (same_line ∷ []) (drop (i + 1) s)) (sym (drop_more s i 0 l))
    (can_same (same_line ∷ []) (same_line ∷ []) (x ∷ drop (i + 1) s) (drop (i + 1) s)
    (λ v. line_goes_on x (drop (i + 1) s ++ v) b p)) in
    let blank = blank_more s i l b in
    ((λ d. line.0 (h.0.0 d), λ d. h.0.1 (line.1 d)), (λ d. blank.0 (h.1.0 d), λ d. h.1.1 (blank.1 d)))

pub next_found : (s : List ℕ) (i : ℕ) (t : List ℕ) → i < length s → get_or s i 0 ≡ 0x0A → SameLine s (drop i s)
    → IsPast (drop (i + 1) s) t → IsNextLine s t
next_found s i t l e h p =
    let x = get_or s i 0 in
    let line : CanBe (same_line ∷ []) (drop i s) ↔ CanBe (next_line ∷ []) t =
    subst (λ u. CanBe (same_line ∷ []) u ↔ CanBe (next_line ∷ []) t) (sym (drop_more s i 0 l))
    (can_same (same_line ∷ []) (next_line ∷ []) (x ∷ drop (i + 1) s) t (λ v.
    let first = line_ends x (drop (i + 1) s ++ v) e in
    let rest = next_past (drop (i + 1) s) t p v in
    (λ d. rest.0 (first.0 d), λ d. first.1 (rest.1 d)))) in
    let blank = blank_more s i l (grind arith) in
    let all = past_all (drop (i + 1) s) t p in
    let fewer = past_length (drop (i + 1) s) t p in
    let short = length-drop (i + 1) s in (
      (λ d. line.0 (h.0.0 d), λ d. h.0.1 (line.1 d)),
      (λ d. all.0 (blank.0 (h.1.0 d)), λ f. h.1.1 (blank.1 (all.1 f))),
      past_starts (drop (i + 1) s) t p,
      omega arith,
    )

pub none_next : (s : List ℕ) (i : ℕ) → i < length s → ¬ IsBlank (get_or s i 0) → SameLine s (drop i s)
    → (¬ CanBe (same_line ∷ []) s) × (¬ CanBe (blanks ∷ []) s)
none_next s i l n h =
    let x = get_or s i 0 in (
      λ d.
          let f = subst (CanBe (same_line ∷ [])) (drop_more s i 0 l) (h.0.0 d) in
          line_stops x (drop (i + 1) s ++ f.0) n f.1,
      λ d.
          let f = subst (CanBe (blanks ∷ [])) (drop_more s i 0 l) (h.1.0 d) in
          elim ((blank_skip x [] (drop (i + 1) s ++ f.0) n).0 f.1) [ ],
    )

pub next_at_end : (s : List ℕ) → SameLine s [] → IsNextLine s []
next_at_end s h = (
  (λ d. completes (next_line ∷ []) tt, λ d. h.0.1 (completes (same_line ∷ []) tt)),
  (λ d. refl, λ e. h.1.1 (completes (blanks ∷ []) tt)),
  tt,
  omega arith,
)

-- after a whole text, and in one
pub can_after : (ss : List Symbol) (x n : ℕ) (rest : List ℕ) → Leaves x rest (λ us. us) (drop n rest)
    → CanBe (text ∷ ss) (x ∷ rest) ↔ CanBe ss (drop n rest)
can_after ss x n rest left_so = can_same (text ∷ ss) ss (x ∷ rest) (drop n rest) (left_so ss)

pub can_complete : (ss : List Symbol) (x : ℕ) (rest : List ℕ) (n : Next) (d k : ℕ) → AllHold ss
    → Leaves x rest (next_left n d k) [] → CanBe (text ∷ ss) (x ∷ rest)
can_complete ss x rest n d k a left_so =
    let c = completes (next_left n d k ss) (next_holds n d k ss a) in (c.0, (left_so ss c.0).1 c.1)

-- lines by the first of them
pub lines_then : (b s t : List ℕ) → (CanBe (next_line ∷ []) b ↔ CanBe (next_line ∷ []) s) × StartsLine s
    → 1 ≤ length s
    → (CanBe (text ∷ same_line ∷ []) s ↔ CanBe (next_line ∷ []) t) → CanBe (next_line ∷ []) b
    ↔ CanBe (next_line ∷ []) t
lines_then b s t before l h =
    let is = next_is_text s before.1 l in
    (λ d. h.0 (is.0 (before.0.0 d)), λ d. before.0.1 (is.1 (h.1 d)))

pub lines_cut : (b s : List ℕ) → (CanBe (next_line ∷ []) b ↔ CanBe (next_line ∷ []) s) × StartsLine s → 1 ≤ length s
    → CanBe (text ∷ same_line ∷ []) s → CanBe (next_line ∷ []) b
lines_cut b s before l d = before.0.1 ((next_is_text s before.1 l).1 d)

pub lines_wrong : (b s : List ℕ) → (CanBe (next_line ∷ []) b ↔ CanBe (next_line ∷ []) s) × StartsLine s → 1 ≤ length s
    → ¬ CanBe (text ∷ same_line ∷ []) s → ¬ CanBe (next_line ∷ []) b
lines_wrong b s before l h d = h ((next_is_text s before.1 l).0 (before.0.0 d))

pub lines_end : (b s : List ℕ) → (CanBe (next_line ∷ []) b ↔ CanBe (next_line ∷ []) s) × StartsLine s → s ≡ []
    → CanBe (next_line ∷ []) b
lines_end b s before e = before.0.1 (subst (CanBe (next_line ∷ [])) (sym e) (completes (next_line ∷ []) tt))

-- a buffer by its first byte
abbrev pub WholeLine : List ℕ → List ℕ → Type 0
WholeLine s t =
    (CanBe (text ∷ same_line ∷ []) s ↔ CanBe (next_line ∷ []) t) × (CanBe (text ∷ blanks ∷ []) s ↔ (t ≡ []))
    × StartsLine t × (length t < length s)

pub line_whole : (x n : ℕ) (s rest t : List ℕ) → s ≡ x ∷ rest → Leaves x rest (λ us. us) (drop n rest)
    → IsNextLine (take (length rest - n) (drop n rest)) t → WholeLine s t
line_whole x n s rest t e left_so next =
    let h = subst (λ u. IsNextLine u t) (take_rest rest n) next in
    let line = can_after (same_line ∷ []) x n rest left_so in
    let blank = can_after (blanks ∷ []) x n rest left_so in
    let short = length-drop n rest in
    let fewer = h.3 in
    let is : WholeLine (x ∷ rest) t = (
      (λ d. h.0.0 (line.0 d), λ d. line.1 (h.0.1 d)),
      (λ d. h.1.0 (blank.0 d), λ f. blank.1 (h.1.1 f)),
      h.2,
      omega arith,
    ) in
    subst (λ u. WholeLine u t) (sym e) is

abbrev pub WrongLine : List ℕ → Type 0
WrongLine s = (¬ CanBe (text ∷ same_line ∷ []) s) × (¬ CanBe (text ∷ blanks ∷ []) s)

pub line_wrong : (x n : ℕ) (s rest : List ℕ) → s ≡ x ∷ rest → Leaves x rest (λ us. us) (drop n rest)
    → (¬ CanBe (same_line ∷ []) (take (length rest - n) (drop n rest))) × (¬ CanBe (blanks ∷ []) (take (length rest - n) (drop n rest)))
    → WrongLine s
line_wrong x n s rest e left_so none =
    let after = λ (a : Symbol) (never : ¬ CanBe (a ∷ []) (take (length rest - n) (drop n rest))) (can : CanBe (text ∷ a ∷ []) s).
    never (subst (CanBe (a ∷ [])) (sym (take_rest rest n)) ((can_after (a ∷ []) x n rest left_so).0 (subst (CanBe (text ∷ a ∷ [])) e can))) in
    (after same_line none.0, after blanks none.1)

abbrev pub CutLine : List ℕ → Type 0
CutLine s = CanBe (text ∷ same_line ∷ []) s × CanBe (text ∷ blanks ∷ []) s

pub line_cut : (x : ℕ) (s rest : List ℕ) (n : Next) (d k : ℕ) → s ≡ x ∷ rest → Leaves x rest (next_left n d k) []
    → CutLine s
line_cut x s rest n d k e left_so =
    subst CutLine (sym e) (
      can_complete (same_line ∷ []) x rest n d k tt left_so,
      can_complete
          (blanks ∷ []) x rest n d k tt left_so,
    )

pub none_left : (s : List ℕ) → length s < 1 → CutLine s
none_left [] l = (completes (text ∷ same_line ∷ []) tt, completes (text ∷ blanks ∷ []) tt)
none_left (x ∷ s) l = absurd (omega arith)

-- the first byte of a buffer, and what follows it
pub by_first : (s : List ℕ) → 1 ≤ length s → s ≡ get_or s 0 0 ∷ take (length s - 1) (drop 1 s)
by_first s l = drop_more s 0 0 l ∙ ap (λ t. get_or s 0 0 ∷ t) (sym (take_rest s 1))

-- past white space
lines_past : (b s : List ℕ) → IsPast b s → BeginsLines b
    ↔ (CanBe (text ∷ same_line ∷ []) s × (¬ CanBe (text ∷ blanks ∷ []) s))
lines_past b s p =
    let lines = past_can (text ∷ same_line ∷ []) b s tt (text_no_blank (same_line ∷ [])) p in
    let single = past_can (text ∷ blanks ∷ []) b s tt (text_no_blank (blanks ∷ [])) p in
    (λ (d, n). (lines.0 d, λ o. n (single.1 o)), λ (d, n). (lines.1 d, λ o. n (single.0 o)))

pub lines_so : (b s t : List ℕ) → IsPast b s → WholeLine s t → ¬ (t ≡ []) → BeginsLines b ↔ CanBe (next_line ∷ []) t
lines_so b s t p whole some =
    let past = lines_past b s p in
    (λ d. whole.0.0 (past.0 d).0, λ d. past.1 (whole.0.1 d, λ o. some (whole.1.0 o)))

pub lines_single : (b s t : List ℕ) → IsPast b s → WholeLine s t → t ≡ [] → ¬ BeginsLines b
lines_single b s t p whole none d = ((lines_past b s p).0 d).1 (whole.1.1 none)

pub lines_none : (b s : List ℕ) (r : line.Line) → IsPast b s → LineSays s r → (r ≡ Line.Cut) ⊎ (r ≡ Line.Wrong)
    → ¬ BeginsLines b
lines_none b s (Line.Whole t) p h is d = elim is [ inl e ↦ absurd (cc) | inr e ↦ absurd (cc) ]
lines_none b s Line.Cut p h is d = ((lines_past b s p).0 d).1 h.1
lines_none b s Line.Wrong p h is d = h.0 ((lines_past b s p).0 d).0

-- lines open with a bracket
pub lines_begin : (b s rest : List ℕ) (x : ℕ) → IsPast b s → s ≡ x ∷ rest → ¬ IsBracket x → ¬ BeginsLines b
lines_begin b s rest x p e never d =
    let (v, stands) = subst (CanBe (text ∷ same_line ∷ [])) e ((lines_past b s p).0 d).0 in text_begins x (same_line ∷ []) (rest ++ v) never stands

-- past a mark
pub mark_stops : (ss : List Symbol) (v : List ℕ) → ¬ Stands (blanks ∷ text ∷ ss) (0xEF ∷ v)
mark_stops ss v d =
    text_begins 0xEF ss v (λ o. elim o [ inl e ↦ omega arith | inr e ↦ omega arith ])
    ((blank_skip 0xEF (text ∷ ss) v (λ b. grind arith)).0 d)

past_mark : (P : List ℕ → Type 0) (b w : List ℕ) → ((u : List ℕ) → ¬ P (0xEF ∷ u)) → IsPastMark b w → P w
    ↔ UpToMark P b
past_mark P b w none (inl e) = (
  λ p. inr (w, e, p),
  λ d. elim d [
    | inl p ↦ absurd (none (0xBB ∷ 0xBF ∷ w) (subst P e p))
    | inr (u, f, p) ↦ let same : 0xEF ∷ 0xBB ∷ 0xBF ∷ u ≡ 0xEF ∷ 0xBB ∷ 0xBF ∷ w = sym f
        ∙ e in subst P (ap (drop 3) same) p
  ],
)
past_mark P b w none (inr (e, lacks)) = (
  λ p. inl (subst P (sym e) p),
  λ d. elim d [
    | inl p ↦ subst P e p
    | inr (u, f, p) ↦ absurd (lacks u f)
  ],
)

text_past_mark : (b w : List ℕ) → IsPastMark b w → BeginsText w ↔ UpToMark BeginsText b
text_past_mark b w h = past_mark BeginsText b w (λ u d. mark_stops (blanks ∷ []) (u ++ d.1.0) d.1.1) h

lines_past_mark : (b w : List ℕ) → IsPastMark b w → BeginsLines w ↔ UpToMark BeginsLines b
lines_past_mark b w h = past_mark BeginsLines b w (λ u d. mark_stops (same_line ∷ []) (u ++ d.0.0) d.0.1) h

pub json_past : (b w : List ℕ) (k : Option Json) → IsPastMark b w → SaysJsonPastMark w k → SaysJson b k
json_past b w None p (t, l) = (λ d. t ((text_past_mark b w p).1 d), λ d. l ((lines_past_mark b w p).1 d))
json_past b w (Some Text) p (t, l) = ((text_past_mark b w p).0 t, λ d. l ((lines_past_mark b w p).1 d))
json_past b w (Some Lines) p (l, t) = ((lines_past_mark b w p).0 l, λ d. t ((text_past_mark b w p).1 d))
