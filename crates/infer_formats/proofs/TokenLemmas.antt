-- Where tokens end.
use Rattle.infer_formats.proofs.Common.{[], ◌≡◌, ℕ, ◌+◌, ◌≤◌, ◌<◌, ◌⊎◌, inl, inr, ◌↔◌, Bool, true, false, IsTrue, List, ◌∷◌, ◌++◌, Option, None, Some, length, drop, get_or, append_assoc, refl, sym, subst, ap, ◌∙◌, arith, OnTrue, drop_more, Symbol, range, blanks, value, chars, escape, hex, integer, fraction, power, digits, byte, digit, BeginsWhole, AfterBlanks, text, BeginsText, CanBe, IsAmong, SaysJson, BeginsWithToken, Stands, nothing, one, by_rule, EndsNumber, Follows, IsBracket, SaysJsonPastMark, IsPast, IsPastMark, left, Json, Lines, Text, Token, Chars, Inside, Ended, EndedBefore, Wrong, append-nil, not, rules, BeginsToken, IsBlank, IsStructural, NoneGoesOn, SaysJsonBefore, NoToken, Starts}
use Rattle.infer_formats.specs.declared.json.token.Step.{Step}
use Rattle.infer_formats.proofs.CompleteLemmas.{AllHold, Completes, completes, token_holds}
use Rattle.infer_formats.proofs.JsonLemmas.{value_begins}
use Rattle.infer_formats.proofs.LineLemmas.{CutLine, WholeLine, WrongLine, lines_none, lines_begin, lines_single, lines_so, none_left, json_past, past_can, text_no_blank}
use Rattle.infer_formats.specs.declared.json.lines.Line.TheVariants as Line

-- one after the other, and apart
both : {us : List Symbol} {xs : List ℕ} (bs : List Symbol) (ys : List ℕ) → Stands us xs → Stands bs ys
    → Stands (us ++ bs) (xs ++ ys)
both bs ys nothing e = e
both bs ys (one l h d) e = one l h (both bs ys d e)
both {us} {xs} bs ys (by_rule {ss = ss} r m d) e = by_rule r m
    (subst (λ ws. Stands ws (xs ++ ys)) (append_assoc r ss bs) (both bs ys d e))

abbrev Parted : List Symbol → List Symbol → List ℕ → Type 0
Parted us bs xs = (ys zs : List ℕ) × (xs ≡ ys ++ zs) × Stands us ys × Stands bs zs

pub apart : {cs : List Symbol} {xs : List ℕ} → Stands cs xs → (us bs : List Symbol) → cs ≡ us ++ bs → Parted us bs xs
apart {cs} {xs} d [] bs e = ([], xs, refl, nothing, subst (λ ws. Stands ws xs) e d)
apart nothing (a ∷ us) bs e = absurd (cc)
apart (one {low} {high} {x} {ss} {xs} l h d) (a ∷ us) bs e =
    let same : range low high ≡ a = grind arith in
    let rest : ss ≡ us ++ bs = grind arith in
    let p = apart d us bs rest in
    (x ∷ p.0, p.1, ap (λ t. x ∷ t) p.2, subst (λ s. Stands (s ∷ us) (x ∷ p.0)) same (one l h p.3), p.4)
apart (by_rule {a = b} {ss} {xs} r m d) (a ∷ us) bs e =
    let same : b ≡ a = grind arith in
    let rest : ss ≡ us ++ bs = grind arith in
    let p = apart d (r ++ us) bs (ap (λ t. r ++ t) rest ∙ sym (append_assoc r us bs)) in
    (p.0, p.1, p.2, subst (λ s. Stands (s ∷ us) p.0) same (by_rule r m p.3), p.4)

alone_so : (x : ℕ) (ys zs : List ℕ) → x ∷ [] ≡ ys ++ zs → Stands (byte x ∷ []) zs → ys ≡ []
alone_so x [] zs e d = refl
alone_so x (y ∷ ys) [] e (by_rule r m d) = elim m [ ]
alone_so x (y ∷ []) (z ∷ zs) e d = absurd (cc)
alone_so x (y ∷ w ∷ ys) (z ∷ zs) e d = absurd (cc)

-- what ss stands for where it ended before the byte x: nothing
before_byte : (ss : List Symbol) (x : ℕ) → Stands (ss ++ byte x ∷ []) (x ∷ []) → Stands ss []
before_byte ss x d =
    let p = apart d ss (byte x ∷ []) refl in
    subst (Stands ss) (alone_so x p.0 p.1 p.2 p.4) p.3

by_itself : (x : ℕ) → Stands (byte x ∷ []) (x ∷ [])
by_itself x = one (omega arith) (omega arith) nothing

-- where a byte leaves other symbols, which some bytes complete, the end is theirs
none_there : (ss us : List Symbol) (x : ℕ) (t more : List ℕ) → ((v : List ℕ) → Stands ss (x ∷ v) ↔ Stands us v)
    → NoneGoesOn ss (x ∷ t) more → NoneGoesOn us t more
none_there ss us x t [] h none = λ y v d. none y v ((h (t ++ y ∷ v)).1 d)
none_there ss us x t (y ∷ more) h none = λ v d. none v ((h (t ++ y ∷ v)).1 d)

none_back : (ss us : List Symbol) (x : ℕ) (t more : List ℕ) → ((v : List ℕ) → Stands ss (x ∷ v) ↔ Stands us v)
    → NoneGoesOn us t more → NoneGoesOn ss (x ∷ t) more
none_back ss us x t [] h none = λ y v d. none y v ((h (t ++ y ∷ v)).0 d)
none_back ss us x t (y ∷ more) h none = λ v d. none v ((h (t ++ y ∷ v)).0 d)

whole_there : (ss us : List Symbol) (x : ℕ) (s t more : List ℕ) → Completes us
    → ((v : List ℕ) → Stands ss (x ∷ v) ↔ Stands us v)
    → x ∷ s ≡ t ++ more → Stands ss t → NoneGoesOn ss t more → BeginsWhole us s
whole_there ss us x s [] more c h e d none = absurd (subst (NoneGoesOn ss []) (sym e) none c.0 ((h c.0).1 c.1))
whole_there ss us x s (y ∷ t) more c h e d none =
    let same : y ≡ x = cc in
    let rest : s ≡ t ++ more = cc in
    let n = subst (λ z. NoneGoesOn ss (z ∷ t) more) same none in
    (t, more, rest, (h t).0 (subst (λ z. Stands ss (z ∷ t)) same d), none_there ss us x t more h n)

whole_step : (ss us : List Symbol) (x : ℕ) (s : List ℕ) → Completes us
    → ((v : List ℕ) → Stands ss (x ∷ v) ↔ Stands us v)
    → BeginsWhole ss (x ∷ s) ↔ BeginsWhole us s
whole_step ss us x s c h = (
  λ (t, more, e, d, none). whole_there ss us x s t more c h e d none,
  λ (t, more, e, d, none). (x ∷ t, more, ap (λ u. x ∷ u) e, (h t).1 d, none_back ss us x t more h none),
)

-- what begins with no byte x
never_whole : (ss : List Symbol) (x : ℕ) (s : List ℕ) → ((v : List ℕ) → ¬ Stands ss (x ∷ v))
    → ¬ Stands (ss ++ byte x ∷ []) (x ∷ []) → ¬ BeginsWhole ss (x ∷ s)
never_whole ss x s h n ([], more, e, d, none) = n (both (byte x ∷ []) (x ∷ []) d (by_itself x))
never_whole ss x s h n (y ∷ t, more, e, d, none) =
    let same : y ≡ x = cc in h t (subst (λ z. Stands ss (z ∷ t)) same d)

-- of tokens
no_others : EndsNumber []
no_others x v m d = elim d [ ]

token_completes : (t : Token) → Completes (left t)
token_completes t = completes (left t) (subst AllHold (append-nil (left t)) (token_holds t [] tt))

alone : (ss us : List Symbol) (x : ℕ) → ((v : List ℕ) → Stands (ss ++ []) (x ∷ v) ↔ Stands (us ++ []) v)
    → (v : List ℕ) → Stands ss (x ∷ v) ↔ Stands us v
alone ss us x h =
    subst (λ q. (v : List ℕ) → Stands q (x ∷ v) ↔ Stands us v) (append-nil ss)
    (subst (λ q. (v : List ℕ) → Stands (ss ++ []) (x ∷ v) ↔ Stands q v) (append-nil us) h)

pub whole_inside : (t u : Token) (x : ℕ) (s : List ℕ) → Follows (left t) x (Inside u) → BeginsWhole (left t) (x ∷ s)
    ↔ BeginsWhole (left u) s
whole_inside t u x s f =
    whole_step (left t) (left u) x s (token_completes u) (alone (left t) (left u) x (f [] no_others))

pub whole_ended : (t : Token) (x : ℕ) (s : List ℕ) → Follows (left t) x Ended → BeginsWhole (left t) (x ∷ s)
whole_ended t x [] f =
    let h = alone (left t) [] x (f []) in (x ∷ [], [], refl, (h []).1 nothing, λ y v d. elim ((h (y ∷ v)).0 d) [ ])
whole_ended t x (y ∷ s) f =
    let h = alone (left t) [] x (f []) in (x ∷ [], y ∷ s, refl, (h []).1 nothing, λ v d. elim ((h (y ∷ v)).0 d) [ ])

none_after : (t : Token) (x : ℕ) → Follows (left t) x EndedBefore → (v : List ℕ) → ¬ Stands (left t) (x ∷ v)
none_after t x f v d =
    let e : Stands [] (x ∷ v) = (f [] v).0 (subst (λ q. Stands q (x ∷ v)) (sym (append-nil (left t))) d) in elim e [ ]

pub whole_before : (t : Token) (x : ℕ) (s : List ℕ) → Follows (left t) x EndedBefore → BeginsWhole (left t) (x ∷ s)
whole_before t x s f =
    ([], x ∷ s, refl, before_byte (left t) x ((f (byte x ∷ []) []).1 (by_itself x)), none_after t x f)

whole_wrong : (t : Token) (x : ℕ) (s : List ℕ) → Follows (left t) x Wrong → ¬ BeginsWhole (left t) (x ∷ s)
whole_wrong t x s f =
    never_whole (left t) x s (λ v d. f [] v (subst (λ q. Stands q (x ∷ v)) (sym (append-nil (left t))) d))
    (f (byte x ∷ []) [])

-- each token can go on
abbrev GoesOn : List Symbol → Type 0
GoesOn ss = (x : ℕ) × (v : List ℕ) × Stands ss (x ∷ v)

goes_range : (low high : ℕ) (ss : List Symbol) → low ≤ high → Completes ss → GoesOn (range low high ∷ ss)
goes_range low high ss l c = (low, c.0, one (omega arith) l c.1)

goes_by : (r : List Symbol) (a : Symbol) (ss : List Symbol) → IsAmong r (rules a) → GoesOn (r ++ ss) → GoesOn (a ∷ ss)
goes_by r a ss m g = (g.0, g.1, by_rule r m g.2)

-- by the first symbol that is left
abbrev begins_some : List Symbol → Bool
begins_some (range low high ∷ ss) = true
begins_some (chars ∷ ss) = true
begins_some (escape ∷ ss) = true
begins_some (hex ∷ ss) = true
begins_some (integer ∷ ss) = true
begins_some (fraction ∷ ss) = true
begins_some (digits ∷ ss) = true
begins_some (power ∷ ss) = true
begins_some ss = false

goes : (ss : List Symbol) → begins_some ss ≡ true → AllHold ss → GoesOn ss
goes (range low high ∷ ss) is h = goes_range low high ss h.0 (completes ss h.1)
goes (chars ∷ ss) is h = goes_by (byte 0x22 ∷ []) chars ss (inl refl) (goes_range 0x22 0x22 ss (omega arith) (completes ss h))
goes (escape ∷ ss) is h = goes_by (byte 0x22 ∷ []) escape ss (inl refl) (goes_range 0x22 0x22 ss (omega arith) (completes ss h))
goes (hex ∷ ss) is h = goes_by (digit ∷ []) hex ss (inl refl) (goes_range 0x30 0x39 ss (omega arith) (completes ss h))
goes (integer ∷ ss) is h = goes_by (byte 0x30 ∷ []) integer ss (inl refl) (goes_range 0x30 0x30 ss (omega arith) (completes ss h))
goes (fraction ∷ ss) is h =
    goes_by (byte 0x2E ∷ digit ∷ digits ∷ []) fraction ss (inr (inl refl))
    (goes_range 0x2E 0x2E (digit ∷ digits ∷ ss) (omega arith) (completes (digit ∷ digits ∷ ss) (omega arith, h)))
goes (digits ∷ ss) is h =
    goes_by (digit ∷ digits ∷ []) digits ss (inr (inl refl)) (goes_range 0x30 0x39 (digits ∷ ss) (omega arith) (completes (digits ∷ ss) h))
goes (power ∷ ss) is h =
    goes_by (digit ∷ digits ∷ []) power ss (inl refl) (goes_range 0x30 0x39 (digits ∷ ss) (omega arith) (completes (digits ∷ ss) h))
goes ss is h = absurd cc

left_begins : (t : Token) → begins_some (left t) ≡ true
left_begins Chars = refl
left_begins _ = refl

goes_on : (t : Token) → GoesOn (left t)
goes_on t = goes (left t) (left_begins t) (subst AllHold (append-nil (left t)) (token_holds t [] tt))

pub none_ends : (t : Token) → ¬ BeginsWhole (left t) []
none_ends t ([], [], e, d, none) = let g = goes_on t in none g.0 g.1 g.2
none_ends t ([], y ∷ more, e, d, none) = absurd (cc)
none_ends t (y ∷ s, more, e, d, none) = absurd (cc)

-- in a buffer, from the place i on
pub whole_more : (t u : Token) (s : List ℕ) (i : ℕ) → i < length s → Follows (left t) (get_or s i 0) (Inside u)
    → BeginsWhole (left t) (drop i s) ↔ BeginsWhole (left u) (drop (i + 1) s)
whole_more t u s i l f =
    subst (λ q. BeginsWhole (left t) q ↔ BeginsWhole (left u) (drop (i + 1) s)) (sym (drop_more s i 0 l))
    (whole_inside t u (get_or s i 0) (drop (i + 1) s) f)

pub ends_at : (t : Token) (s : List ℕ) (i : ℕ) (step : Step) → i < length s → Follows (left t) (get_or s i 0) step
    → (step ≡ Ended) ⊎ (step ≡ EndedBefore)
    → BeginsWhole (left t) (drop i s)
ends_at t s i step l f (inl e) =
    subst (BeginsWhole (left t)) (sym (drop_more s i 0 l))
    (whole_ended t (get_or s i 0) (drop (i + 1) s) (subst (Follows (left t) (get_or s i 0)) e f))
ends_at t s i step l f (inr e) =
    subst (BeginsWhole (left t)) (sym (drop_more s i 0 l))
    (whole_before t (get_or s i 0) (drop (i + 1) s) (subst (Follows (left t) (get_or s i 0)) e f))

pub stops_at : (t : Token) (s : List ℕ) (i : ℕ) → i < length s → Follows (left t) (get_or s i 0) Wrong
    → ¬ BeginsWhole (left t) (drop i s)
stops_at t s i l f b =
    whole_wrong t (get_or s i 0) (drop (i + 1) s) f (subst (BeginsWhole (left t)) (drop_more s i 0 l) b)

-- a token by its first byte
pub token_starts : (x : ℕ) (t : Token) (s : List ℕ) → Starts x t → BeginsWhole (value 0 ∷ []) (x ∷ s)
    ↔ BeginsWhole (left t) s
token_starts x t s st =
    whole_step (value 0 ∷ []) (left t) x s (token_completes t) (alone (value 0 ∷ []) (left t) x (st 0 []))

pub none_starts : (x : ℕ) (s : List ℕ) → NoToken x → ¬ IsStructural x → ¬ BeginsWhole (value 0 ∷ []) (x ∷ s)
none_starts x s n m =
    let p = λ (e : x ≡ 0x5B). m (inl e) in
    let q = λ (e : x ≡ 0x7B). m (inr (inr (inl e))) in
    never_whole (value 0 ∷ []) x s (λ v. n 0 [] v p q) (n 0 (byte x ∷ []) [] p q)

-- after white space
after_past : (P : List ℕ → Type 0) (s t : List ℕ) → ((x : ℕ) (u : List ℕ) → IsBlank x → ¬ P (x ∷ u)) → IsPast s t
    → AfterBlanks P s ↔ P t
after_past P [] t n e = (λ p. subst P (sym e) p, λ p. subst P e p)
after_past P (x ∷ s) t n (inl (b, p)) =
    let h = after_past P s t n p in
    (λ d. elim d [ inl q ↦ absurd (n x s b q) | inr q ↦ h.0 q.1 ], λ q. inr (b, h.1 q))
after_past P (x ∷ s) t n (inr (m, e)) =
    (λ d. elim d [ inl q ↦ subst P (sym e) q | inr q ↦ absurd (m q.0) ], λ q. inl (subst P e q))

blank_no_token : (x : ℕ) → IsBlank x → NoToken x
blank_no_token x b n ss v p q d = let f = (value_begins n x ss v p q).0 d in grind arith

token_not_blank : (x : ℕ) (s : List ℕ) → IsBlank x → ¬ BeginsToken (x ∷ s)
token_not_blank x s b d = elim d [
  | inl m ↦ grind arith
  | inr w ↦ none_starts x s (blank_no_token x b) (λ m. grind arith) w
]

token_past : (s t : List ℕ) → IsPast s t → AfterBlanks BeginsToken s ↔ BeginsToken t
token_past s t p = after_past BeginsToken s t token_not_blank p

begins_past : (s t : List ℕ) → IsPast s t → AfterBlanks BeginsWithToken s ↔ BeginsWithToken t
begins_past s t p = after_past BeginsWithToken s t (λ x u b d. (let o = d.0 in grind arith)) p

-- of a buffer by its first byte
pub tokens_past : (b s rest : List ℕ) (x : ℕ) → IsPast b s → s ≡ x ∷ rest → AfterBlanks BeginsToken b
    ↔ BeginsToken (x ∷ rest)
tokens_past b s rest x p e = subst (λ u. AfterBlanks BeginsToken b ↔ BeginsToken u) e (token_past b s p)

pub no_token : (b s : List ℕ) → IsPast b s → length s < 1 → ¬ AfterBlanks BeginsToken b
no_token b [] p l d = (token_past b [] p).0 d
no_token b (x ∷ s) p l d = absurd (omega arith)

pub text_past : (b s rest : List ℕ) (x : ℕ) → IsPast b s → s ≡ x ∷ rest
    → BeginsText b ↔ ((IsBracket x × AfterBlanks BeginsToken rest) × CanBe (text ∷ blanks ∷ []) (x ∷ rest))
text_past b s rest x p e =
    let first = subst (λ u. AfterBlanks BeginsWithToken b ↔ BeginsWithToken u) e (begins_past b s p) in
    let can = subst (λ u. CanBe (blanks ∷ text ∷ blanks ∷ []) b ↔ CanBe (text ∷ blanks ∷ []) u) e
    (past_can (text ∷ blanks ∷ []) b s tt (text_no_blank (blanks ∷ [])) p) in
    (λ (o, d). (first.0 o, can.0 d), λ (o, d). (first.1 o, can.1 d))

pub no_text : (b s : List ℕ) → IsPast b s → length s < 1 → ¬ BeginsText b
no_text b [] p l d = (begins_past b [] p).0 d.0
no_text b (x ∷ s) p l d = absurd (omega arith)

-- which kind of JSON it is, by its first line and what stands after the bracket of its first text
module _ (b s rest : List ℕ) (x : ℕ) (p : IsPast b s) (e : s ≡ x ∷ rest) where
  single : BeginsText b → AfterBlanks BeginsToken rest × CanBe (text ∷ blanks ∷ []) s
  single d = let (o, can) = (text_past b s rest x p e).0 d in (o.1, subst (CanBe (text ∷ blanks ∷ [])) (sym e) can)

  is_single : IsBracket x → AfterBlanks BeginsToken rest → CanBe (text ∷ blanks ∷ []) s → BeginsText b
  is_single o t can = (text_past b s rest x p e).1 ((o, t), subst (CanBe (text ∷ blanks ∷ [])) e can)

  pub json_whole : (t : List ℕ) (k : Option Json) → IsBracket x → WholeLine s t → SaysJsonBefore rest t k → SaysJsonPastMark b k
  json_whole t None o line_whole (inl (none, never)) = (λ d. never (single d).0, lines_single b s t p line_whole none)
  json_whole t None o line_whole (inr (some, never)) = (λ d. some (line_whole.1.0 (single d).1), λ d. never ((lines_so b s t p line_whole some).0 d))
  json_whole t (Some Text) o line_whole (none, token) = (is_single o token (line_whole.1.1 none), lines_single b s t p line_whole none)
  json_whole t (Some Lines) o line_whole (some, can) = ((lines_so b s t p line_whole some).1 can, λ d. some (line_whole.1.0 (single d).1))

  pub json_cut : (k : Option Json) → IsBracket x → CutLine s → SaysJsonBefore rest [] k → SaysJsonPastMark b k
  json_cut None o cut (inl (none, never)) = (λ d. never (single d).0, lines_none b s Line.Cut p cut (inl refl))
  json_cut None o cut (inr (some, never)) = absurd (some refl)
  json_cut (Some Text) o cut (none, token) = (is_single o token cut.1, lines_none b s Line.Cut p cut (inl refl))
  json_cut (Some Lines) o cut (some, can) = absurd (some refl)

  pub json_wrong : WrongLine s → SaysJsonPastMark b None
  json_wrong wrong = (λ d. wrong.1 (single d).1, lines_none b s Line.Wrong p wrong (inr refl))

  pub json_unbegun : ¬ IsBracket x → SaysJsonPastMark b None
  json_unbegun never = (λ d. never ((text_past b s rest x p e).0 d).0.0, lines_begin b s rest x p e never)

pub json_empty : (b s : List ℕ) → IsPast b s → length s < 1 → SaysJsonPastMark b None
json_empty b s p l = (no_text b s p l, lines_none b s Line.Cut p (none_left s l) (inl refl))

json_shut : (w : List ℕ) (x : ℕ) → 1 ≤ length w → get_or w 0 0 ≡ x → ¬ IsBlank x → ¬ IsBracket x → SaysJsonPastMark w None
json_shut [] x l e never none = absurd (omega arith)
json_shut (y ∷ w) x l e never none =
    let nb = subst (λ z. ¬ IsBlank z) (sym e) never in
    json_unbegun (y ∷ w) (y ∷ w) w y (inr (nb, refl)) refl (subst (λ z. ¬ IsBracket z) (sym e) none)

pub json_nothing : (w : List ℕ) → length w ≡ 0 → SaysJson w None
json_nothing [] e = json_past [] [] None (inr (refl, λ u same. absurd (cc))) (json_empty [] [] refl (omega arith))
json_nothing (x ∷ w) e = absurd (omega arith)

-- what begins with no mark is its own rest
unmarked : (w : List ℕ) → ¬ (get_or w 0 0 ≡ 0xEF) → IsPastMark w w
unmarked w never = inr (refl, λ u e. never (subst (λ l. get_or l 0 0 ≡ 0xEF) (sym e) refl))

pub on_shut : (w : List ℕ) (r : Bool) → 1 ≤ length w → (IsBlank (get_or w 0 0) ⊎ IsBracket (get_or w 0 0) ⊎ (get_or w 0 0 ≡ 0xEF) → IsTrue r)
    → OnTrue (not r) (SaysJson w None)
on_shut w true l begins = tt
on_shut w false l begins =
    json_past w w None (unmarked w (λ mark. let e = begins (inr (inr mark)) in absurd (cc)))
    (json_shut w (get_or w 0 0) l refl (λ blank. let e = begins (inl blank) in absurd (cc)) (λ bracket. let e = begins (inr (inl bracket)) in absurd (cc)))
