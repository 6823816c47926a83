-- Laws of names and bytes.
use Rattle.std.proofs.Common.{All, ◌++◌, ◌<◌, ◌==◌, ◌||◌, drop, take, nat_eq, arith, ◌≡◌, ◌≢◌, ◌⊎◌, ◌&&◌, ◌∙◌, ℕ, Bool, true, false, IsTrue, List, [], ◌∷◌, Option, None, Some, ap, sym, subst, refl, is_some, length, not, option_map, inl, inr, if◌then◌else◌}
use Rattle.std.proofs.lemmas.Bool.{and_parts, cases_Bool, eqb-true}
use Rattle.std.proofs.lemmas.List.{get_or_append_left, length-append}
use Rattle.std.proofs.lemmas.List.Elements.{filter-append}
use Rattle.std.specs.List.{find, list_all, starts_with}
use Rattle.infer.proofs.FirstLemmas.{IsFirstOf-same}
use Rattle.infer.specs.First.{IsFirstOf}
use Rattle.infer.specs.Leads.{is_white}
use Rattle.infer.specs.Row.{Accepts}
use Rattle.infer.specs.Table.{table}
use Rattle.infer_formats.proofs.TextLemmas.{text_may}
use Rattle.infer_formats.specs.Text.{IsText}
use Rattle.infer_more.specs.Table.{further}
use Rattle.infer_more.specs.Wider.{IsWiderAnswer, Widens, shown_at, wider}
use Rattle.infer.specs.Triple.{Triple}
use Rattle.infer_named.specs.Asks.{admits}
use Rattle.infer_named.specs.Join.{Answer, answer, fits, has_no_leads, is_among, join, is_finer_text, is_free, joined_with, joined_without, of_bytes, of_name, reading_of, reading_without, takes, untaken}
use Rattle.infer_named.specs.Key.{Key, Reading, is_loose}
use Rattle.infer_named.specs.Bytes.{HasZero, IsKind, is_empty, lead_of, shown, unmarked, without_white}
use Rattle.infer_named.specs.Laws.{AnswersLast, AnswersLastByKind, ChangesOnce, DecidedAnswersLast, KindsLast, LeadStays, LeadsLast, LiesStayVisible, NothingIsInvented, OnlyTheKeyCounts, OnlyThreeCount, SilenceIsExact, TheBytesWin, has_no_lead, is_silent, is_unfilled, takes_bytes}
use Rattle.infer_named.specs.Named.{key_of}
use Rattle.infer_named.specs.declared.bytes.Kind.{Kind}
use Rattle.infer_named.specs.declared.bytes.Kind.TheVariants.{Binary, Empty, Marked, Text}
use Rattle.infer_named.specs.declared.join.Standing.{Standing}
use Rattle.infer_named.specs.declared.join.Standing.TheVariants.{Agree, BytesAlone, BytesRefine, Contradicts, NameAlone, NameRefines, Nothing}

-- what is found passes
pub found_passes : {A : Type 0} (p : A → Bool) (xs : List A) (x : A) → find p xs ≡ Some x → IsTrue (p x)
found_passes p [] x e = absurd (cc)
found_passes p (y ∷ xs) x e = elim (cases_Bool (p y)) [
  | inl on ↦ (let same : y ≡ x = (let here : Some y ≡ Some x = rw on at e in cc) in subst (λ z. IsTrue (p z)) same on)
  | inr off ↦ (let later : find p xs ≡ Some x = rw off at e in found_passes p xs x later)
]

-- what a reading tells, by whether its first two sets have the type
abbrev by_sets : Bool → Bool → Reading → Triple → Answer
by_sets agrees begins r t =
    if agrees then answer Agree (Some (of_bytes t)) else (if begins then answer NameRefines (Some (of_name r.named)) else answer BytesRefine (Some (of_bytes t)))

theirs_by : (a b : Bool) (r : Reading) (t : Triple) → IsTrue (takes_bytes (by_sets a b r t).standing) → (by_sets a b r t).told ≡ Some (of_bytes t)
theirs_by true b r t h = refl
theirs_by false true r t h = absurd (cc)
theirs_by false false r t h = refl

theirs_untaken : (finer free : Bool) (t : Triple) → (untaken finer free t).told ≡ Some (of_bytes t)
theirs_untaken true free t = refl
theirs_untaken false true t = refl
theirs_untaken false false t = refl

theirs_with : (k : Key) (t : Triple) (o : Option Reading) → IsTrue (takes_bytes (joined_with k t o).standing) → (joined_with k t o).told ≡ Some (of_bytes t)
theirs_with k t (Some r) h = theirs_by (is_among t r.agrees) (is_among t r.begins) r t h
theirs_with k t None h = theirs_untaken (is_finer_text t k.readings) (is_free k.usage t) t

refined_by : (a b : Bool) (r : Reading) (t : Triple) → (by_sets a b r t).standing ≡ NameRefines → IsTrue b × ((by_sets a b r t).told ≡ Some (of_name r.named))
refined_by true b r t e = absurd (cc)
refined_by false true r t e = (refl, refl)
refined_by false false r t e = absurd (cc)

-- what no reading takes has one of three standings
untaken_stands : (finer free : Bool) (t : Triple) (s : Standing) → s ≢ BytesRefine → s ≢ BytesAlone → s ≢ Contradicts → (untaken finer free t).standing ≢ s
untaken_stands true free t s refine alone contradict e = refine (sym e)
untaken_stands false true t s refine alone contradict e = alone (sym e)
untaken_stands false false t s refine alone contradict e = contradict (sym e)

refined_with : (k : Key) (t : Triple) (o : Option Reading) → (joined_with k t o).standing ≡ NameRefines
    → (r : Reading) × (o ≡ Some r) × IsTrue (is_among t r.begins) × ((joined_with k t o).told ≡ Some (of_name r.named))
refined_with k t (Some r) e = let (begins, told) = refined_by (is_among t r.agrees) (is_among t r.begins) r t e in (r, refl, begins, told)
refined_with k t None e =
    absurd (untaken_stands (is_finer_text t k.readings) (is_free k.usage t) t NameRefines (λ s. absurd (cc)) (λ s. absurd (cc)) (λ s. absurd (cc)) e)

-- without a type of the bytes, by whether the key is loose, and whether there are no bytes
abbrev alone_with : (l n : Bool) (o : Option Reading) → Answer
alone_with l n o = if l then answer Nothing None else joined_without n o

theirs_alone : (l n : Bool) (o : Option Reading) → IsTrue (takes_bytes (alone_with l n o).standing) → (alone_with l n o).told ≡ None
theirs_alone true n o h = absurd (cc)
theirs_alone false n (Some r) h = absurd (cc)
theirs_alone false true None h = absurd (cc)
theirs_alone false false None h = refl

not_refined_alone : (l n : Bool) (o : Option Reading) → (alone_with l n o).standing ≢ NameRefines
not_refined_alone true n o e = absurd (cc)
not_refined_alone false n (Some r) e = absurd (cc)
not_refined_alone false true None e = absurd (cc)
not_refined_alone false false None e = absurd (cc)

theirs : (k : Option Key) (t : Option Triple) (kind : Kind) (lead : List ℕ) → IsTrue (takes_bytes (join k t kind lead).standing)
    → (join k t kind lead).told ≡ option_map of_bytes t
theirs None (Some t) kind lead h = refl
theirs None None kind lead h = absurd (cc)
theirs (Some k) (Some t) kind lead h = theirs_with k t (reading_of k.readings t lead) h
theirs (Some k) None kind lead h = theirs_alone (is_loose k.usage) (is_empty kind) (reading_without k.readings kind lead) h

refined : (k : Option Key) (t : Option Triple) (kind : Kind) (lead : List ℕ) → (join k t kind lead).standing ≡ NameRefines
    → (key : Key) × (r : Reading) × (x : Triple) × (k ≡ Some key) × (t ≡ Some x)
    × (reading_of key.readings x lead ≡ Some r) × IsTrue (is_among x r.begins) × ((join k t kind lead).told ≡ Some (of_name r.named))
refined None (Some t) kind lead e = absurd (cc)
refined None None kind lead e = absurd (cc)
refined (Some k) (Some t) kind lead e =
    let (r, found, begins, told) = refined_with k t (reading_of k.readings t lead) e in (k, r, t, refl, refl, found, begins, told)
refined (Some k) None kind lead e = absurd (not_refined_alone (is_loose k.usage) (is_empty kind) (reading_without k.readings kind lead) e)

pub bytes_win : TheBytesWin
bytes_win k t kind lead = record { theirs = theirs k t kind lead; refined = refined k t kind lead }

-- a name alone
not_alone_by : (a b : Bool) (r : Reading) (t : Triple) → (by_sets a b r t).standing ≢ NameAlone
not_alone_by true b r t e = absurd (cc)
not_alone_by false true r t e = absurd (cc)
not_alone_by false false r t e = absurd (cc)

not_alone_with : (k : Key) (t : Triple) (o : Option Reading) → (joined_with k t o).standing ≢ NameAlone
not_alone_with k t (Some r) e = not_alone_by (is_among t r.agrees) (is_among t r.begins) r t e
not_alone_with k t None e =
    untaken_stands (is_finer_text t k.readings) (is_free k.usage t) t NameAlone (λ s. absurd (cc)) (λ s. absurd (cc)) (λ s. absurd (cc)) e

alone_by : (l n : Bool) (o : Option Reading) → (alone_with l n o).standing ≡ NameAlone
    → (r : Reading) × (l ≡ false) × (o ≡ Some r) × ((alone_with l n o).told ≡ Some (of_name r.named))
alone_by true n o e = absurd (cc)
alone_by false n (Some r) e = (r, refl, refl, refl)
alone_by false true None e = absurd (cc)
alone_by false false None e = absurd (cc)

pub nothing_invented : NothingIsInvented
nothing_invented None (Some t) kind lead e = absurd (cc)
nothing_invented None None kind lead e = absurd (cc)
nothing_invented (Some k) (Some t) kind lead e = absurd (not_alone_with k t (reading_of k.readings t lead) e)
nothing_invented (Some k) None kind lead e =
    let (r, strict, found, told) = alone_by (is_loose k.usage) (is_empty kind) (reading_without k.readings kind lead) e in
    let passes = found_passes (λ r. fits lead r && admits r.asks kind) k.readings r found in
    (k, r, refl, strict, refl, found, (and_parts (fits lead r) (admits r.asks kind) passes).1, told)

-- silence
not_silent_by : (a b : Bool) (r : Reading) (t : Triple) → (by_sets a b r t).standing ≢ Nothing
not_silent_by true b r t e = absurd (cc)
not_silent_by false true r t e = absurd (cc)
not_silent_by false false r t e = absurd (cc)

not_silent_with : (k : Key) (t : Triple) (o : Option Reading) → (joined_with k t o).standing ≢ Nothing
not_silent_with k t (Some r) e = not_silent_by (is_among t r.agrees) (is_among t r.begins) r t e
not_silent_with k t None e =
    untaken_stands (is_finer_text t k.readings) (is_free k.usage t) t Nothing (λ s. absurd (cc)) (λ s. absurd (cc)) (λ s. absurd (cc)) e

silent_alone : (l n : Bool) (o : Option Reading) → (alone_with l n o).standing ≡ Nothing → IsTrue (l || (n && not (is_some o)))
silent_alone true n o e = refl
silent_alone false n (Some r) e = absurd (cc)
silent_alone false true None e = refl
silent_alone false false None e = absurd (cc)

alone_silent : (l n : Bool) (o : Option Reading) → IsTrue (l || (n && not (is_some o))) → (alone_with l n o).standing ≡ Nothing
alone_silent true n o h = refl
alone_silent false true (Some r) h = absurd (cc)
alone_silent false false (Some r) h = absurd (cc)
alone_silent false true None h = refl
alone_silent false false None h = absurd (cc)

silent_to : (k : Option Key) (t : Option Triple) (kind : Kind) (lead : List ℕ) → (join k t kind lead).standing ≡ Nothing
    → (t ≡ None) × IsTrue (is_silent k || is_unfilled k kind lead)
silent_to None (Some t) kind lead e = absurd (cc)
silent_to None None kind lead e = (refl, refl)
silent_to (Some k) (Some t) kind lead e = absurd (not_silent_with k t (reading_of k.readings t lead) e)
silent_to (Some k) None kind lead e = (refl, silent_alone (is_loose k.usage) (is_empty kind) (reading_without k.readings kind lead) e)

silent_from : (k : Option Key) (t : Option Triple) (kind : Kind) (lead : List ℕ) → (t ≡ None) × IsTrue (is_silent k || is_unfilled k kind lead)
    → (join k t kind lead).standing ≡ Nothing
silent_from None (Some t) kind lead h = absurd (let e = h.0 in cc)
silent_from None None kind lead h = refl
silent_from (Some k) (Some t) kind lead h = absurd (let e = h.0 in cc)
silent_from (Some k) None kind lead h = alone_silent (is_loose k.usage) (is_empty kind) (reading_without k.readings kind lead) h.1

pub silence_exact : SilenceIsExact
silence_exact k t kind lead = (silent_to k t kind lead, silent_from k t kind lead)

-- no reading takes the type
none_takes : (t : Triple) (lead : List ℕ) (readings : List Reading) → IsTrue (list_all (λ r. not (takes t r)) readings) → reading_of readings t lead ≡ None
none_takes t lead [] h = refl
none_takes t lead (r ∷ readings) h =
    let parts = and_parts (not (takes t r)) (list_all (λ r. not (takes t r)) readings) h in
    elim (cases_Bool (takes t r)) [
      | inl on ↦ absurd (let wrong : IsTrue (not true) = rw on at parts.0 in cc)
      | inr off ↦ elim (cases_Bool (fits lead r)) [
        | inl fit ↦ rw (fit, off) (none_takes t lead readings parts.1)
        | inr other ↦ rw other (none_takes t lead readings parts.1)
      ]
    ]

contradicted : (k : Key) (t : Triple) (o : Option Reading) → is_free k.usage t ≡ false → is_finer_text t k.readings ≡ false → o ≡ None
    → joined_with k t o ≡ answer Contradicts (Some (of_bytes t))
contradicted k t (Some r) claimed other e = absurd (cc)
contradicted k t None claimed other e = rw (claimed, other) refl

pub lies_visible : LiesStayVisible
lies_visible k t kind lead claimed other h = contradicted k t (reading_of k.readings t lead) claimed other (none_takes t lead k.readings h)

-- without leads
fits_any : (lead : List ℕ) (r : Reading) (leads : List (List ℕ)) → r.leads ≡ leads → IsTrue (has_no_leads leads) → fits lead r ≡ true
fits_any lead r [] e h = rw e refl
fits_any lead r (x ∷ leads) e h = absurd (cc)

same_find : (p q : Reading → Bool) (readings : List Reading) → IsTrue (list_all (λ r. has_no_leads r.leads) readings)
    → ((r : Reading) → IsTrue (has_no_leads r.leads) → p r ≡ q r) → find p readings ≡ find q readings
same_find p q [] h same = refl
same_find p q (r ∷ readings) h same =
    let parts = and_parts (has_no_leads r.leads) (list_all (λ r. has_no_leads r.leads) readings) h in
    let here = same r parts.0 in
    let later = same_find p q readings parts.1 same in
    elim (cases_Bool (q r)) [
      | inl on ↦ rw (here, on) refl
      | inr off ↦ rw (here, off) later
    ]

any_lead : (k : Key) (t : Option Triple) (kind : Kind) (lead other : List ℕ) → IsTrue (list_all (λ r. has_no_leads r.leads) k.readings)
    → join (Some k) t kind lead ≡ join (Some k) t kind other
any_lead k (Some t) kind lead other h =
    ap (joined_with k t) (same_find (λ r. fits lead r && takes t r) (λ r. fits other r && takes t r) k.readings h
    (λ r none. ap (λ f. f && takes t r) (fits_any lead r r.leads refl none ∙ sym (fits_any other r r.leads refl none))))
any_lead k None kind lead other h =
    ap (alone_with (is_loose k.usage) (is_empty kind)) (same_find (λ r. fits lead r && admits r.asks kind) (λ r. fits other r && admits r.asks kind) k.readings h
    (λ r none. ap (λ f. f && admits r.asks kind) (fits_any lead r r.leads refl none ∙ sym (fits_any other r r.leads refl none))))

any_kind : (k : Option Key) (t : Triple) (kind other : Kind) (lead : List ℕ) → join k (Some t) kind lead ≡ join k (Some t) other lead
any_kind None t kind other lead = refl
any_kind (Some k) t kind other lead = refl

pub only_three : OnlyThreeCount
only_three = record { no_kind = any_kind; no_lead = any_lead }

-- bytes have one wider answer
pub one_wider : (b : List ℕ) (t u : Option Triple) → IsWiderAnswer b t → IsWiderAnswer b u → t ≡ u
one_wider b t u f g =
    let v = f.is_wider in
    let w = g.is_wider in
    let parent = IsFirstOf-same (Accepts b) table v.parent w.parent v.answers w.answers in
    let found = IsFirstOf-same (Widens w.parent b) further v.found w.found (subst (λ p. IsFirstOf (Widens p b) further v.found) parent v.widens) w.widens in
    f.is_shown ∙ (ap shown_at (v.is ∙ (ap (λ p. wider p v.found) parent ∙ (ap (wider w.parent) found ∙ sym w.is))) ∙ sym g.is_shown)

pub key_counts : OnlyTheKeyCounts
key_counts name other b n m kind is f g same =
    f.is kind is ∙ (ap (λ k. join k f.wider kind (lead_of b)) same
    ∙ (ap (λ t. join (key_of m) t kind (lead_of b)) (one_wider b f.wider g.wider f.is_wider g.is_wider) ∙ sym (g.is kind is)))

-- leads
taken : (x : ℕ) (u m : List ℕ) → length (take 2 (x ∷ u)) ≡ 2 → take 2 (x ∷ (u ++ m)) ≡ take 2 (x ∷ u)
taken x [] m e = absurd (cc)
taken x (y ∷ u) m e = refl

lead_stays : (u m : List ℕ) → length (take 2 (without_white u)) ≡ 2 → take 2 (without_white (u ++ m)) ≡ take 2 (without_white u)
lead_stays [] m e = absurd (cc)
lead_stays (x ∷ u) m e = elim (cases_Bool (is_white x)) [
  | inl white ↦ rw white (lead_stays u m (rw white at e))
  | inr dark ↦ rw dark (taken x u m (rw dark at e))
]

-- what follows the marks, with more bytes
abbrev unmarked_by : Bool → Bool → List ℕ → List ℕ
unmarked_by utf8 utf16 b = if utf8 then drop 3 b else (if utf16 then shown true (drop 2 b) else b)

more_by : (utf8 utf16 : Bool) (x y z : ℕ) (rest more : List ℕ)
    → (m : List ℕ) × (unmarked_by utf8 utf16 (x ∷ y ∷ z ∷ (rest ++ more)) ≡ unmarked_by utf8 utf16 (x ∷ y ∷ z ∷ rest) ++ m)
more_by true utf16 x y z rest more = (more, refl)
more_by false true x y z rest more = (shown true more, filter-append (λ x. not (x == 0)) (z ∷ rest) more)
more_by false false x y z rest more = (more, refl)

more_of_two : (utf8 utf16 : Bool) (x y : ℕ) (more : List ℕ) → utf8 ≡ false
    → (m : List ℕ) × (unmarked_by utf8 utf16 (x ∷ y ∷ more) ≡ unmarked_by false utf16 (x ∷ y ∷ []) ++ m)
more_of_two true utf16 x y more e = absurd (cc)
more_of_two false true x y more e = (shown true more, refl)
more_of_two false false x y more e = (more, refl)

short_lead : (utf8 utf16 : Bool) (x : ℕ) → length (take 2 (without_white (unmarked_by utf8 utf16 (x ∷ [])))) ≢ 2
short_lead true utf16 x e = absurd (cc)
short_lead false true x e = absurd (cc)
short_lead false false x e = elim (cases_Bool (is_white x)) [
  | inl white ↦ absurd (let none : 0 ≡ 2 = rw white at e in cc)
  | inr dark ↦ absurd (let one : 1 ≡ 2 = rw dark at e in cc)
]

abbrev has_mark : List ℕ → Bool
has_mark b = starts_with nat_eq b (0xEF ∷ 0xBB ∷ 0xBF ∷ [])

abbrev is_wide : List ℕ → Bool
is_wide b = starts_with nat_eq b (0xFF ∷ 0xFE ∷ []) || starts_with nat_eq b (0xFE ∷ 0xFF ∷ [])

-- the mark of UTF-8 comes to two bytes only if they are its first two
no_mark : (x y : ℕ) (more : List ℕ) → (x ∷ y ∷ []) ≢ (0xEF ∷ 0xBB ∷ []) → has_mark (x ∷ y ∷ more) ≡ false
no_mark x y more other = elim (cases_Bool (nat_eq 0xEF x)) [
  | inl first ↦ elim (cases_Bool (nat_eq 0xBB y)) [
    | inl second ↦ absurd (let a : 0xEF ≡ x = eqb-true _ _ first in let b : 0xBB ≡ y = eqb-true _ _ second in other (cc))
    | inr off ↦ rw (first, off) refl
  ]
  | inr off ↦ rw off refl
]

pub leads_last : LeadsLast
leads_last [] more e other = absurd (cc)
leads_last (x ∷ []) more e other = absurd (short_lead (has_mark (x ∷ [])) (is_wide (x ∷ [])) x e)
leads_last (x ∷ y ∷ []) more e other =
    let (m, same) = more_of_two (has_mark (x ∷ y ∷ more)) (is_wide (x ∷ y ∷ [])) x y more (no_mark x y more other) in
    let short : unmarked (x ∷ y ∷ []) ≡ unmarked_by false (is_wide (x ∷ y ∷ [])) (x ∷ y ∷ []) = ap (λ u. unmarked_by u (is_wide (x ∷ y ∷ [])) (x ∷ y ∷ [])) (no_mark x y [] other) in
    let long : length (take 2 (without_white (unmarked_by false (is_wide (x ∷ y ∷ [])) (x ∷ y ∷ [])))) ≡ 2 = subst (λ u. length (take 2 (without_white u)) ≡ 2) short e in
    ap (λ u. take 2 (without_white u)) same ∙ (lead_stays (unmarked_by false (is_wide (x ∷ y ∷ [])) (x ∷ y ∷ [])) m long ∙ ap (λ u. take 2 (without_white u)) (sym short))
leads_last (x ∷ y ∷ z ∷ rest) more e other =
    let (m, same) = more_by (has_mark (x ∷ y ∷ z ∷ rest)) (is_wide (x ∷ y ∷ z ∷ rest)) x y z rest more in
    ap (λ u. take 2 (without_white u)) same ∙ lead_stays (unmarked (x ∷ y ∷ z ∷ rest)) m e

-- kinds
no_text_comes : (b more : List ℕ) → All (λ x. x < 256) more → b ≢ [] → (¬ IsText b) → ¬ IsText (b ++ more)
no_text_comes [] more bytes some not-text is = some refl
no_text_comes (x ∷ b) more bytes some not-text is = elim (text_may (x ∷ b) (more, bytes, is)) [
  | inl empty ↦ absurd (omega (arith, empty))
  | inr text ↦ not-text text
]

zero_stays : (b more : List ℕ) → HasZero b → HasZero (b ++ more)
zero_stays b more (k, lt, zero_byte) = (k, omega (arith, length-append b more), get_or_append_left b more 0 k lt ∙ zero_byte)

not_empty : (b more : List ℕ) → b ≢ [] → (b ++ more) ≢ []
not_empty [] more some e = some refl
not_empty (x ∷ b) more some e = absurd (cc)

pub kinds_last : KindsLast
kinds_last = record {
  no_text = no_text_comes;
  binary = λ b more bytes h. (not_empty b more h.0, no_text_comes b more bytes h.0 h.1, zero_stays b more h.2);
}

-- a lead that stays changes nothing
no_lead_counts : (k : Option Key) (t : Option Triple) (kind : Kind) (lead other : List ℕ) → IsTrue (has_no_lead k) → join k t kind lead ≡ join k t kind other
no_lead_counts None t kind lead other h = refl
no_lead_counts (Some k) t kind lead other h = any_lead k t kind lead other h

same_lead : (k : Option Key) (t : Option Triple) (kind : Kind) (b more : List ℕ) → LeadStays k b → join k t kind (lead_of b) ≡ join k t kind (lead_of (b ++ more))
same_lead k t kind b more (inl (two, apart)) = ap (join k t kind) (sym (leads_last b more two apart))
same_lead k t kind b more (inr none) = no_lead_counts k t kind (lead_of b) (lead_of (b ++ more)) none

pub answers_last : AnswersLast
answers_last name renamed b more n m t kind other is later f g wide wider_later stays same =
    let w = one_wider b f.wider (Some t) f.is_wider wide in
    let v = one_wider (b ++ more) g.wider (Some t) g.is_wider wider_later in
    f.is kind is ∙ (ap (λ k. join k f.wider kind (lead_of b)) same ∙ (ap (λ o. join (key_of m) o kind (lead_of b)) w
    ∙ (any_kind (key_of m) t kind other (lead_of b) ∙ (same_lead (key_of m) (Some t) other b more (subst (λ k. LeadStays k b) same stays)
    ∙ (ap (λ o. join (key_of m) o other (lead_of (b ++ more))) (sym v) ∙ sym (g.is other later))))))

pub answers_last_by_kind : AnswersLastByKind
answers_last_by_kind name renamed b more n m o kind is later f g wide wider_later stays same =
    let w = one_wider b f.wider o f.is_wider wide in
    let v = one_wider (b ++ more) g.wider o g.is_wider wider_later in
    f.is kind is ∙ (ap (λ k. join k f.wider kind (lead_of b)) same ∙ (ap (λ p. join (key_of m) p kind (lead_of b)) w
    ∙ (same_lead (key_of m) o kind b more (subst (λ k. LeadStays k b) same stays)
    ∙ (ap (λ p. join (key_of m) p kind (lead_of (b ++ more))) (sym v) ∙ sym (g.is kind later)))))

-- what is no text stays of its kind, or becomes binary
kind_moves : (b more : List ℕ) (kind other : Kind) → All (λ x. x < 256) more → b ≢ [] → (¬ IsText b) → IsKind b kind → IsKind (b ++ more) other
    → (other ≡ kind) ⊎ (other ≡ Binary)
kind_moves b more Empty other bytes some marked is later = absurd (some is)
kind_moves b more Text other bytes some marked is later = absurd (marked is.1)
kind_moves b more Binary Empty bytes some marked is later = absurd (not_empty b more some later)
kind_moves b more Binary Text bytes some marked is later = absurd (no_text_comes b more bytes some marked later.1)
kind_moves b more Binary Binary bytes some marked is later = inr refl
kind_moves b more Binary Marked bytes some marked is later = absurd (later.2 (zero_stays b more is.2))
kind_moves b more Marked Empty bytes some marked is later = absurd (not_empty b more some later)
kind_moves b more Marked Text bytes some marked is later = absurd (no_text_comes b more bytes some marked later.1)
kind_moves b more Marked Binary bytes some marked is later = inr refl
kind_moves b more Marked Marked bytes some marked is later = inl refl

-- what bytes lead with stays with more of them: more than EF BB are these only if they are
two_apart : (b more : List ℕ) → length (lead_of b) ≡ 2 → b ≢ (0xEF ∷ 0xBB ∷ []) → (b ++ more) ≢ (0xEF ∷ 0xBB ∷ [])
two_apart [] more two apart e = absurd (cc)
two_apart (x ∷ []) more two apart e = short_lead (has_mark (x ∷ [])) (is_wide (x ∷ [])) x two
two_apart (x ∷ y ∷ []) more two apart e = absurd (let none : more ≡ [] = cc in apart (cc))
two_apart (x ∷ y ∷ z ∷ rest) more two apart e = absurd (cc)

stays_longer : (k : Option Key) (b more : List ℕ) → LeadStays k b → LeadStays k (b ++ more)
stays_longer k b more (inl (two, apart)) = inl (ap length (leads_last b more two apart) ∙ two, two_apart b more two apart)
stays_longer k b more (inr none) = inr none

pub changes_once : ChangesOnce
changes_once name renamed again b more most n m l kind other last bytes rest is later latest marked f g h wide wide_later widest some stays same anew =
    elim (kind_moves b more kind other bytes some marked is later) [
      | inl kept ↦ inl (answers_last_by_kind name renamed b more n m None kind is (subst (λ k. IsKind (b ++ more) k) kept later) f g wide wide_later stays same)
      | inr binary ↦ (let zero : IsKind (b ++ more) Binary = subst (λ k. IsKind (b ++ more) k) binary later in
          let still : IsKind ((b ++ more) ++ most) Binary = kinds_last.binary (b ++ more) most rest zero in
          let lead = stays_longer (key_of m) b more (subst (λ k. LeadStays k b) same stays) in
          inr (answers_last_by_kind renamed again (b ++ more) most m l None Binary zero still g h wide_later widest lead anew))
    ]

pub decided_answers_last : DecidedAnswersLast
decided_answers_last name renamed b more n m t kind other decided buffer is later f g wide stays same =
    let wide_later : IsWiderAnswer (b ++ more) (Some t) = record {
      number = wide.number;
      is_wider = decided more wide.number buffer wide.is_wider;
      is_shown = wide.is_shown;
    } in
    answers_last name renamed b more n m t kind other is later f g wide wide_later stays same
