-- The tags of HTML: rows that the standard has of them, and the texts that begin with one.
use Rattle.std.proofs.Common.{◌≡◌, ◌∙◌, ◌↔◌, ◌⊎◌, inl, inr, ◌==◌, ◌&&◌, ◌||◌, ℕ, zero, suc, ◌+◌, ◌<◌, ◌≤◌, Bool, true, false, not, List, [], ◌∷◌, ◌++◌, ◌%◌, Any, Bor, IfSome, Option, None, Some, ap, arith, bit_and, get_or, length, length-append, map, option_map, nat_le, nat_lt, refl, subst, sym, take}
use Rattle.std.proofs.lemmas.Bool.{and_parts, cases_lt, eq-eqb, eqb-true, false≢true, le-leb, leb-true, lt-ltb, ltb-true}
use Rattle.std.proofs.lemmas.Grind.{and_numeral, same_number_lists}
use Rattle.std.proofs.lemmas.Nat.{and_assoc}
use Rattle.std.proofs.Math.ListN as numbers
use Rattle.std.proofs.lemmas.List.{append-nil, get_or-map, get_or-take, length-map, length-take-le, map-append}
use Rattle.std.proofs.lemmas.List.Folds.{Any-from_list_any, list_any-from_Any}
use Rattle.std.proofs.lemmas.List.Sums.{AllPass-from_list_all}
use Rattle.std.proofs.lemmas.Slice.Eq.{bytes_eq-Decides}
use Rattle.std.specs.Char.{to_ascii_lowercase}
use Rattle.std.specs.List.{list_all, list_any}
use Rattle.std.specs.Str.{bytes_eq}
use Rattle.infer_deep.specs.Joined.{NoneBegins, SkipsTo}
use Rattle.infer_deep.specs.Signatures.{MayBecome}
use Rattle.infer_deep.specs.Text.{BeginsInAnyCase, BeginsWithTag, IsHtml, IsSpace, tags}
use Rattle.infer_deep.proofs.JoinedLemmas.{SkipsTo-none}
use Rattle.infer_deep.proofs.TextLemmas.{HasTag, HasTag-open, IsHtml-left, begins_in_any_case, front_in_any_case, is_html_open, tag_end, tag_from_text, text_of_tag}
use Rattle.mime_sniff.specs.Growth.{FitForGood, found_or_else}
use Rattle.mime_sniff.specs.Row.{EndsTag, Fits, FitsAfter, HasBits, Pattern, mask_at}
use Rattle.mime_sniff.specs.Rule.{Accepts, FitsRule, FitsSignature, IsAccepted, Rule, Signature, FindsFirst, fixed, mp3, mp4, mp4_of_any_box, no_data, webm}
use Rattle.mime_sniff.specs.Table.{markup_rules, tag_rules, xml_rules}
use Rattle.mime_sniff.proofs.FirstLemmas.{finds_here, finds_later, finds_left, finds_none, finds_right}
use Rattle.mime_sniff.proofs.GrowthLemmas.{fits_grown}
use Rattle.mime_sniff.proofs.RuleLemmas.{bytes_after, is_markup_rule, is_markup_signature}

-- a test that all numbers below n pass
abbrev pub below : ℕ → (ℕ → Bool) → Bool
below zero test = true
below (suc n) test = test n && below n test

pub below_at : (n : ℕ) (test : ℕ → Bool) → below n test ≡ true → (x : ℕ) → x < n → test x ≡ true
below_at zero test all x within = absurd (omega (arith, within))
below_at (suc n) test all x within =
    let parts = and_parts (test n) (below n test) all in
    elim (cases_lt x n) [
      | inl less ↦ below_at n test parts.1 x less
      | inr more ↦ let same : n ≡ x = omega (arith, within, more) in subst (λ y. test y ≡ true) same parts.0
    ]

abbrev pub agree : Bool → Bool → Bool
agree true b = b
agree false b = not b

agree_both : (a b : Bool) → agree a b ≡ true → (a ≡ true) ↔ (b ≡ true)
agree_both true b is = (λ e. is, λ e. refl)
agree_both false true is = absurd (false≢true is)
agree_both false false is = (λ e. e, λ e. e)

-- a byte has the bits that the mask asks just if it is that of the tag in either case
abbrev pub suits : ℕ → ℕ → Bool
suits mask p = below 256 (λ x. agree (bit_and x mask == p) (to_ascii_lowercase x == to_ascii_lowercase p))

byte_suits : (mask p x : ℕ) → suits mask p ≡ true → x < 256 → (bit_and x mask ≡ p) ↔ (to_ascii_lowercase x ≡ to_ascii_lowercase p)
byte_suits mask p x is byte =
    let both = agree_both (bit_and x mask == p) (to_ascii_lowercase x == to_ascii_lowercase p)
    (below_at 256 (λ y. agree (bit_and y mask == p) (to_ascii_lowercase y == to_ascii_lowercase p)) is x byte) in
    (λ e. eqb-true _ _ (both.0 (eq-eqb _ _ e)), λ e. eqb-true _ _ (both.1 (eq-eqb _ _ e)))

abbrev pub pattern_suits : Pattern → Bool
pattern_suits p = below (length p.bytes) (λ i. suits (mask_at p.mask i) (get_or p.bytes i 0))

module _ (t : List ℕ) (bytes : (i : ℕ) → get_or t i 0 < 256) (p : Pattern) (is : pattern_suits p ≡ true) where
  abbrev word : List ℕ
  word = p.bytes

  abbrev lower : List ℕ → List ℕ
  lower s = map to_ascii_lowercase s

  at_place : (i : ℕ) → i < length word → (bit_and (get_or t i 0) (mask_at p.mask i) ≡ get_or word i 0) ↔ (to_ascii_lowercase (get_or t i 0) ≡ to_ascii_lowercase (get_or word i 0))
  at_place i within =
      byte_suits (mask_at p.mask i) (get_or word i 0) (get_or t i 0)
      (below_at (length word) (λ k. suits (mask_at p.mask k) (get_or word k 0)) is i within) (bytes i)

  module _ (long : length word ≤ length t) where
    front_long : length (take (length word) t) ≡ length word
    front_long = length-take-le (length word) t long

    lower_at : (i : ℕ) → i < length word → get_or (lower (take (length word) t)) i 0 ≡ to_ascii_lowercase (get_or t i 0)
    lower_at i within =
        get_or-map to_ascii_lowercase (take (length word) t) i 0 0 (omega (arith, front_long, within))
        ∙ ap to_ascii_lowercase (get_or-take (length word) t i 0 within)

    begins : HasBits p t → BeginsInAnyCase word t
    begins same =
        begins_in_any_case t word
        (same_number_lists (lower (take (length word) t)) (lower word) (length-map (take (length word) t) to_ascii_lowercase ∙ (front_long ∙ sym (length-map word to_ascii_lowercase)))
        (λ k within.
        let here : k < length word = omega (arith, within, length-map (take (length word) t) to_ascii_lowercase, front_long) in
        lower_at k here ∙ ((at_place k here).0 (same k here) ∙ sym (get_or-map to_ascii_lowercase word k 0 0 here))))

    has_bits : BeginsInAnyCase word t → HasBits p t
    has_bits h = λ i within.
        (at_place i within).1 (sym (lower_at i within) ∙ (ap (λ l. get_or l i 0) (front_in_any_case t word h) ∙ get_or-map to_ascii_lowercase word i 0 0 within))

  -- the rows' pattern fits what begins with the tag
  pub tag_fits : p.ends_tag ≡ true → BeginsWithTag word t ↔ Fits p t
  tag_fits ends = (
    λ h.
        let same : length h.word ≡ length word = sym (length-map h.word to_ascii_lowercase) ∙ (ap length h.same ∙ length-map word to_ascii_lowercase) in
        let whole : length t ≡ length h.word + suc (length h.rest) = ap length h.whole ∙ length-append h.word (h.end ∷ h.rest) in
        let long : length word < length t = omega (arith, same, whole) in
        record {
          long = omega (arith, long);
          same = has_bits (omega (arith, long)) (text_of_tag t word h);
          ends = λ e. (long, tag_end t [] word (subst (BeginsWithTag word) (sym (append-nil t)) h) long);
        },
    λ f. let e = f.ends ends in tag_from_text t word e.0 e.1 (begins f.long f.same),
  )

-- whether a pattern fits a text
below_all : (n : ℕ) (test : ℕ → Bool) → ((x : ℕ) → x < n → test x ≡ true) → below n test ≡ true
below_all zero test all = refl
below_all (suc n) test all = both (all n (omega arith)) (below_all n test (λ x within. all x (omega (arith, within))))
  where
    both : test n ≡ true → below n test ≡ true → (test n && below n test) ≡ true
    both e f = rw e f

abbrev ends_by : Bool → List ℕ → ℕ → Bool
ends_by true t n = nat_lt n (length t) && (get_or t n 0 == 0x20 || get_or t n 0 == 0x3E)
ends_by false t n = true

or_cases : (a b : Bool) → (a || b) ≡ true → (a ≡ true) ⊎ (b ≡ true)
or_cases true b e = inl refl
or_cases false b e = inr e

pub or_left : (a b : Bool) → a ≡ true → (a || b) ≡ true
or_left true b e = refl
or_left false b e = absurd (false≢true e)

or_right : (a b : Bool) → b ≡ true → (a || b) ≡ true
or_right true b e = refl
or_right false b e = e

pub and_both : (a b : Bool) → a ≡ true → b ≡ true → (a && b) ≡ true
and_both true b e f = f
and_both false b e f = absurd (false≢true e)

ends_told : (ends : Bool) (t : List ℕ) (n : ℕ) → ends_by ends t n ≡ true → ends ≡ true → EndsTag t n
ends_told true t n is e =
    let parts = and_parts (nat_lt n (length t)) (get_or t n 0 == 0x20 || get_or t n 0 == 0x3E) is in
    (ltb-true n (length t) parts.0, elim (or_cases (get_or t n 0 == 0x20) (get_or t n 0 == 0x3E) parts.1) [ inl a ↦ inl (eqb-true _ _ a) | inr b ↦ inr (eqb-true _ _ b) ])
ends_told false t n is e = absurd (false≢true e)

ends_tested : (ends : Bool) (t : List ℕ) (n : ℕ) → (ends ≡ true → EndsTag t n) → ends_by ends t n ≡ true
ends_tested true t n h =
    let (within, byte) = h refl in
    and_both (nat_lt n (length t)) (get_or t n 0 == 0x20 || get_or t n 0 == 0x3E) (lt-ltb n (length t) within)
    (elim byte [ inl a ↦ or_left _ _ (eq-eqb _ _ a) | inr b ↦ or_right (get_or t n 0 == 0x20) _ (eq-eqb _ _ b) ])
ends_tested false t n h = refl

abbrev has_bits_at : Pattern → List ℕ → ℕ → Bool
has_bits_at p t i = bit_and (get_or t i 0) (mask_at p.mask i) == get_or p.bytes i 0

abbrev fits_test : Pattern → List ℕ → Bool
fits_test p t = nat_le (length p.bytes) (length t) && (below (length p.bytes) (has_bits_at p t) && ends_by p.ends_tag t (length p.bytes))

test_fits : (p : Pattern) (t : List ℕ) → fits_test p t ≡ true → Fits p t
test_fits p t is =
    let parts = and_parts (nat_le (length p.bytes) (length t)) (below (length p.bytes) (has_bits_at p t) && ends_by p.ends_tag t (length p.bytes)) is in
    let more = and_parts (below (length p.bytes) (has_bits_at p t)) (ends_by p.ends_tag t (length p.bytes)) parts.1 in
    record {
      long = leb-true (length p.bytes) (length t) parts.0;
      same = λ i within. eqb-true _ _ (below_at (length p.bytes) (has_bits_at p t) more.0 i within);
      ends = λ e. ends_told p.ends_tag t (length p.bytes) more.1 e;
    }

fits_tested : (p : Pattern) (t : List ℕ) → Fits p t → fits_test p t ≡ true
fits_tested p t f =
    and_both (nat_le (length p.bytes) (length t)) _ (le-leb (length p.bytes) (length t) f.long)
    (and_both (below (length p.bytes) (has_bits_at p t)) _ (below_all (length p.bytes) (has_bits_at p t) (λ i within. eq-eqb _ _ (f.same i within)))
    (ends_tested p.ends_tag t (length p.bytes) (λ e. f.ends e)))

abbrev rule_test : List ℕ → Signature → Bool
rule_test t (fixed p) = fits_test p t
rule_test t other = false

abbrev is_fitting : List ℕ → Rule → Bool
is_fitting t r = rule_test t r.signature

test_rule : (t : List ℕ) (s : Signature) → rule_test t s ≡ true → FitsSignature t s
test_rule t (fixed p) is = test_fits p t is
test_rule t mp4 is = absurd (false≢true is)
test_rule t mp4_of_any_box is = absurd (false≢true is)
test_rule t webm is = absurd (false≢true is)
test_rule t mp3 is = absurd (false≢true is)
test_rule t no_data is = absurd (false≢true is)

rule_tested : (t : List ℕ) (s : Signature) → FitsSignature t s → rule_test t s ≡ true
rule_tested t (fixed p) f = fits_tested p t f
rule_tested t mp4 f = absurd f
rule_tested t mp4_of_any_box f = absurd f
rule_tested t webm f = absurd f
rule_tested t mp3 f = absurd f
rule_tested t no_data f = absurd f

-- of rules of one type that type is told if some rule fits, and else none
module _ (t html : List ℕ) where
  abbrev P : Rule → Type 0
  P = FitsRule t

  abbrev is_of_type : Rule → Bool
  is_of_type r = bytes_eq r.mime_type html

  some_cases : (r : Rule) (rules : List Rule) → is_of_type r ≡ true → (list_any (is_fitting t) rules ≡ true → FindsFirst P rules (Some html)) → (b : Bool)
      → is_fitting t r ≡ b → list_any (is_fitting t) (r ∷ rules) ≡ true → FindsFirst P (r ∷ rules) (Some html)
  some_cases r rules kind more true e any =
      subst (λ m. FindsFirst P (r ∷ rules) (Some m)) ((bytes_eq-Decides r.mime_type html).0 kind) (finds_here P r rules (test_rule t r.signature e))
  some_cases r rules kind more false e any =
      finds_later P r rules (Some html) (λ f. false≢true (sym e ∙ rule_tested t r.signature f))
      (more (ap (λ b. b || list_any (is_fitting t) rules) (sym e) ∙ any))

  pub finds_some : (rules : List Rule) → list_all is_of_type rules ≡ true → list_any (is_fitting t) rules ≡ true → FindsFirst P rules (Some html)
  finds_some [] all any = absurd (false≢true any)
  finds_some (r ∷ rules) all any =
      let parts = and_parts (is_of_type r) (list_all is_of_type rules) all in
      some_cases r rules parts.0 (finds_some rules parts.1) (is_fitting t r) refl any

  no_cases : (r : Rule) (rules : List Rule) → (list_any (is_fitting t) rules ≡ false → FindsFirst P rules None) → (b : Bool) → is_fitting t r ≡ b
      → list_any (is_fitting t) (r ∷ rules) ≡ false → FindsFirst P (r ∷ rules) None
  no_cases r rules more true e any = absurd (false≢true (sym any ∙ ap (λ b. b || list_any (is_fitting t) rules) e))
  no_cases r rules more false e any =
      finds_later P r rules None (λ f. false≢true (sym e ∙ rule_tested t r.signature f))
      (more (ap (λ b. b || list_any (is_fitting t) rules) (sym e) ∙ any))

  pub finds_no : (rules : List Rule) → list_any (is_fitting t) rules ≡ false → FindsFirst P rules None
  finds_no [] any = finds_none P
  finds_no (r ∷ rules) any = no_cases r rules (finds_no rules) (is_fitting t r) refl any

-- each tag has its rule
abbrev rule_of_tag : List ℕ → Signature → Bool
rule_of_tag tag (fixed p) = bytes_eq p.bytes tag && (p.ends_tag && pattern_suits p)
rule_of_tag tag other = false

abbrev rules_of_tags : List (List ℕ) → List Rule → Bool
rules_of_tags [] [] = true
rules_of_tags [] (r ∷ rules) = false
rules_of_tags (tag ∷ ts) [] = false
rules_of_tags (tag ∷ ts) (r ∷ rules) = rule_of_tag tag r.signature && rules_of_tags ts rules

module _ (t : List ℕ) (bytes : (i : ℕ) → get_or t i 0 < 256) where
  signature_fits : (tag : List ℕ) (s : Signature) → rule_of_tag tag s ≡ true → BeginsWithTag tag t ↔ FitsSignature t s
  signature_fits tag (fixed p) is =
      let parts = and_parts (bytes_eq p.bytes tag) (p.ends_tag && pattern_suits p) is in
      let more = and_parts p.ends_tag (pattern_suits p) parts.1 in
      subst (λ g. BeginsWithTag g t ↔ Fits p t) ((bytes_eq-Decides p.bytes tag).0 parts.0) (tag_fits t bytes p more.1 more.0)
  signature_fits tag mp4 is = absurd (false≢true is)
  signature_fits tag mp4_of_any_box is = absurd (false≢true is)
  signature_fits tag webm is = absurd (false≢true is)
  signature_fits tag mp3 is = absurd (false≢true is)
  signature_fits tag no_data is = absurd (false≢true is)

  abbrev Begins : List (List ℕ) → Type 0
  Begins ts = Any (λ tag. BeginsWithTag tag t) ts

  rule_cases : (tag : List ℕ) (ts : List (List ℕ)) (r : Rule) (rules : List Rule) → rule_of_tag tag r.signature ≡ true
      → (list_any (is_fitting t) rules ≡ true → Begins ts) → (b : Bool) → is_fitting t r ≡ b → list_any (is_fitting t) (r ∷ rules) ≡ true → Begins (tag ∷ ts)
  rule_cases tag ts r rules is more true e any = (0, tag, omega arith, refl, (signature_fits tag r.signature is).1 (test_rule t r.signature e))
  rule_cases tag ts r rules is more false e any =
      let (k, other, within, at, h) = more (ap (λ b. b || list_any (is_fitting t) rules) (sym e) ∙ any) in
      (suc k, other, omega (arith, within), at, h)

  pub tag_of_rule : (ts : List (List ℕ)) (rules : List Rule) → rules_of_tags ts rules ≡ true → list_any (is_fitting t) rules ≡ true → Begins ts
  tag_of_rule [] [] is any = absurd (false≢true any)
  tag_of_rule [] (r ∷ rules) is any = absurd (false≢true is)
  tag_of_rule (tag ∷ ts) [] is any = absurd (false≢true is)
  tag_of_rule (tag ∷ ts) (r ∷ rules) is any =
      let parts = and_parts (rule_of_tag tag r.signature) (rules_of_tags ts rules) is in
      rule_cases tag ts r rules parts.0 (tag_of_rule ts rules parts.1) (is_fitting t r) refl any

  pub rule_of_any : (ts : List (List ℕ)) (rules : List Rule) → rules_of_tags ts rules ≡ true → Begins ts → list_any (is_fitting t) rules ≡ true
  rule_of_any [] rules is (k, tag, within, at, h) = absurd (omega (arith, within))
  rule_of_any (tag ∷ ts) [] is any = absurd (false≢true is)
  rule_of_any (tag ∷ ts) (r ∷ rules) is (zero, other, within, at, h) =
      let parts = and_parts (rule_of_tag tag r.signature) (rules_of_tags ts rules) is in
      or_left (is_fitting t r) (list_any (is_fitting t) rules)
      (rule_tested t r.signature ((signature_fits tag r.signature parts.0).0 (subst (λ g. BeginsWithTag g t) (sym at) h)))
  rule_of_any (tag ∷ ts) (r ∷ rules) is (suc k, other, within, at, h) =
      let parts = and_parts (rule_of_tag tag r.signature) (rules_of_tags ts rules) is in
      or_right (is_fitting t r) (list_any (is_fitting t) rules) (rule_of_any ts rules parts.1 (k, other, omega (arith, within), at, h))

tags_have_rules : (html : List ℕ) → rules_of_tags tags (tag_rules html) ≡ true
unfolding tag_rules
tags_have_rules html = refl

all_of_type : (html : List ℕ) → list_all (λ r. bytes_eq r.mime_type html) (tag_rules html) ≡ true
unfolding tag_rules
all_of_type html = rw ((bytes_eq-Decides html html).1 refl) refl

-- more rules fit if each does
more_fit : (f g test : Rule → Bool) → ((r : Rule) → test r ≡ true → f r ≡ true → g r ≡ true) → (rules : List Rule) → list_all test rules ≡ true
    → list_any f rules ≡ true → list_any g rules ≡ true
more_fit f g test more [] all any = any
more_fit f g test more (r ∷ rules) all any =
    let parts = and_parts (test r) (list_all test rules) all in
    elim (or_cases (f r) (list_any f rules) any) [
      | inl here ↦ or_left (g r) (list_any g rules) (more r parts.0 here)
      | inr later ↦ or_right (g r) (list_any g rules) (more_fit f g test more rules parts.1 later)
    ]

-- what fits goes on to fit
signature_grown : (t more : List ℕ) (s : Signature) → FitsSignature t s → FitsSignature (t ++ more) s
signature_grown t more (fixed p) f = fits_grown t more p f
signature_grown t more mp4 f = absurd f
signature_grown t more mp4_of_any_box f = absurd f
signature_grown t more webm f = absurd f
signature_grown t more mp3 f = absurd f
signature_grown t more no_data f = absurd f

all_true : (rules : List Rule) → list_all (λ r. true) rules ≡ true
all_true [] = refl
all_true (r ∷ rules) = all_true rules

-- of a number only the part that is a byte counts, since masks are bytes
abbrev byte : ℕ → ℕ
byte x = x % 256

abbrev masks_bytes : Signature → Bool
masks_bytes (fixed p) = below (length p.bytes) (λ i. bit_and 0xFF (mask_at p.mask i) == mask_at p.mask i)
masks_bytes other = false

masked : (m x : ℕ) → bit_and 0xFF m ≡ m → bit_and (byte x) m ≡ bit_and x m
masked m x is = ap (λ y. bit_and y m) (sym (and_numeral x 254 refl)) ∙ (and_assoc m x 0xFF ∙ ap (bit_and x) is)

read_byte : (u : List ℕ) (i : ℕ) → get_or (map byte u) i 0 ≡ byte (get_or u i 0)
read_byte u i = numbers.get_or-map byte u i 0

signature_of_bytes : (u : List ℕ) (s : Signature) → masks_bytes s ≡ true → FitsSignature u s → FitsSignature (map byte u) s
signature_of_bytes u (fixed p) is f = record {
  long = omega (arith, f.long, length-map u byte);
  same = λ i within.
      ap (λ x. bit_and x (mask_at p.mask i)) (read_byte u i)
      ∙ (masked (mask_at p.mask i) (get_or u i 0)
      (eqb-true _ _ (below_at (length p.bytes) (λ k. bit_and 0xFF (mask_at p.mask k) == mask_at p.mask k) is i within)) ∙ f.same i within);
  ends = λ e.
      let (within, end) = f.ends e in (
        omega (arith, within, length-map u byte),
        elim end [ inl a ↦ inl (read_byte u (length p.bytes) ∙ ap byte a) | inr b ↦ inr (read_byte u (length p.bytes) ∙ ap byte b) ],
      );
}
signature_of_bytes u mp4 is f = absurd f
signature_of_bytes u mp4_of_any_box is f = absurd f
signature_of_bytes u webm is f = absurd f
signature_of_bytes u mp3 is f = absurd f
signature_of_bytes u no_data is f = absurd f

tags_mask_bytes : (html : List ℕ) → list_all (λ r. masks_bytes r.signature) (tag_rules html) ≡ true
unfolding tag_rules
tags_mask_bytes html = refl

byte_itself : (x : ℕ) → x < 256 → byte x ≡ x
byte_itself x within = omega (arith, within)

module _ (text : List ℕ) (bytes : (i : ℕ) → get_or text i 0 < 256) (stops : NoneBegins IsSpace text) (html : List ℕ) where
  has_tag : HasTag text ↔ IsHtml text
  has_tag = IsHtml-left text text (SkipsTo-none IsSpace text) stops

  fitting : IsHtml text → list_any (is_fitting text) (tag_rules html) ≡ true
  fitting is = rule_of_any text bytes tags (tag_rules html) (tags_have_rules html) (has_tag.1 is)

  pub finds_html : IsHtml text → FindsFirst (FitsRule text) (tag_rules html) (Some html)
  finds_html is = finds_some text html (tag_rules html) (all_of_type html) (fitting is)

  pub finds_no_html : (¬ IsHtml text) → FindsFirst (FitsRule text) (tag_rules html) None
  finds_no_html not = finds_no text html (tag_rules html) (none (list_any (is_fitting text) (tag_rules html)) refl)
    where
      none : (b : Bool) → list_any (is_fitting text) (tag_rules html) ≡ b → b ≡ false
      none true e = absurd (not (has_tag.0 (tag_of_rule text bytes tags (tag_rules html) (tags_have_rules html) e)))
      none false e = refl

  -- whatever follows
  pub html_stays : IsHtml text → FitForGood text (tag_rules html) (Some html)
  html_stays is = λ more.
      finds_some (text ++ more) html (tag_rules html) (all_of_type html)
      (more_fit (is_fitting text) (is_fitting (text ++ more)) (λ r. true)
      (λ r e fits. rule_tested (text ++ more) r.signature (signature_grown text more r.signature (test_rule text r.signature fits)))
      (tag_rules html) (all_true (tag_rules html)) (fitting is))

  module _ (never : ¬ MayBecome IsHtml text) (more : List ℕ) where
    abbrev u : List ℕ
    u = text ++ more

    kept : map byte u ≡ text ++ map byte more
    kept =
        map-append byte text more
        ∙ ap (λ l. l ++ map byte more)
        (same_number_lists (map byte text) text (length-map text byte) (λ k within. read_byte text k ∙ byte_itself (get_or text k 0) (bytes k)))

    comes : HasTag (map byte u) → ⊥
    comes h =
        never ((is_html_open text text (SkipsTo-none IsSpace text) stops).0 (
          map byte more,
          λ k d within.
              subst (λ x. x < 256) (sym (get_or-map byte more k d d (omega (arith, within, length-map more byte)))) (is_byte (get_or more k d)),
          subst HasTag kept h,
        ))
      where
        is_byte : (x : ℕ) → byte x < 256
        is_byte x = omega arith

    all_bytes : (i : ℕ) → get_or (map byte u) i 0 < 256
    all_bytes i = subst (λ x. x < 256) (sym (read_byte u i)) (is_byte (get_or u i 0))
      where
        is_byte : (x : ℕ) → byte x < 256
        is_byte x = omega arith

    pub no_html_comes : FindsFirst (FitsRule u) (tag_rules html) None
    no_html_comes = finds_no u html (tag_rules html) (none (list_any (is_fitting u) (tag_rules html)) refl)
      where
        none : (b : Bool) → list_any (is_fitting u) (tag_rules html) ≡ b → b ≡ false
        none true e =
            absurd (comes (tag_of_rule (map byte u) all_bytes tags (tag_rules html) (tags_have_rules html)
            (more_fit (is_fitting u) (is_fitting (map byte u)) (λ r. masks_bytes r.signature)
            (λ r is fits. rule_tested (map byte u) r.signature (signature_of_bytes u r.signature is (test_rule u r.signature fits)))
            (tag_rules html) (tags_mask_bytes html) e)))
        none false e = refl

pub markup_is : (html xml : List ℕ) → list_all is_markup_rule (markup_rules html xml) ≡ true
unfolding tag_rules xml_rules
markup_is html xml = refl

-- what some rules and those after them tell for good
pub fit_both : (t : List ℕ) (xs ys : List Rule) (first after both : Option (Option (Bor (List ℕ)))) → both ≡ found_or_else first after
    → IfSome first (λ told. FitForGood t xs (option_map (λ s. s.now) told)) → IfSome after (λ told. FitForGood t ys (option_map (λ s. s.now) told))
    → IfSome both (λ told. FitForGood t (xs ++ ys) (option_map (λ s. s.now) told))
fit_both t xs ys first after both is h g =
    subst (λ o. IfSome o (λ told. FitForGood t (xs ++ ys) (option_map (λ s. s.now) told))) (sym is) (known first after h g)
  where
    right : (o : Option (Option (Bor (List ℕ)))) → FitForGood t xs None → IfSome o (λ told. FitForGood t ys (option_map (λ s. s.now) told))
        → IfSome o (λ told. FitForGood t (xs ++ ys) (option_map (λ s. s.now) told))
    right None h g = tt
    right (Some told) h g = λ more. finds_right (FitsRule (t ++ more)) xs ys (option_map (λ s. s.now) told) (h more) (g more)

    known : (first after : Option (Option (Bor (List ℕ)))) → IfSome first (λ told. FitForGood t xs (option_map (λ s. s.now) told))
        → IfSome after (λ told. FitForGood t ys (option_map (λ s. s.now) told))
        → IfSome (found_or_else first after) (λ told. FitForGood t (xs ++ ys) (option_map (λ s. s.now) told))
    known None after h g = tt
    known (Some None) after h g = right after h g
    known (Some (Some s)) after h g = λ more. finds_left (FitsRule (t ++ more)) xs ys s.now (h more)

tags_are_markup : (html : List ℕ) → list_all is_markup_rule (tag_rules html) ≡ true
unfolding tag_rules
tags_are_markup html = refl

-- a text after white space that fits the signature, and nothing but that is accepted
module _ (b : List ℕ) where
  abbrev FitsAfterWhite : Signature → Type 0
  FitsAfterWhite s = (text : List ℕ) × SkipsTo IsSpace b text × NoneBegins IsSpace text × FitsSignature text s

  white_pattern : (w : Bool) (p : Pattern) → w ≡ true → FitsAfter w p b ↔ FitsAfterWhite (fixed p)
  white_pattern true p e = (λ (text, skips, (stops, f)). (text, skips, stops, f), λ (text, skips, stops, f). (text, skips, (stops, f)))
  white_pattern false p e = absurd (false≢true e)

  markup_fits : (s : Signature) → is_markup_signature s ≡ true → IsAccepted s b ↔ FitsAfterWhite s
  markup_fits (fixed p) is = white_pattern p.ignores_white p (and_parts p.ignores_white _ is).0
  markup_fits mp4 is = absurd (false≢true is)
  markup_fits mp4_of_any_box is = absurd (false≢true is)
  markup_fits webm is = absurd (false≢true is)
  markup_fits mp3 is = absurd (false≢true is)
  markup_fits no_data is = absurd (false≢true is)

pub no_white : (t : List ℕ) → get_or t 0 0 ≡ 0x3C → NoneBegins IsSpace t
no_white t first word rest (x, white, w) e =
    let here : get_or t 0 0 ≡ x = ap (λ l. get_or l 0 0) (e ∙ ap (λ v. v ++ rest) w) in omega (arith, first, here, white)

-- a buffer is HTML just if one of the rows accepts it
module _ (b : List ℕ) (bytes : (i : ℕ) → get_or b i 0 < 256) (html : List ℕ) where
  markup_at : (k : ℕ) (r : Rule) → k < length (tag_rules html) → get_or (tag_rules html) k r ≡ r → is_markup_rule r ≡ true
  markup_at k r within at = sym (ap is_markup_rule at) ∙ AllPass-from_list_all is_markup_rule (tag_rules html) (tags_are_markup html) k r within

  pub html_accepts : Any (Accepts b) (tag_rules html) ↔ IsHtml b
  html_accepts = (
    λ (k, r, within, at, accepted).
        let (text, skips, stops, f) = (markup_fits b r.signature (markup_at k r within at)).0 accepted in (
          text,
          skips,
          tag_of_rule text (bytes_after b text skips bytes) tags (tag_rules html) (tags_have_rules html)
              (list_any-from_Any (is_fitting text) (tag_rules html) (k, r, within, at, rule_tested text r.signature f)),
        ),
    λ (text, skips, has).
        let (k, r, within, at, fits) = Any-from_list_any (is_fitting text) (tag_rules html)
        (rule_of_any text (bytes_after b text skips bytes) tags (tag_rules html) (tags_have_rules html) has) in
        (k, r, within, at, (markup_fits b r.signature (markup_at k r within at)).1 (text, skips, no_white text (HasTag-open text has), test_rule text r.signature fits)),
  )
