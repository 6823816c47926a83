-- A row that accepts is the first to do so whatever follows: of two rows with other types none may begin to accept after.
use Rattle.std.proofs.Common.{◌≡◌, ◌∙◌, ◌==◌, ◌&&◌, ◌||◌, ◌++◌, ◌∷◌, [], inl, inr, zero, suc, ℕ, ◌≤◌, Any, Bool, false, true, List, Option, None, Some, ap, arith, bit_and, cond, get_or, length, length-take, nat_le, nat_lt, not, refl, subst, sym}
use Rattle.std.proofs.lemmas.Bool.{and_parts, eq-eqb, eqb-true, false≢true, leb-true, ltb-true}
use Rattle.std.proofs.lemmas.List.{get_or_append_left}
use Rattle.std.proofs.lemmas.List.Sums.{AllPass-from_list_all}
use Rattle.std.proofs.lemmas.Nat.{and_assoc, and_comm}
use Rattle.std.proofs.lemmas.Slice.Eq.{bytes_eq-Decides}
use Rattle.std.specs.List.{AllByRecursion, concat, list_all, list_any}
use Rattle.std.specs.Option.{option_or}
use Rattle.std.specs.Str.{bytes_eq}
use Rattle.infer_deep.specs.Joined.{NoneBegins}
use Rattle.infer_deep.specs.Numbers.{be32}
use Rattle.infer_deep.specs.Text.{IsSpace, IsWhite}
use Rattle.infer_deep.proofs.JoinedLemmas.{After-left, IsPrefixFree}
use Rattle.infer_formats.specs.Text.{IsBinary}
use Rattle.mime_sniff.specs.Row.{Fits, FitsAfter, HasBits, Pattern, mask_at}
use Rattle.mime_sniff.specs.Rule.{Accepts, IsAccepted, Rule, Signature, FindsFirst, fixed, mp3, mp4, mp4_of_any_box, no_data, webm}
use Rattle.mime_sniff.specs.Computed.{Answers, IsAsked, IsUnknown, Supply, asked_of_unknown, otherwise, rules_of}
use Rattle.mime_sniff.specs.Laws.{rows_of_unknown, unscripted_rows}
use Rattle.mime_sniff.specs.Standard.{archives, documents, header, scriptable, text_rule, texts, unscripted}
use Rattle.mime_sniff.specs.Table.{images, sounds, tag_rules, xml_rules}
use Rattle.mime_sniff.specs.declared.question.Question.{Question}
use Rattle.mime_sniff.specs.declared.question.Question.TheVariants.{Anything, Unscripted}
use Rattle.mime_sniff.proofs.DecidedLemmas.{grows, no_rule}
use Rattle.mime_sniff.proofs.EscalationLemmas.{later}
use Rattle.mime_sniff.proofs.FirstLemmas.{one_first, finds_cases, finds_here, finds_later, finds_none, finds_right, told_passes}
use Rattle.mime_sniff.proofs.GrowthLemmas.{accepted_grown, binary_grown, mp3_grown, mp4_grown, webm_grown}
use Rattle.mime_sniff.proofs.StandardLemmas.{by_binary}

abbrev bits : List ℕ → List ℕ → Pattern
bits bytes mask = record { bytes = bytes; mask = mask; ignores_white = false; ends_tag = false }

-- what a signature asks of first bytes at least
abbrev outline : Signature → Pattern
outline (fixed p) = p
outline mp4_of_any_box = bits (0x00 ∷ []) []
outline webm = bits (0x1A ∷ []) []
outline mp3 = bits (0xFF ∷ 0xE2 ∷ []) (0xFF ∷ 0xE6 ∷ [])
outline other = bits [] []

abbrev is_white : Signature → Bool
is_white (fixed p) = p.ignores_white
is_white other = false

abbrev differ : Pattern → Pattern → ℕ → Bool
differ p q i =
    nat_lt i (length p.bytes)
    && (nat_lt i (length q.bytes) && not (bit_and (get_or p.bytes i 0) (mask_at q.mask i) == bit_and (get_or q.bytes i 0) (mask_at p.mask i)))

abbrev places : List ℕ
places = 0 ∷ 1 ∷ 2 ∷ 3 ∷ 4 ∷ 5 ∷ 6 ∷ 7 ∷ 8 ∷ 9 ∷ 10 ∷ 11 ∷ 12 ∷ 13 ∷ []

abbrev begins_markup : ℕ → Bool
begins_markup x = x == 0x09 || (x == 0x0A || (x == 0x0C || (x == 0x0D || (x == 0x20 || x == 0x3C))))

abbrev is_tag : Pattern → Bool
is_tag p = nat_lt 0 (length p.bytes) && (mask_at p.mask 0 == 0xFF && get_or p.bytes 0 0 == 0x3C)

abbrev is_other : Pattern → Bool
is_other q = nat_lt 0 (length q.bytes) && (mask_at q.mask 0 == 0xFF && not (begins_markup (get_or q.bytes 0 0)))

-- no buffer has both
abbrev clash : Signature → Signature → Bool
clash s r =
    cond (is_white s) (is_tag (outline s) && cond (is_white r) (list_any (differ (outline s) (outline r)) places) (is_other (outline r)))
    (cond (is_white r) false (list_any (differ (outline s) (outline r)) places))

-- and how many bytes it asks
abbrev least : Signature → ℕ
least mp4_of_any_box = 12
least other = 0

abbrev is_short : Signature → Signature → Bool
is_short (fixed p) r = not p.ignores_white && (not p.ends_tag && nat_le (length p.bytes) (least r))
is_short other r = false

module _ (c : List ℕ) (p q : Pattern) (has : HasBits p c) (also : HasBits q c) where
  differs : (i : ℕ) → differ p q i ≡ true → ⊥
  differs i d =
      let one = and_parts (nat_lt i (length p.bytes)) (nat_lt i (length q.bytes) && not (bit_and (get_or p.bytes i 0) (mask_at q.mask i) == bit_and (get_or q.bytes i 0) (mask_at p.mask i))) d in
      let two = and_parts (nat_lt i (length q.bytes)) (not (bit_and (get_or p.bytes i 0) (mask_at q.mask i) == bit_and (get_or q.bytes i 0) (mask_at p.mask i))) one.1 in
      let x = get_or c i 0 in
      let left = has i (ltb-true i (length p.bytes) one.0) in
      let right = also i (ltb-true i (length q.bytes) two.0) in
      let same : bit_and (get_or p.bytes i 0) (mask_at q.mask i) ≡ bit_and (get_or q.bytes i 0) (mask_at p.mask i) =
      ap (λ y. bit_and y (mask_at q.mask i)) (sym left)
      ∙ (and_assoc (mask_at q.mask i) x (mask_at p.mask i)
      ∙ (ap (λ y. bit_and x y) (and_comm (mask_at p.mask i) (mask_at q.mask i))
      ∙ (sym (and_assoc (mask_at p.mask i) x (mask_at q.mask i)) ∙ ap (λ y. bit_and y (mask_at p.mask i)) right))) in
      false≢true (sym (ap not (eq-eqb _ _ same)) ∙ two.1)

  any_differs : (is : List ℕ) → list_any (differ p q) is ≡ true → ⊥
  any_differs [] d = false≢true d
  any_differs (i ∷ is) d = cases (differ p q i) (differs i) (any_differs is) d
    where
      cases : (b : Bool) → (b ≡ true → ⊥) → (list_any (differ p q) is ≡ true → ⊥) → (b || list_any (differ p q) is) ≡ true → ⊥
      cases true this others d = this refl
      cases false this others d = others d

one_space : IsPrefixFree IsSpace
one_space v w x y (a, f, p) (b, g, q) e = cc

white_begins : (x : ℕ) → IsWhite x → begins_markup (bit_and x 0xFF) ≡ true
white_begins x (inl e) = ap (λ y. begins_markup (bit_and y 0xFF)) e
white_begins x (inr (inl e)) = ap (λ y. begins_markup (bit_and y 0xFF)) e
white_begins x (inr (inr (inl e))) = ap (λ y. begins_markup (bit_and y 0xFF)) e
white_begins x (inr (inr (inr (inl e)))) = ap (λ y. begins_markup (bit_and y 0xFF)) e
white_begins x (inr (inr (inr (inr e)))) = ap (λ y. begins_markup (bit_and y 0xFF)) e

module _ (c : List ℕ) (p q : Pattern) where
  tag_begins : is_tag p ≡ true → (text : List ℕ) → Fits p text → begins_markup (bit_and (get_or text 0 0) 0xFF) ≡ true
  tag_begins is text fits =
      let one = and_parts (nat_lt 0 (length p.bytes)) (mask_at p.mask 0 == 0xFF && get_or p.bytes 0 0 == 0x3C) is in
      let two = and_parts (mask_at p.mask 0 == 0xFF) (get_or p.bytes 0 0 == 0x3C) one.1 in
      let first = fits.same 0 (ltb-true 0 (length p.bytes) one.0) in
      let whole : mask_at p.mask 0 ≡ 0xFF = eqb-true (mask_at p.mask 0) 0xFF two.0 in
      let tag : get_or p.bytes 0 0 ≡ 0x3C = eqb-true (get_or p.bytes 0 0) 0x3C two.1 in
      ap begins_markup (ap (λ m. bit_and (get_or text 0 0) m) (sym whole) ∙ (first ∙ tag))

  first_begins : is_tag p ≡ true → (text : List ℕ) → Fits p text → (words : List (List ℕ)) → AllByRecursion IsSpace words → c ≡ concat words ++ text
      → begins_markup (bit_and (get_or c 0 0) 0xFF) ≡ true
  first_begins is text fits [] each e = ap (λ l. begins_markup (bit_and (get_or l 0 0) 0xFF)) e ∙ tag_begins is text fits
  first_begins is text fits (w ∷ ws) ((x, white, one), each) e =
      ap (λ l. begins_markup (bit_and (get_or l 0 0) 0xFF)) (e ∙ ap (λ v. concat (v ∷ ws) ++ text) one) ∙ white_begins x white

  other_out : is_tag p ≡ true → is_other q ≡ true → FitsAfter true p c → HasBits q c → ⊥
  other_out tag other (text, skips, (stops, fits)) has =
      let one = and_parts (nat_lt 0 (length q.bytes)) (mask_at q.mask 0 == 0xFF && not (begins_markup (get_or q.bytes 0 0))) other in
      let two = and_parts (mask_at q.mask 0 == 0xFF) (not (begins_markup (get_or q.bytes 0 0))) one.1 in
      let first = has 0 (ltb-true 0 (length q.bytes) one.0) in
      let all : mask_at q.mask 0 ≡ 0xFF = eqb-true (mask_at q.mask 0) 0xFF two.0 in
      let begins = first_begins tag text fits skips.words skips.each skips.whole in
      let same : begins_markup (get_or q.bytes 0 0) ≡ true = ap begins_markup (sym first ∙ ap (λ m. bit_and (get_or c 0 0) m) all) ∙ begins in
      false≢true (sym (ap not same) ∙ two.1)

  both_out : list_any (differ p q) places ≡ true → FitsAfter true p c → FitsAfter true q c → ⊥
  both_out d (text, skips, (stops, fits)) also =
      let there = (After-left IsSpace (λ t. NoneBegins IsSpace t × Fits q t) one_space (λ t h. h.0) c text skips stops).1 also in
      any_differs text p q fits.same there.1.same places d

module _ (c : List ℕ) (few : length c ≤ 1445) where
  white_fits : (s : Signature) → is_white s ≡ true → IsAccepted s c → FitsAfter true (outline s) c
  white_fits (fixed p) is h = subst (λ w. FitsAfter w p c) is h
  white_fits mp4 is h = absurd (false≢true is)
  white_fits mp4_of_any_box is h = absurd (false≢true is)
  white_fits webm is h = absurd (false≢true is)
  white_fits mp3 is h = absurd (false≢true is)
  white_fits no_data is h = absurd (false≢true is)

  -- a box of so few bytes begins so
  first_of_box : be32 c 0 ≤ length c → get_or c 0 0 ≡ 0
  unfolding be32
  first_of_box whole = omega (arith, whole, few)

  one_bit : (x : ℕ) (mask : List ℕ) → get_or c 0 0 ≡ x → bit_and x 0xFF ≡ x → HasBits (bits (x ∷ []) []) c
  one_bit x mask is all zero within = ap (λ y. bit_and y 0xFF) is ∙ all
  one_bit x mask is all (suc i) within = absurd (omega (arith, within))

  direct_bits : (s : Signature) → is_white s ≡ false → IsAccepted s c → HasBits (outline s) c
  direct_bits (fixed p) is h = (subst (λ w. FitsAfter w p c) is h).same
  direct_bits mp4 is h = λ i within. absurd (omega (arith, within))
  direct_bits mp4_of_any_box is h = one_bit 0 [] (first_of_box h.whole) refl
  direct_bits webm is h = one_bit 0x1A [] (h.0.reads 0 (omega arith)) refl
  direct_bits mp3 is h = two
    where
      two : HasBits (bits (0xFF ∷ 0xE2 ∷ []) (0xFF ∷ 0xE6 ∷ [])) c
      two zero within = ap (λ y. bit_and y 0xFF) h.first.sync
      two (suc zero) within = h.first.layer
      two (suc (suc i)) within = absurd (omega (arith, within))
  direct_bits no_data is h = λ i within. absurd (omega (arith, within))

  clash_out : (s r : Signature) → clash s r ≡ true → IsAccepted s c → IsAccepted r c → ⊥
  clash_out s r is h g = cases (is_white s) (is_white r) refl refl is
    where
      cases : (a b : Bool) → is_white s ≡ a → is_white r ≡ b
          → cond a (is_tag (outline s) && cond b (list_any (differ (outline s) (outline r)) places) (is_other (outline r)))
          (cond b false (list_any (differ (outline s) (outline r)) places)) ≡ true → ⊥
      cases true true x y d =
          both_out c (outline s) (outline r) (and_parts (is_tag (outline s)) (list_any (differ (outline s) (outline r)) places) d).1 (white_fits s x h) (white_fits r y g)
      cases true false x y d =
          let parts = and_parts (is_tag (outline s)) (is_other (outline r)) d in
          other_out c (outline s) (outline r) parts.0 parts.1 (white_fits s x h) (direct_bits r y g)
      cases false true x y d = false≢true d
      cases false false x y d = any_differs c (outline s) (outline r) (direct_bits s x h) (direct_bits r y g) places d

-- a row, and not what text is by default
abbrev is_row : Signature → Bool
is_row (fixed p) = nat_lt 0 (length p.bytes)
is_row mp4 = false
is_row no_data = false
is_row other = true

-- of two rows the earlier one tells the same, or no buffer has both, or it is too short to begin to accept after
abbrev stays : Rule → Rule → Bool
stays x r = bytes_eq x.mime_type r.mime_type || (clash x.signature r.signature || is_short x.signature r.signature)

abbrev pairs : List Rule → Bool
pairs [] = true
pairs (x ∷ xs) = is_row x.signature && (list_all (λ r. is_row r.signature && stays x r) xs && pairs xs)

not_true : (b : Bool) → not b ≡ true → b ≡ false
not_true true is = absurd (false≢true is)
not_true false is = refl

module _ (P : Rule → Type 0) where
  accepted_told : (test : Rule → Bool) (xs : List Rule) (t : List ℕ) → list_all test xs ≡ true → FindsFirst P xs (Some t)
      → (r : Rule) × (test r ≡ true) × P r × (r.mime_type ≡ t)
  accepted_told test [] t all h = let (rule, passes, is) = told_passes P (λ r. false) [] t refl h in absurd (false≢true passes)
  accepted_told test (x ∷ xs) t all h =
      let parts = and_parts (test x) (list_all test xs) all in
      elim (finds_cases P x xs (Some t) h) [
        | inl (p, is) ↦ let same : x.mime_type ≡ t = cc in (x, parts.0, p, same)
        | inr (not, rest) ↦ accepted_told test xs t parts.1 rest
      ]

  -- what is told is told by the front, if one of its rules accepts
  front_finds : (xs ys : List Rule) (told : Option (List ℕ)) → Any P xs → FindsFirst P (xs ++ ys) told → FindsFirst P xs told
  front_finds [] ys told (n, y, within, at, p) h = absurd (omega (arith, within))
  front_finds (x ∷ xs) ys told some h =
      elim (finds_cases P x (xs ++ ys) told h) [
        | inl (p, is) ↦ subst (λ o. FindsFirst P (x ∷ xs) o) (sym is) (finds_here P x xs p)
        | inr (not, rest) ↦ finds_later P x xs told not (front_finds xs ys told (later P x xs not some) rest)
      ]

module _ (h m : List ℕ) (few : length (h ++ m) ≤ 1445) where
  grown : (s : Signature) → is_row s ≡ true → IsAccepted s h → IsAccepted s (h ++ m)
  grown (fixed p) is a = accepted_grown h m (fixed p) is a
  grown mp4 is a = absurd (false≢true is)
  grown mp4_of_any_box is a = mp4_grown h m a
  grown webm is a = webm_grown h m a
  grown mp3 is a = mp3_grown h m a
  grown no_data is a = absurd (false≢true is)

  any_rows : (rows : List Rule) → list_all (λ r. is_row r.signature) rows ≡ true → Any (Accepts h) rows → Any (Accepts (h ++ m)) rows
  any_rows rows all (n, r, within, at, a) =
      let row : is_row r.signature ≡ true = sym (ap (λ r. is_row r.signature) at) ∙ AllPass-from_list_all (λ r. is_row r.signature) rows all n r within in
      (n, r, within, at, grown r.signature row a)

  long_enough : (r : Signature) → IsAccepted r h → least r ≤ length h
  long_enough (fixed p) a = omega arith
  long_enough mp4 a = omega arith
  long_enough mp4_of_any_box a = a.long
  long_enough webm a = omega arith
  long_enough mp3 a = omega arith
  long_enough no_data a = omega arith

  short_back : (s r : Signature) → is_short s r ≡ true → IsAccepted r h → IsAccepted s (h ++ m) → IsAccepted s h
  short_back (fixed p) r is a g =
      let one = and_parts (not p.ignores_white) (not p.ends_tag && nat_le (length p.bytes) (least r)) is in
      let two = and_parts (not p.ends_tag) (nat_le (length p.bytes) (least r)) one.1 in
      let direct = not_true p.ignores_white one.0 in
      let less = leb-true (length p.bytes) (least r) two.1 in
      let long = long_enough r a in
      let fits : Fits p (h ++ m) = subst (λ w. FitsAfter w p (h ++ m)) direct g in
      let back : Fits p h = record {
        long = omega (arith, less, long);
        same = λ i within. ap (λ x. bit_and x (mask_at p.mask i)) (sym (get_or_append_left h m 0 i (omega (arith, less, long, within)))) ∙ fits.same i within;
        ends = λ e. absurd (false≢true (sym (not_true p.ends_tag two.0) ∙ e));
      } in
      subst (λ w. FitsAfter w p h) (sym direct) back
  short_back mp4 r is a g = absurd (false≢true is)
  short_back mp4_of_any_box r is a g = absurd (false≢true is)
  short_back webm r is a g = absurd (false≢true is)
  short_back mp3 r is a g = absurd (false≢true is)
  short_back no_data r is a g = absurd (false≢true is)

  alike : (x r : Rule) → stays x r ≡ true → is_row r.signature ≡ true → Accepts h r → (¬ Accepts h x) → Accepts (h ++ m) x → x.mime_type ≡ r.mime_type
  alike x r is row a not g = cases (bytes_eq x.mime_type r.mime_type) (clash x.signature r.signature) refl refl is
    where
      cases : (b d : Bool) → bytes_eq x.mime_type r.mime_type ≡ b → clash x.signature r.signature ≡ d → (b || (d || is_short x.signature r.signature)) ≡ true
          → x.mime_type ≡ r.mime_type
      cases true d e f is = (bytes_eq-Decides x.mime_type r.mime_type).0 e
      cases false true e f is = absurd (clash_out (h ++ m) few x.signature r.signature f g (grown r.signature row a))
      cases false false e f is = absurd (not (short_back x.signature r.signature is a g))

  same_told : (xs : List Rule) → pairs xs ≡ true → (t : List ℕ) (told : Option (List ℕ)) → FindsFirst (Accepts h) xs (Some t)
      → FindsFirst (Accepts (h ++ m)) xs told → told ≡ Some t
  same_told [] all t told a g = let (rule, passes, is) = told_passes (Accepts h) (λ r. false) [] t refl a in absurd (false≢true passes)
  same_told (x ∷ xs) all t told a g =
      let one = and_parts (is_row x.signature) (list_all (λ r. is_row r.signature && stays x r) xs && pairs xs) all in
      let two = and_parts (list_all (λ r. is_row r.signature && stays x r) xs) (pairs xs) one.1 in
      elim (finds_cases (Accepts h) x xs (Some t) a) [
        | inl (p, is) ↦
            elim (finds_cases (Accepts (h ++ m)) x xs told g) [
              | inl (q, e) ↦ e ∙ sym is
              | inr (not, rest) ↦ absurd (not (grown x.signature one.0 p))
            ]
        | inr (not, rest) ↦
            elim (finds_cases (Accepts (h ++ m)) x xs told g) [
              | inl (q, e) ↦
                  let (r, test, accepts, same) = accepted_told (Accepts h) (λ r. is_row r.signature && stays x r) xs t two.0 rest in
                  let both = and_parts (is_row r.signature) (stays x r) test in
                  e ∙ ap Some (alike x r both.1 both.0 accepts not q ∙ same)
              | inr (also, more) ↦ same_told xs two.1 t told rest more
            ]
      ]

  rows_tell : (rows ys : List Rule) → pairs rows ≡ true → list_all (λ r. is_row r.signature) rows ≡ true → Any (Accepts h) rows
      → (first told : Option (List ℕ)) → FindsFirst (Accepts h) (rows ++ ys) first → FindsFirst (Accepts (h ++ m)) (rows ++ ys) told → told ≡ first
  rows_tell rows ys good all some None told a g = absurd (no_rule (Accepts h) rows (front_finds (Accepts h) rows ys None some a) some)
  rows_tell rows ys good all some (Some t) told a g =
      same_told rows good t told (front_finds (Accepts h) rows ys (Some t) some a)
      (front_finds (Accepts (h ++ m)) rows ys told (any_rows rows all some) g)

unscripted_pairs : (pairs unscripted_rows ≡ true) × (list_all (λ r. is_row r.signature) unscripted_rows ≡ true) × (unscripted ≡ unscripted_rows ++ text_rule ∷ [])
unfolding texts images sounds archives
unscripted_pairs = (refl, refl, refl)

all_pairs : (pairs (scriptable ++ unscripted_rows) ≡ true) × (list_all (λ r. is_row r.signature) (scriptable ++ unscripted_rows) ≡ true)
    × (scriptable ++ unscripted ≡ (scriptable ++ unscripted_rows) ++ text_rule ∷ [])
unfolding tag_rules xml_rules documents texts images sounds archives
all_pairs = (refl, refl, refl)

none_finds : (P : Rule → Type 0) (xs : List Rule) → (¬ Any P xs) → FindsFirst P xs None
none_finds P [] none = finds_none P
none_finds P (x ∷ xs) none =
    finds_later P x xs None (λ p. none (0, x, omega arith, refl, p))
    (none_finds P xs (λ (n, y, within, at, p). none (suc n, y, omega (arith, within), at, p)))

-- where no row accepts binary data, none tells it
finds_nothing : (c : List ℕ) (rows : List Rule) (first : Option (List ℕ)) → IsBinary c → (¬ Any (Accepts c) rows)
    → FindsFirst (Accepts c) (rows ++ text_rule ∷ []) first → first ≡ None
finds_nothing c rows first binary none a =
    one_first (Accepts c) (rows ++ text_rule ∷ []) first None a
    (finds_right (Accepts c) rows (text_rule ∷ []) None (none_finds (Accepts c) rows none) (by_binary c binary))

module _ (s : Supply) (b more : List ℕ) (told after : Option (List ℕ)) where
  of_rows : (q : Question) (rows : List Rule) → pairs rows ≡ true → list_all (λ r. is_row r.signature) rows ≡ true → rules_of q ≡ rows ++ text_rule ∷ []
      → Any (Accepts (header b)) rows → Answers q (header b) told → Answers q (header (b ++ more)) after → after ≡ told
  of_rows q rows good all is some (first, a, e) (second, g, f) =
      let (m, grows_by) = grows b more in
      let few : length (header b ++ m) ≤ 1445 = omega (arith, ap length grows_by, length-take 1445 (b ++ more)) in
      let now = subst (λ l. FindsFirst (Accepts (header b)) l first) is a in
      let next = subst (λ l. FindsFirst (Accepts (header b ++ m)) l second) is (subst (λ x. FindsFirst (Accepts x) (rules_of q) second) grows_by g) in
      f ∙ (ap (λ o. option_or o (otherwise q)) (rows_tell (header b) m few rows (text_rule ∷ []) good all some first second now next) ∙ sym e)

  by_flag : (no_sniff : Bool) (q r : Question) → q ≡ asked_of_unknown no_sniff → r ≡ asked_of_unknown no_sniff → Any (Accepts (header b)) (rows_of_unknown no_sniff)
      → Answers q (header b) told → Answers r (header (b ++ more)) after → after ≡ told
  by_flag true q r e f some a g =
      of_rows Unscripted unscripted_rows unscripted_pairs.0 unscripted_pairs.1 unscripted_pairs.2 some (subst (λ x. Answers x (header b) told) e a)
      (subst (λ x. Answers x (header (b ++ more)) after) f g)
  by_flag false q r e f some a g =
      of_rows Anything (scriptable ++ unscripted_rows) all_pairs.0 all_pairs.1 all_pairs.2 some (subst (λ x. Answers x (header b) told) e a)
      (subst (λ x. Answers x (header (b ++ more)) after) f g)

  pub rows_stay : IsUnknown s.kind → Any (Accepts (header b)) (rows_of_unknown s.no_sniff) → (q r : Question) → IsAsked s q → IsAsked s r
      → Answers q (header b) told → Answers r (header (b ++ more)) after → after ≡ told
  rows_stay unknown some q r (inl (u, e)) (inl (v, f)) a g = by_flag s.no_sniff q r e f some a g
  rows_stay unknown some q r (inr (known, asked)) other a g = absurd (known unknown)
  rows_stay unknown some q r (inl (u, e)) (inr (known, asked)) a g = absurd (known unknown)

  of_octets : (q : Question) (rows : List Rule) → list_all (λ r. is_row r.signature) rows ≡ true → rules_of q ≡ rows ++ text_rule ∷ [] → IsBinary (header b)
      → (¬ Any (Accepts (header (b ++ more))) rows) → Answers q (header b) told → Answers q (header (b ++ more)) after → after ≡ told
  of_octets q rows all is binary none (first, a, e) (second, g, f) =
      let (m, grows_by) = grows b more in
      let few : length (header b ++ m) ≤ 1445 = omega (arith, ap length grows_by, length-take 1445 (b ++ more)) in
      let none_yet : ¬ Any (Accepts (header b)) rows = λ some. none (subst (λ c. Any (Accepts c) rows) (sym grows_by) (any_rows (header b) m few rows all some)) in
      let still : IsBinary (header (b ++ more)) = subst IsBinary (sym grows_by) (binary_grown (header b) m binary) in
      let now = finds_nothing (header b) rows first binary none_yet (subst (λ l. FindsFirst (Accepts (header b)) l first) is a) in
      let next = finds_nothing (header (b ++ more)) rows second still none (subst (λ l. FindsFirst (Accepts (header (b ++ more))) l second) is g) in
      f ∙ (ap (λ o. option_or o (otherwise q)) (next ∙ sym now) ∙ sym e)

  octets_by_flag : (no_sniff : Bool) (q r : Question) → q ≡ asked_of_unknown no_sniff → r ≡ asked_of_unknown no_sniff → IsBinary (header b)
      → (¬ Any (Accepts (header (b ++ more))) (rows_of_unknown no_sniff)) → Answers q (header b) told → Answers r (header (b ++ more)) after → after ≡ told
  octets_by_flag true q r e f binary none a g =
      of_octets Unscripted unscripted_rows unscripted_pairs.1 unscripted_pairs.2 binary none (subst (λ x. Answers x (header b) told) e a)
      (subst (λ x. Answers x (header (b ++ more)) after) f g)
  octets_by_flag false q r e f binary none a g =
      of_octets Anything (scriptable ++ unscripted_rows) all_pairs.1 all_pairs.2 binary none (subst (λ x. Answers x (header b) told) e a)
      (subst (λ x. Answers x (header (b ++ more)) after) f g)

  pub octets_stay : IsUnknown s.kind → IsBinary (header b) → (¬ Any (Accepts (header (b ++ more))) (rows_of_unknown s.no_sniff)) → (q r : Question)
      → IsAsked s q → IsAsked s r → Answers q (header b) told → Answers r (header (b ++ more)) after → after ≡ told
  octets_stay unknown binary none q r (inl (u, e)) (inl (v, f)) a g = octets_by_flag s.no_sniff q r e f binary none a g
  octets_stay unknown binary none q r (inr (known, asked)) other a g = absurd (known unknown)
  octets_stay unknown binary none q r (inl (u, e)) (inr (known, asked)) a g = absurd (known unknown)
