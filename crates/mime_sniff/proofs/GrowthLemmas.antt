-- What more bytes leave as it is.
use Rattle.std.proofs.Common.{◌≡◌, ◌∙◌, inl, inr, ℕ, zero, suc, ◌+◌, ◌*◌, ◌<◌, ◌≤◌, ◌&&◌, ◌==◌, Any, Bool, false, true, IfSome, List, [], ◌∷◌, ◌++◌, Option, None, Some, Bor, ap, append_assoc, arith, bit_and, codes, get_or, length, length-append, nat_lt, option_map, refl, subst, sym}
use Rattle.std.proofs.lemmas.Bool.{and_parts, false≢true, lt-ltb, ltb-true}
use Rattle.std.proofs.lemmas.List.{get_or_append_left}
use Rattle.std.proofs.lemmas.List.Sums.{AllPass-from_list_all}
use Rattle.std.specs.Fn.{iterate}
use Rattle.std.specs.List.{list_all}
use Rattle.infer_deep.specs.Joined.{NoneBegins, SkipsTo}
use Rattle.infer_deep.specs.Open.{AgreesAt}
use Rattle.infer_deep.specs.Text.{IsSpace}
use Rattle.infer_deep.proofs.NumberLemmas.{be32-append}
use Rattle.infer_deep.proofs.PlaceLemmas.{OccursAt-append}
use Rattle.infer_formats.specs.Text.{IsBinary}
use Rattle.memchr.specs.Find.{OccursAt}
use Rattle.mime_sniff.specs.Growth.{AnswerForGood, FitForGood, MayBeginHeader, FindForGood, found_or_else}
use Rattle.mime_sniff.specs.Computed.{otherwise, rules_of}
use Rattle.mime_sniff.specs.Mp3.{IsHeader, IsMp3, frame_length}
use Rattle.mime_sniff.specs.declared.question.Question.{Question}
use Rattle.mime_sniff.proofs.FirstLemmas.{finds_left, finds_right}
use Rattle.std.specs.Option.{option_or}
use Rattle.mime_sniff.specs.Mp4.{IsMp4OfAnyBox, box_length}
use Rattle.mime_sniff.specs.Row.{EndsTag, Fits, FitsAfter, Pattern, mask_at}
use Rattle.mime_sniff.specs.Rule.{Accepts, FitsRule, IsAccepted, Rule, Signature, FindsFirst, fixed, mp3, mp4, mp4_of_any_box, no_data, webm}
use Rattle.mime_sniff.specs.Table.{led_by}
use Rattle.mime_sniff.specs.Webm.{Holds, HoldsFrom, IsWebm, NamesWebm, begins_name, content, next_place, size_width}
use Rattle.mime_sniff.proofs.WebmLemmas.{all_later, from_next, next_later}
use Rattle.mime_sniff.proofs.RuleLemmas.{is_direct_rule, is_markup_rule, is_plain_rule, finds_direct, finds_led, finds_markup}

holds_within : (b : List ℕ) (i : ℕ) → Holds b i → i + 2 < length b
holds_within b i (begins, named) =
    ltb-true (i + 2) (length b) (and_parts (nat_lt (i + 2) (length b)) (get_or b i 0 == 0x42 && (get_or b (i + 1) 0 == 0x82)) begins).0

module _ (b more : List ℕ) where
  ends_grown : (p : ℕ) → EndsTag b p → EndsTag (b ++ more) p
  ends_grown p (within, inl a) = (omega (arith, length-append b more, within), inl (get_or_append_left b more 0 p within ∙ a))
  ends_grown p (within, inr a) = (omega (arith, length-append b more, within), inr (get_or_append_left b more 0 p within ∙ a))

  pub fits_grown : (p : Pattern) → Fits p b → Fits p (b ++ more)
  fits_grown p f = record {
    long = omega (arith, length-append b more, f.long);
    same = λ i l. ap (λ x. bit_and x (mask_at p.mask i)) (get_or_append_left b more 0 i (omega (arith, f.long, l))) ∙ f.same i l;
    ends = λ e. ends_grown (length p.bytes) (f.ends e);
  }

  pub binary_grown : IsBinary b → IsBinary (b ++ more)
  binary_grown (k, within, is) =
      (k, omega (arith, length-append b more, within), rw (get_or_append_left b more 0 k within) is)

  pub mp4_grown : IsMp4OfAnyBox b → IsMp4OfAnyBox (b ++ more)
  mp4_grown is =
      let long = is.long in
      let same : box_length (b ++ more) ≡ box_length b = be32-append b more 0 (omega arith) in
      record {
        long = omega (arith, length-append b more, is.long);
        kind = OccursAt-append b more (codes "ftyp") 4 is.kind;
        whole = omega (arith, length-append b more, is.whole, same);
        words = rw same is.words;
        brand = elim is.brand [
          | inl o ↦ inl (OccursAt-append b more (codes "mp4") 8 o)
          | inr (k, brand, within, o) ↦ inr (k, brand, omega (arith, within, same), OccursAt-append b more (codes "mp4") (4 * k) o)
        ];
      }

  -- what stands there in the end agrees with what is there
  pub agrees_before : (text : List ℕ) (p : ℕ) → OccursAt (b ++ more) text p → AgreesAt b text p
  agrees_before text p o = record { reads = λ k l within. sym (get_or_append_left b more 0 (p + k) within) ∙ o.reads k l }

  header_grown : (p : ℕ) → IsHeader b p → IsHeader (b ++ more) p
  header_grown p is =
      let within = is.within in
      let one = get_or_append_left b more 0 p (omega (arith, within)) in
      let two = get_or_append_left b more 0 (p + 1) (omega (arith, within)) in
      let three = get_or_append_left b more 0 (p + 2) (omega (arith, within)) in
      record {
        within = omega (arith, within, length-append b more);
        sync = one ∙ is.sync;
        layer = rw two is.layer;
        rate = rw three is.rate;
        samples = rw three is.samples;
      }

  pub mp3_grown : IsMp3 b → IsMp3 (b ++ more)
  mp3_grown is =
      let within = is.first.within in
      let second = get_or_append_left b more 0 1 (omega (arith, within)) in
      let third = get_or_append_left b more 0 2 (omega (arith, within)) in
      let same : frame_length (get_or (b ++ more) 1 0) (get_or (b ++ more) 2 0) ≡ frame_length (get_or b 1 0) (get_or b 2 0) =
      ap (λ x. frame_length x (get_or (b ++ more) 2 0)) second ∙ ap (λ y. frame_length (get_or b 1 0) y) third in
      record {
        first = header_grown 0 is.first;
        long = subst (λ n. 4 ≤ n) (sym same) is.long;
        next = subst (λ n. IsHeader (b ++ more) n) (sym same) (header_grown (frame_length (get_or b 1 0) (get_or b 2 0)) is.next);
      }

  -- a header that stands there in the end has begun
  pub header_before : IsHeader (b ++ more) 0 → MayBeginHeader b
  header_before is = record {
    sync = λ l. sym (get_or_append_left b more 0 0 (omega (arith, l))) ∙ is.sync;
    layer = λ l. ap (λ x. bit_and x 0xE6) (sym (get_or_append_left b more 0 1 (omega (arith, l)))) ∙ is.layer;
    rate = λ l e. is.rate (ap (λ x. bit_and x 0xF0) (get_or_append_left b more 0 2 (omega (arith, l))) ∙ e);
    samples = λ l e. is.samples (ap (λ x. bit_and x 0x0C) (get_or_append_left b more 0 2 (omega (arith, l))) ∙ e);
  }

  -- the walk to the name of WebM
  read_same : (i : ℕ) → i < length b → get_or (b ++ more) i 0 ≡ get_or b i 0
  read_same i within = get_or_append_left b more 0 i within

  named_grown : (i : ℕ) → NamesWebm b i → NamesWebm (b ++ more) i
  named_grown i (zeros, all, o, goes_on) = (
    zeros,
    λ k l. read_same (i + k) (omega (arith, goes_on, l)) ∙ all k l,
    OccursAt-append b more (codes "webm") (i + zeros) o,
    omega (arith, goes_on, length-append b more),
  )

  begins_same : (i : ℕ) → i + 2 < length b → begins_name (b ++ more) i ≡ begins_name b i
  begins_same i within =
      let long : nat_lt (i + 2) (length (b ++ more)) ≡ true = lt-ltb (i + 2) (length (b ++ more)) (omega (arith, within, length-append b more)) in
      let now : nat_lt (i + 2) (length b) ≡ true = lt-ltb (i + 2) (length b) within in
      let one = read_same i (omega (arith, within)) in
      let two = read_same (i + 1) (omega (arith, within)) in
      rw (long, now, one, two) refl

  next_same : (i : ℕ) → i + 2 < length b → next_place (b ++ more) i ≡ next_place b i
  next_same i within =
      let begins = begins_same i within in
      let three = read_same (i + 2) within in
      rw (begins, three) refl

  holds_grown : (i : ℕ) → Holds b i → Holds (b ++ more) i
  holds_grown i (begins, named) =
      let within : i + 2 < length b = holds_within b i (begins, named) in
      let same : content (b ++ more) i ≡ content b i = ap (λ x. i + 2 + size_width x) (read_same (i + 2) within) in
      (begins_same i within ∙ begins, subst (λ p. NamesWebm (b ++ more) p) (sym same) (named_grown (content b i) named))

  -- a place that is far enough in front of one that holds is walked on from alike
  from_grown : (n i : ℕ) → iterate (next_place b) n i < 38 → Holds b (iterate (next_place b) n i) → HoldsFrom (b ++ more) i
  from_grown zero i near holds = (0, near, holds_grown i holds)
  from_grown (suc n) i near holds =
      let later = all_later b n (next_place b i) in
      let one = next_later b i in
      let within : iterate (next_place b) n (next_place b i) + 2 < length b = holds_within b (iterate (next_place b) n (next_place b i)) holds in
      let next = from_grown n (next_place b i) near holds in
      from_next (b ++ more) i (subst (λ p. HoldsFrom (b ++ more) p) (sym (next_same i (omega (arith, later, one, within)))) next)

  pub webm_grown : IsWebm b → IsWebm (b ++ more)
  webm_grown (mark, (n, near, holds)) =
      (OccursAt-append b more (0x1A ∷ 0x45 ∷ 0xDF ∷ 0xA3 ∷ []) 0 mark, from_grown n 4 near holds)

module _ (b : List ℕ) where
  pub settle_direct : (rules : List Rule) (o : Option (Option (Bor (List ℕ)))) → list_all is_direct_rule rules ≡ true
      → IfSome o (λ told. FitForGood b rules (option_map (λ t. t.now) told)) → IfSome o (λ told. FindForGood b rules (option_map (λ t. t.now) told))
  settle_direct rules None is h = tt
  settle_direct rules (Some told) is h = λ more. finds_direct (b ++ more) rules (option_map (λ t. t.now) told) is (h more)

  pub settle_led : (rules : List Rule) (o : Option (Option (Bor (List ℕ)))) → list_all is_plain_rule rules ≡ true → get_or b 0 0 < 256 → 0 < length b
      → IfSome o (λ told. FitForGood b (led_by (get_or b 0 0) rules) (option_map (λ t. t.now) told))
      → IfSome o (λ told. FindForGood b rules (option_map (λ t. t.now) told))
  settle_led rules None is byte some h = tt
  settle_led rules (Some told) is byte some h = λ more.
      let same : get_or (b ++ more) 0 0 ≡ get_or b 0 0 = get_or_append_left b more 0 0 some in
      finds_led (b ++ more) (omega (arith, same, byte)) rules (option_map (λ t. t.now) told) is
      (subst (λ x. FindsFirst (FitsRule (b ++ more)) (led_by x rules) (option_map (λ t. t.now) told)) (sym same) (h more))

-- what is after white space stays after it, once a byte is there
pub skips_grown : (b text more : List ℕ) → SkipsTo IsSpace b text → SkipsTo IsSpace (b ++ more) (text ++ more)
skips_grown b text more skips = record {
  words = skips.words;
  each = skips.each;
  whole = ap (λ l. l ++ more) skips.whole ∙ append_assoc _ text more;
}

pub stops_grown : (t more : List ℕ) → 0 < length t → NoneBegins IsSpace t → NoneBegins IsSpace (t ++ more)
stops_grown [] more long none = absurd (omega (arith, long))
stops_grown (x ∷ t) more some none = λ word rest is e. none word t is (cut word is rest e)
  where
    cut : (word : List ℕ) → IsSpace word → (rest : List ℕ) → (x ∷ t) ++ more ≡ word ++ rest → x ∷ t ≡ word ++ t
    cut word (y, white, w) rest e =
        let first : x ≡ y = ap (λ l. get_or l 0 0) (e ∙ ap (λ v. v ++ rest) w) in
        ap (λ z. z ∷ t) first ∙ ap (λ v. v ++ t) (sym w)

-- a rule of a pattern that is not empty
abbrev is_begun : Signature → Bool
is_begun (fixed p) = nat_lt 0 (length p.bytes)
is_begun other = false

abbrev pub is_begun_rule : Rule → Bool
is_begun_rule r = is_begun r.signature

module _ (b more : List ℕ) where
  after_grown : (w : Bool) (p : Pattern) → 0 < length p.bytes → FitsAfter w p b → FitsAfter w p (b ++ more)
  after_grown true p some (text, skips, (stops, fits)) = (
    text ++ more,
    skips_grown b text more skips,
    (stops_grown text more (omega (arith, some, fits.long)) stops, fits_grown text more p fits),
  )
  after_grown false p some fits = fits_grown b more p fits

  pub accepted_grown : (s : Signature) → is_begun s ≡ true → IsAccepted s b → IsAccepted s (b ++ more)
  accepted_grown (fixed p) is h = after_grown p.ignores_white p (ltb-true 0 (length p.bytes) is) h
  accepted_grown mp4 is h = absurd (false≢true is)
  accepted_grown mp4_of_any_box is h = absurd (false≢true is)
  accepted_grown webm is h = absurd (false≢true is)
  accepted_grown mp3 is h = absurd (false≢true is)
  accepted_grown no_data is h = absurd (false≢true is)

  -- such rules that accept go on to do so
  pub any_grown : (rules : List Rule) → list_all is_begun_rule rules ≡ true → Any (Accepts b) rules → Any (Accepts (b ++ more)) rules
  any_grown rules all (n, rule, within, at, accepts) =
      let begun : is_begun_rule rule ≡ true = sym (ap is_begun_rule at) ∙ AllPass-from_list_all is_begun_rule rules all n rule within in
      (n, rule, within, at, accepted_grown rule.signature begun accepts)

module _ (b text : List ℕ) (skips : SkipsTo IsSpace b text) (stops : NoneBegins IsSpace text) (byte : get_or text 0 0 < 256) (some : 0 < length text) where
  pub settle_markup : (rules : List Rule) (o : Option (Option (Bor (List ℕ)))) → list_all is_markup_rule rules ≡ true
      → IfSome o (λ told. FitForGood text rules (option_map (λ t. t.now) told)) → IfSome o (λ told. FindForGood b rules (option_map (λ t. t.now) told))
  settle_markup rules None is h = tt
  settle_markup rules (Some told) is h = λ more.
      let same : get_or (text ++ more) 0 0 ≡ get_or text 0 0 = get_or_append_left text more 0 0 some in
      finds_markup (b ++ more) (text ++ more) (skips_grown b text more skips) (stops_grown text more some stops) (omega (arith, same, byte)) rules
      (option_map (λ t. t.now) told) is (h more)

-- what some rules and those after them tell
pub settle_both : (b : List ℕ) (xs ys : List Rule) (first after both : Option (Option (Bor (List ℕ)))) → both ≡ found_or_else first after
    → IfSome first (λ told. FindForGood b xs (option_map (λ t. t.now) told)) → IfSome after (λ told. FindForGood b ys (option_map (λ t. t.now) told))
    → IfSome both (λ told. FindForGood b (xs ++ ys) (option_map (λ t. t.now) told))
settle_both b xs ys first after both is h g =
    subst (λ o. IfSome o (λ told. FindForGood b (xs ++ ys) (option_map (λ t. t.now) told))) (sym is) (known first after h g)
  where
    right : (o : Option (Option (Bor (List ℕ)))) → FindForGood b xs None → IfSome o (λ told. FindForGood b ys (option_map (λ t. t.now) told))
        → IfSome o (λ told. FindForGood b (xs ++ ys) (option_map (λ t. t.now) told))
    right None h g = tt
    right (Some told) h g = λ more. finds_right (Accepts (b ++ more)) xs ys (option_map (λ t. t.now) told) (h more) (g more)

    known : (first after : Option (Option (Bor (List ℕ)))) → IfSome first (λ told. FindForGood b xs (option_map (λ t. t.now) told))
        → IfSome after (λ told. FindForGood b ys (option_map (λ t. t.now) told))
        → IfSome (found_or_else first after) (λ told. FindForGood b (xs ++ ys) (option_map (λ t. t.now) told))
    known None after h g = tt
    known (Some None) after h g = right after h g
    known (Some (Some t)) after h g = λ more. finds_left (Accepts (b ++ more)) xs ys t.now (h more)

or_none : (told : Option (List ℕ)) → told ≡ option_or told None
or_none None = refl
or_none (Some t) = refl

-- where nothing else is told, the rules' answer is that of the question
pub settle_answer : (q : Question) (b : List ℕ) → otherwise q ≡ None → (o : Option (Option (Bor (List ℕ))))
    → IfSome o (λ told. FindForGood b (rules_of q) (option_map (λ t. t.now) told)) → IfSome o (λ told. AnswerForGood q b (option_map (λ t. t.now) told))
settle_answer q b none None h = tt
settle_answer q b none (Some told) h = λ more. (
  option_map (λ t. t.now) told,
  h more,
  or_none (option_map (λ t. t.now) told) ∙ ap (λ o. option_or (option_map (λ t. t.now) told) o) (sym none),
)
