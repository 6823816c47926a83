-- What a rule asks of a buffer, by the byte that its pattern begins with.
use Rattle.std.proofs.Common.{◌≡◌, ◌↔◌, ◌==◌, ◌&&◌, ℕ, ◌+◌, ◌<◌, Bool, true, false, not, List, [], ◌∷◌, Option, None, get_or, length, nat_lt, subst, sym, ap, ◌∙◌, arith}
use Rattle.std.proofs.lemmas.Bool.{and_parts, eq-eqb, eqb-true, false≢true, ltb-true}
use Rattle.std.proofs.lemmas.Grind.{and_numeral}
use Rattle.std.proofs.lemmas.List.{get_or-append-add}
use Rattle.std.specs.List.{AllByRecursion, concat, list_all}
use Rattle.infer_deep.specs.Joined.{NoneBegins, SkipsTo}
use Rattle.infer_deep.specs.Text.{IsSpace}
use Rattle.infer_deep.proofs.JoinedLemmas.{After-left, IsPrefixFree}
use Rattle.mime_sniff.specs.Table.{led_by, lead_of}
use Rattle.mime_sniff.specs.Row.{AcceptsFixed, Fits, FitsAfter, Pattern, mask_at}
use Rattle.mime_sniff.specs.Rule.{Accepts, FitsRule, FitsSignature, IsAccepted, Rule, Signature, FindsFirst, fixed, mp3, mp4, mp4_of_any_box, no_data, webm}
use Rattle.mime_sniff.proofs.FirstLemmas.{finds_alike, finds_filtered, finds_nothing}

-- what all rules of a list have that pass a test
pub all_by_test : (test : Rule → Bool) (P : Rule → Type 0) → ((r : Rule) → test r ≡ true → P r) → (rules : List Rule) → list_all test rules ≡ true → AllByRecursion P rules
all_by_test test P has [] all = tt
all_by_test test P has (r ∷ rules) all =
    let parts = and_parts (test r) (list_all test rules) all in (has r parts.0, all_by_test test P has rules parts.1)

-- a pattern that asks for its whole first byte
abbrev is_led : Pattern → Bool
is_led p = nat_lt 0 (length p.bytes) && (mask_at p.mask 0 == 0xFF)

fits_lead : (p : Pattern) (b : List ℕ) → is_led p ≡ true → get_or b 0 0 < 256 → Fits p b → get_or b 0 0 ≡ get_or p.bytes 0 0
fits_lead p b led byte fits =
    let parts = and_parts (nat_lt 0 (length p.bytes)) (mask_at p.mask 0 == 0xFF) led in
    let some : 0 < length p.bytes = ltb-true 0 (length p.bytes) parts.0 in
    let all : mask_at p.mask 0 ≡ 255 = eqb-true (mask_at p.mask 0) 255 parts.1 in
    let same = fits.same 0 some in
    grind (arith, and_numeral, same, all)

-- a rule of a pattern that begins with a whole byte, before which nothing is ignored
abbrev is_plain : Signature → Bool
is_plain (fixed p) = not p.ignores_white && is_led p
is_plain other = false

abbrev pub is_plain_rule : Rule → Bool
is_plain_rule r = is_plain r.signature

accepts_plain : (b : List ℕ) (p : Pattern) → not p.ignores_white ≡ true → Fits p b ↔ AcceptsFixed p b
accepts_plain b p not_white = fits_after p.ignores_white not_white
  where
    fits_after : (w : Bool) → not w ≡ true → Fits p b ↔ FitsAfter w p b
    fits_after true e = cc
    fits_after false e = (λ h. h, λ h. h)

module _ (b : List ℕ) (byte : get_or b 0 0 < 256) where
  plain_signature : (s : Signature) → is_plain s ≡ true → FitsSignature b s ↔ IsAccepted s b
  plain_signature (fixed p) is = accepts_plain b p (and_parts (not p.ignores_white) (is_led p) is).0
  plain_signature mp4 is = absurd (false≢true is)
  plain_signature mp4_of_any_box is = absurd (false≢true is)
  plain_signature webm is = absurd (false≢true is)
  plain_signature mp3 is = absurd (false≢true is)
  plain_signature no_data is = absurd (false≢true is)

  plain_lead : (s : Signature) → is_plain s ≡ true → FitsSignature b s → (lead_of s == get_or b 0 0) ≡ true
  plain_lead (fixed p) is fits =
      eq-eqb _ _ (sym (fits_lead p b (and_parts (not p.ignores_white) (is_led p) is).1 byte fits))
  plain_lead mp4 is fits = absurd (false≢true is)
  plain_lead mp4_of_any_box is fits = absurd (false≢true is)
  plain_lead webm is fits = absurd (false≢true is)
  plain_lead mp3 is fits = absurd (false≢true is)
  plain_lead no_data is fits = absurd (false≢true is)

  plain_some : (s : Signature) → is_plain s ≡ true → FitsSignature b s → 0 < length b
  plain_some (fixed p) is fits =
      let led = (and_parts (not p.ignores_white) (is_led p) is).1 in
      let some : 0 < length p.bytes = ltb-true 0 (length p.bytes) (and_parts (nat_lt 0 (length p.bytes)) (mask_at p.mask 0 == 0xFF) led).0 in
      let long = fits.long in
      omega arith
  plain_some mp4 is fits = absurd (false≢true is)
  plain_some mp4_of_any_box is fits = absurd (false≢true is)
  plain_some webm is fits = absurd (false≢true is)
  plain_some mp3 is fits = absurd (false≢true is)
  plain_some no_data is fits = absurd (false≢true is)

  -- of plain rules those that the buffer's first byte leads tell the type, and for an empty buffer none does
  pub finds_led : (rules : List Rule) (told : Option (List ℕ)) → list_all is_plain_rule rules ≡ true
      → FindsFirst (FitsRule b) (led_by (get_or b 0 0) rules) told → FindsFirst (Accepts b) rules told
  finds_led rules told plain h =
      finds_alike (FitsRule b) (Accepts b) rules told
      (all_by_test is_plain_rule (λ r. FitsRule b r ↔ Accepts b r) (λ r. plain_signature r.signature) rules plain)
      (finds_filtered (FitsRule b) (λ r. lead_of r.signature == get_or b 0 0) rules told
      (all_by_test is_plain_rule (λ r. FitsRule b r → (lead_of r.signature == get_or b 0 0) ≡ true) (λ r. plain_lead r.signature) rules plain) h)

  pub finds_empty : (rules : List Rule) → list_all is_plain_rule rules ≡ true → length b ≡ 0 → FindsFirst (Accepts b) rules None
  finds_empty rules plain none =
      finds_nothing (Accepts b) rules
      (all_by_test is_plain_rule (λ r. ¬ Accepts b r)
      (λ r is a. let some = plain_some r.signature is ((plain_signature r.signature is).1 a) in omega (arith, some, none)) rules plain)

-- a rule of a pattern before which nothing is ignored
abbrev is_direct : Signature → Bool
is_direct (fixed p) = not p.ignores_white
is_direct other = false

abbrev pub is_direct_rule : Rule → Bool
is_direct_rule r = is_direct r.signature

direct_signature : (b : List ℕ) (s : Signature) → is_direct s ≡ true → FitsSignature b s ↔ IsAccepted s b
direct_signature b (fixed p) is = accepts_plain b p is
direct_signature b mp4 is = absurd (false≢true is)
direct_signature b mp4_of_any_box is = absurd (false≢true is)
direct_signature b webm is = absurd (false≢true is)
direct_signature b mp3 is = absurd (false≢true is)
direct_signature b no_data is = absurd (false≢true is)

-- such rules tell what they tell of a text that fits them
pub finds_direct : (b : List ℕ) (rules : List Rule) (told : Option (List ℕ)) → list_all is_direct_rule rules ≡ true
    → FindsFirst (FitsRule b) rules told → FindsFirst (Accepts b) rules told
finds_direct b rules told direct =
    finds_alike (FitsRule b) (Accepts b) rules told
    (all_by_test is_direct_rule (λ r. FitsRule b r ↔ Accepts b r) (λ r. direct_signature b r.signature) rules direct)

-- a rule of a pattern that begins "<", before which white space is ignored
abbrev pub is_markup_signature : Signature → Bool
is_markup_signature (fixed p) = p.ignores_white && (is_led p && (get_or p.bytes 0 0 == 0x3C))
is_markup_signature other = false

abbrev pub is_markup_rule : Rule → Bool
is_markup_rule r = is_markup_signature r.signature

one_space : IsPrefixFree IsSpace
one_space v w x y (a, f, p) (b, g, q) e = cc

module _ (b text : List ℕ) (skips : SkipsTo IsSpace b text) (stops : NoneBegins IsSpace text) (byte : get_or text 0 0 < 256) where
  accepts_white : (p : Pattern) → p.ignores_white ≡ true → Fits p text ↔ AcceptsFixed p b
  accepts_white p white =
      let after = After-left IsSpace (λ t. NoneBegins IsSpace t × Fits p t) one_space (λ t h. h.0) b text skips stops in
      subst (λ w. Fits p text ↔ FitsAfter w p b) (sym white) (λ fits. after.0 (stops, fits), λ a. (after.1 a).1)

  markup_signature : (s : Signature) → is_markup_signature s ≡ true → FitsSignature text s ↔ IsAccepted s b
  markup_signature (fixed p) is = accepts_white p (and_parts p.ignores_white (is_led p && (get_or p.bytes 0 0 == 0x3C)) is).0
  markup_signature mp4 is = absurd (false≢true is)
  markup_signature mp4_of_any_box is = absurd (false≢true is)
  markup_signature webm is = absurd (false≢true is)
  markup_signature mp3 is = absurd (false≢true is)
  markup_signature no_data is = absurd (false≢true is)

  markup_lead : (s : Signature) → is_markup_signature s ≡ true → FitsSignature text s → (0 < length text) × (get_or text 0 0 ≡ 0x3C)
  markup_lead (fixed p) is fits =
      let parts = and_parts (is_led p) (get_or p.bytes 0 0 == 0x3C) (and_parts p.ignores_white (is_led p && (get_or p.bytes 0 0 == 0x3C)) is).1 in
      let some : 0 < length p.bytes = ltb-true 0 (length p.bytes) (and_parts (nat_lt 0 (length p.bytes)) (mask_at p.mask 0 == 0xFF) parts.0).0 in
      let first = fits_lead p text parts.0 byte fits in
      let is_tag : get_or p.bytes 0 0 ≡ 0x3C = eqb-true (get_or p.bytes 0 0) 0x3C parts.1 in
      let long = fits.long in
      (omega arith, omega arith)
  markup_lead mp4 is fits = absurd (false≢true is)
  markup_lead mp4_of_any_box is fits = absurd (false≢true is)
  markup_lead webm is fits = absurd (false≢true is)
  markup_lead mp3 is fits = absurd (false≢true is)
  markup_lead no_data is fits = absurd (false≢true is)

  pub finds_markup : (rules : List Rule) (told : Option (List ℕ)) → list_all is_markup_rule rules ≡ true
      → FindsFirst (FitsRule text) rules told → FindsFirst (Accepts b) rules told
  finds_markup rules told is =
      finds_alike (FitsRule text) (Accepts b) rules told
      (all_by_test is_markup_rule (λ r. FitsRule text r ↔ Accepts b r) (λ r. markup_signature r.signature) rules is)

  pub finds_no_markup : (rules : List Rule) → list_all is_markup_rule rules ≡ true
      → (0 < length text → get_or text 0 0 ≡ 0x3C → ⊥) → FindsFirst (Accepts b) rules None
  finds_no_markup rules is other =
      finds_nothing (Accepts b) rules
      (all_by_test is_markup_rule (λ r. ¬ Accepts b r)
      (λ r m a. let lead = markup_lead r.signature m ((markup_signature r.signature m).1 a) in other lead.0 lead.1) rules is)

-- after white space too a byte is a byte
pub bytes_after : (b text : List ℕ) → SkipsTo IsSpace b text → ((i : ℕ) → get_or b i 0 < 256) → (i : ℕ) → get_or text i 0 < 256
bytes_after b text skips bytes i =
    let front = concat skips.words in
    let byte = bytes (length front + i) in
    let read : get_or b (length front + i) 0 ≡ get_or text i 0 = ap (λ l. get_or l (length front + i) 0) skips.whole ∙ get_or-append-add front text i 0 in
    omega (arith, byte, read)
