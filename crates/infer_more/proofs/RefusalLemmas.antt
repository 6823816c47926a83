-- What a computation says of buffers that a built-in signature refuses: by their first byte, by what stands after white
-- space, or since they begin with no frame; and whether they are markup.
use Rattle.infer_more.proofs.Common.{◌≡◌, ◌⊎◌, ◌↔◌, inl, inr, ℕ, zero, suc, Bool, true, false, not, IsTrue, List, [], ◌∷◌, ◌++◌, get_or, length, map, take, refl, ap, sym, subst, ◌∙◌, codes, arith, if◌then◌else◌, nat_tests, OccursAt, OccursAt-append, BuiltIn, NoneHas, is_white, Accepts, table, Known, proved, refuted, unknown, at_most, each_before, either, needs, negated, proved_if, refuted_if, takes, ByPlace, occurs, not_both, ◌>>◌}
use Rattle.std.proofs.Common.{◌≤◌, append-nil, le_refl}
use Rattle.std.specs.Prelude.{Any}
use Rattle.std.specs.Char.{to_ascii_lowercase}
use Rattle.infer_deep.specs.Frames.{IsFrame}
use Rattle.infer_deep.specs.Joined.{NoneBegins, SkipsTo}
use Rattle.infer_deep.specs.Text.{BeginsInAnyCase, BeginsWithTag, IsHtml, IsMark, IsSpace, IsWhite, IsXml, tags}
use Rattle.infer_deep.proofs.FrameLemmas.{IsFramed-left}
use Rattle.infer_deep.proofs.JoinedLemmas.{SkipsTo-cons, SkipsTo-none}
use Rattle.infer_deep.proofs.TextLemmas.{IsHtml-left, IsXml-lead, IsXml-left, IsXml-trimmed, begins_in_any_case, front_in_any_case, tag_end, tag_from_text, text_of_tag}
use Rattle.infer.specs.BuiltIn.{framed, html, xml, IsAccepted}
use Rattle.infer.specs.Leads.{Leads, allows_first}
use Rattle.infer.proofs.DecisionLemmas.{known}
use Rattle.infer_sig.proofs.KnownLemmas.{same, same_text, ◌>>=◌}

-- ---- white space

abbrev past_white : List ℕ → List ℕ
past_white [] = []
past_white (x ∷ b) = if is_white x then past_white b else x ∷ b

whites : (x : ℕ) → is_white x ≡ true → IsWhite x
whites x e = grind (arith, nat_tests)

white : (x : ℕ) → IsWhite x → is_white x ≡ true
white x h = grind (arith, nat_tests)

skips_more : (x : ℕ) (b : List ℕ) (r : Bool) → is_white x ≡ r → SkipsTo IsSpace b (past_white b) → SkipsTo IsSpace (x ∷ b) (if r then past_white b else x ∷ b)
skips_more x b true e rest = SkipsTo-cons IsSpace (x ∷ b) b (past_white b) (record { word = x ∷ []; kind = (x, whites x e, refl); whole = refl }) rest
skips_more x b false e rest = SkipsTo-none IsSpace (x ∷ b)

pub white_skips : (b : List ℕ) → SkipsTo IsSpace b (past_white b)
white_skips [] = SkipsTo-none IsSpace []
white_skips (x ∷ b) = skips_more x b (is_white x) refl (white_skips b)

none_more : (x : ℕ) (b : List ℕ) (r : Bool) → is_white x ≡ r → NoneBegins IsSpace (past_white b) → NoneBegins IsSpace (if r then past_white b else x ∷ b)
none_more x b true e rest = rest
none_more x b false e rest = λ word others (y, w, same_word) h.
    let first : x ≡ y = cc in
    let is : is_white x ≡ true = white x (subst IsWhite (sym first) w) in
    cc

pub none_white : (b : List ℕ) → NoneBegins IsSpace (past_white b)
none_white [] = λ word rest (y, w, e) h. cc
none_white (x ∷ b) = none_more x b (is_white x) refl (none_white b)

-- ---- markup

-- one of a list has a property
module _ {X : Type 0} {P : X → Type 0} where
  pub any_from : (x : X) (xs : List X) → P x ⊎ Any P xs → Any P (x ∷ xs)
  any_from x xs (inl p) = (0, x, omega arith, refl, p)
  any_from x xs (inr (k, y, l, e, p)) = (suc k, y, omega (arith, l), e, p)

  pub any_split : (x : X) (xs : List X) → Any P (x ∷ xs) → P x ⊎ Any P xs
  any_split x xs (zero, y, l, e, p) = inl (subst P (sym e) p)
  any_split x xs (suc k, y, l, e, p) = inr (k, y, omega (arith, l), e, p)

  pub any_none : ¬ Any P []
  any_none (k, x, l, e, p) = omega arith

  abbrev known_any : (known : (x : X) → Known (P x)) (xs : List X) → Known (Any P xs)
  known_any known [] = refuted any_none
  known_any known (x ∷ xs) = do
    some ← needs (either (known x) (known_any known xs)) (any_split x xs)
    proved (any_from x xs some)

module _ (b : List ℕ) where
  abbrev left : List ℕ
  left = past_white b

  abbrev begins_with : (t : List ℕ) → Known (map to_ascii_lowercase (take (length t) left) ≡ map to_ascii_lowercase t)
  begins_with t = same_text (map to_ascii_lowercase (take (length t) left)) (map to_ascii_lowercase t)

  pub ends_tag : (tag : List ℕ) → suc (length tag) ≤ length left → BeginsWithTag tag left → (get_or left (length tag) 0 ≡ 0x20) ⊎ (get_or left (length tag) 0 ≡ 0x3E)
  ends_tag tag long h = tag_end left [] tag (subst (BeginsWithTag tag) (sym (append-nil left)) h) (omega arith)

  abbrev has_tag : (tag : List ℕ) → Known (BeginsWithTag tag left)
  has_tag tag = do
    equal ← needs (begins_with tag) (λ h. front_in_any_case left tag (text_of_tag left tag h))
    long ← takes (at_most (suc (length tag)) (length left))
    closes ← needs (either (same (get_or left (length tag) 0) 0x20) (same (get_or left (length tag) 0) 0x3E)) (ends_tag tag long)
    proved (tag_from_text left tag long closes (begins_in_any_case left tag equal))

  abbrev pub known_html : Known (IsHtml b)
  known_html = do
    tag ← needs (known_any has_tag tags) (IsHtml-left b left (white_skips b) (none_white b)).1
    proved ((IsHtml-left b left (white_skips b) (none_white b)).0 tag)

  pub no_xml_opens : IsTrue (not (allows_first xml (get_or left 0 0))) → ¬ IsXml b
  no_xml_opens none h =
      let byte = IsXml-lead left ((IsXml-trimmed b left (white_skips b) (none_white b)).1 h) in
      let allowed : IsTrue (allows_first xml (get_or left 0 0)) = grind (arith, nat_tests) in
      not_both _ allowed none

  no_mark : get_or left 0 0 ≡ 0x3C → NoneBegins IsMark left
  no_mark first word rest is e = elim is [
    | inl w ↦ let byte : get_or left 0 0 ≡ 0xEF = ap (λ u. get_or u 0 0) (e ∙ ap (λ u. u ++ rest) w) in absurd (omega arith)
    | inr (inl w) ↦ let byte : get_or left 0 0 ≡ 0xFE = ap (λ u. get_or u 0 0) (e ∙ ap (λ u. u ++ rest) w) in absurd (omega arith)
    | inr (inr w) ↦ let byte : get_or left 0 0 ≡ 0xFF = ap (λ u. get_or u 0 0) (e ∙ ap (λ u. u ++ rest) w) in absurd (omega arith)
  ]

  pub xml_left : get_or left 0 0 ≡ 0x3C → BeginsInAnyCase (codes "<?xml") left ↔ IsXml b
  xml_left first = IsXml-left b left (white_skips b) (none_white b) left (SkipsTo-none IsMark left) (no_mark first)

  abbrev pub known_xml : Known (IsXml b)
  known_xml = do
    refuted_if (not (allows_first xml (get_or left 0 0))) no_xml_opens
    (do
      first ← takes (same (get_or left 0 0) 0x3C)
      text ← needs (begins_with (codes "<?xml")) (λ h. front_in_any_case left (codes "<?xml") ((xml_left first).1 h))
      proved ((xml_left first).0 (begins_in_any_case left (codes "<?xml") text)))

-- ---- frames

abbrev frame_mark : List ℕ
frame_mark = 0x2A ∷ 0x4D ∷ 0x18 ∷ []

pub no_frame : (b : List ℕ) → ¬ OccursAt b frame_mark 1 → NoneBegins IsFrame b
no_frame b none word rest f e = none (subst (λ u. OccursAt u frame_mark 1) (sym e) (OccursAt-append word rest frame_mark 1 f.begins.mark))

-- ---- rows

module _ (by_place : ByPlace) (leads : (s : BuiltIn) → Leads s) where
  abbrev refused_first : (s : BuiltIn) (b : List ℕ) → Known (¬ IsAccepted s b)
  refused_first s [] = unknown
  refused_first s (f ∷ rest) = proved_if (not (allows_first s f)) (λ e h. not_both _ (leads s f rest h) e)

  abbrev refused_text : (s : BuiltIn) (b : List ℕ) → Known (¬ IsAccepted s b)
  refused_text html b = negated (known_html b)
  refused_text xml b = negated (known_xml b)
  refused_text (framed (x ∷ magic)) b = do
    low ← takes (at_most (suc x) 0x50)
    unmarked ← takes (negated (occurs by_place frame_mark b 1))
    absent ← takes (negated (occurs by_place (x ∷ magic) b 0))
    proved (λ h. absent ((IsFramed-left (x ∷ magic) (omega arith) low b b (SkipsTo-none IsFrame b) (no_frame b unmarked)).1 h))
  refused_text s b = unknown

  abbrev refused : (b : List ℕ) (s : BuiltIn) → Known (¬ IsAccepted s b)
  refused b s = do
    refused_first s b
    refused_text s b
    negated (known by_place b s)

  -- it is markup, or else by what is known of the signature
  abbrev pub accepted : (b : List ℕ) (s : BuiltIn) → Known (IsAccepted s b)
  accepted b html = known_html b
  accepted b xml = known_xml b
  accepted b s = known by_place b s

  -- no row accepts the buffer
  abbrev pub none_accepts : (b : List ℕ) → Known (NoneHas (Accepts b) table)
  none_accepts b = each_before (λ r. refused b r.signature) table (length table) (le_refl (length table))
