-- What more bytes can make run scripts.
use Rattle.std.proofs.Common.{◌≡◌, ◌⊎◌, inl, inr, ℕ, zero, suc, ◌<◌, Bool, false, true, Any, IsTrue, List, [], ◌∷◌, ◌++◌, All, None, arith, codes, get_or, length, refl}
use Rattle.std.proofs.lemmas.Bool.{cases_lt, false≢true}
use Rattle.std.proofs.lemmas.Grind.{and_numeral}
use Rattle.std.proofs.lemmas.List.{get_or-append_right, get_or_append_left, get_or_past}
use Rattle.infer_deep.specs.Joined.{NoneBegins, SkipsTo}
use Rattle.infer_deep.specs.Open.{AgreesAt, are_bytes}
use Rattle.infer_deep.specs.Signatures.{MayBecome}
use Rattle.infer_deep.specs.Text.{IsHtml, IsSpace}
use Rattle.infer_deep.proofs.JoinedLemmas.{SkipsTo-none}
use Rattle.infer_deep.proofs.OpenLemmas.{bytes_from_test, reaches_text}
use Rattle.infer_deep.proofs.TextLemmas.{is_html_open}
use Rattle.memchr.specs.Find.{OccursAt}
use Rattle.mime_sniff.specs.Growth.{MayScript}
use Rattle.mime_sniff.specs.Row.{Fits, Pattern}
use Rattle.mime_sniff.specs.Rule.{Accepts, FitsRule, Rule, FindsFirst}
use Rattle.mime_sniff.specs.Standard.{documents, markup, scriptable}
use Rattle.mime_sniff.specs.Table.{exact, pattern, rule, tag_rules, xml_rules}
use Rattle.mime_sniff.proofs.DecidedLemmas.{no_rule}
use Rattle.mime_sniff.proofs.FirstLemmas.{finds_later, finds_none, finds_right}
use Rattle.mime_sniff.proofs.GrowthLemmas.{skips_grown, stops_grown}
use Rattle.mime_sniff.proofs.RuleLemmas.{bytes_after, finds_markup}
use Rattle.mime_sniff.proofs.TagLemmas.{html_accepts, markup_is, no_html_comes, no_white}

module _ (P : Rule → Type 0) where
  any_left : (xs ys : List Rule) → Any P xs → Any P (xs ++ ys)
  any_left [] ys (n, y, within, at, p) = absurd (omega (arith, within))
  any_left (x ∷ xs) ys (zero, y, within, at, p) = (zero, y, omega arith, at, p)
  any_left (x ∷ xs) ys (suc n, y, within, at, p) =
      let (m, z, inside, is, q) = any_left xs ys (n, y, omega (arith, within), at, p) in (suc m, z, omega (arith, inside), is, q)

  any_right : (xs ys : List Rule) → Any P ys → Any P (xs ++ ys)
  any_right [] ys some = some
  any_right (x ∷ xs) ys some = let (n, y, within, at, p) = any_right xs ys some in (suc n, y, omega (arith, within), at, p)

  any_split : (xs ys : List Rule) → Any P (xs ++ ys) → Any P xs ⊎ Any P ys
  any_split [] ys some = inr some
  any_split (x ∷ xs) ys (zero, y, within, at, p) = inl (zero, y, omega arith, at, p)
  any_split (x ∷ xs) ys (suc n, y, within, at, p) =
      elim (any_split xs ys (n, y, omega (arith, within), at, p)) [
        | inl (m, z, inside, is, q) ↦ inl (suc m, z, omega (arith, inside), is, q)
        | inr some ↦ inr some
      ]

-- a pattern of whole bytes fits where they stand, and has begun before
abbrev whole : List ℕ → Bool → Pattern
whole bytes white = record { bytes = bytes; mask = []; ignores_white = white; ends_tag = false }

whole_fits : (t bytes : List ℕ) (white : Bool) → IsTrue (are_bytes bytes) → OccursAt t bytes 0 → Fits (whole bytes white) t
whole_fits t bytes white small o = record {
  long = omega (arith, o.fits);
  same = λ i within. let byte = bytes_from_test bytes small i 0 within in grind (arith, and_numeral, o.reads i within, byte);
  ends = λ e. absurd (false≢true e);
}

whole_begun : (t more bytes : List ℕ) (white : Bool) → ((i : ℕ) → get_or t i 0 < 256) → Fits (whole bytes white) (t ++ more) → AgreesAt t bytes 0
whole_begun t more bytes white small f = record {
  reads = λ k l within. grind (arith, and_numeral, get_or_append_left t more 0 k (omega (arith, within)), f.same k l, small k);
}

abbrev html : List ℕ
html = codes "text/html"

abbrev xml : List ℕ
xml = codes "text/xml"

module _ (b text : List ℕ) (skips : SkipsTo IsSpace b text) (stops : NoneBegins IsSpace text) (bytes : (i : ℕ) → get_or b i 0 < 256) where
  bytes_grown : (more : List ℕ) → All (λ x. x < 256) more → (i : ℕ) → get_or (b ++ more) i 0 < 256
  bytes_grown more all i = grind (arith, get_or_append_left, get_or-append_right, get_or_past, bytes i, all)

  pub may_html : MayBecome IsHtml text → MayScript b
  may_html may =
      let (more, all, is) = (is_html_open b text skips stops).0 ((is_html_open text text (SkipsTo-none IsSpace text) stops).1 may) in
      let some = (html_accepts (b ++ more) (bytes_grown more all) html).1 is in
      (more, all, any_left (Accepts (b ++ more)) markup documents (any_left (Accepts (b ++ more)) (tag_rules html) (xml_rules xml) some))

  pub may_xml : AgreesAt text (codes "<?xml") 0 → MayScript b
  unfolding xml_rules
  may_xml begun =
      let (more, all, o) = (reaches_text text (codes "<?xml") 0 refl).0 begun in
      let fits = whole_fits (text ++ more) (codes "<?xml") true refl o in
      let some : Any (Accepts (b ++ more)) (xml_rules xml)
      = (0, rule (pattern (codes "<?xml") [] true false) xml, omega arith, refl, (text ++ more, skips_grown b text more skips, (no_white (text ++ more) (o.reads 0 (omega arith)), fits))) in
      (more, all, any_left (Accepts (b ++ more)) markup documents (any_right (Accepts (b ++ more)) (tag_rules html) (xml_rules xml) some))

  pub may_pdf : AgreesAt b (codes "%PDF-") 0 → MayScript b
  unfolding documents
  may_pdf begun =
      let (more, all, o) = (reaches_text b (codes "%PDF-") 0 refl).0 begun in
      let some : Any (Accepts (b ++ more)) documents = (0, exact (codes "%PDF-") (codes "application/pdf"), omega arith, refl, whole_fits (b ++ more) (codes "%PDF-") false refl o) in
      (more, all, any_right (Accepts (b ++ more)) markup documents some)

  module _ (no_html : ¬ MayBecome IsHtml text) (no_xml : ¬ AgreesAt text (codes "<?xml") 0) (no_pdf : ¬ AgreesAt b (codes "%PDF-") 0) (more : List ℕ) where
    text_bytes : (i : ℕ) → get_or text i 0 < 256
    text_bytes = bytes_after b text skips bytes

    some_text : 0 < length text
    some_text = elim (cases_lt 0 (length text)) [
      | inl some ↦ some
      | inr none ↦ absurd (no_xml (record { reads = λ k l within. absurd (omega (arith, none, within)) }))
    ]

    xml_never : FindsFirst (FitsRule (text ++ more)) (xml_rules xml) None
    unfolding xml_rules
    xml_never =
        finds_later (FitsRule (text ++ more)) _ [] None (λ f. no_xml (whole_begun text more (codes "<?xml") true text_bytes f)) (finds_none (FitsRule (text ++ more)))

    markup_never : FindsFirst (Accepts (b ++ more)) markup None
    markup_never =
        let first : get_or (text ++ more) 0 0 ≡ get_or text 0 0 = get_or_append_left text more 0 0 some_text in
        finds_markup (b ++ more) (text ++ more) (skips_grown b text more skips) (stops_grown text more some_text stops) (omega (arith, first, text_bytes 0)) markup None
        (markup_is html xml)
        (finds_right (FitsRule (text ++ more)) (tag_rules html) (xml_rules xml) None (no_html_comes text text_bytes stops html no_html more) xml_never)

    documents_never : FindsFirst (Accepts (b ++ more)) documents None
    unfolding documents
    documents_never =
        finds_later (Accepts (b ++ more)) _ [] None (λ f. no_pdf (whole_begun b more (codes "%PDF-") false bytes f)) (finds_none (Accepts (b ++ more)))

    pub never_scripts : ¬ Any (Accepts (b ++ more)) scriptable
    never_scripts some =
        elim (any_split (Accepts (b ++ more)) markup documents some) [
          | inl one ↦ no_rule (Accepts (b ++ more)) markup markup_never one
          | inr one ↦ no_rule (Accepts (b ++ more)) documents documents_never one
        ]
