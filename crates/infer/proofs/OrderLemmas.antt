-- What a computation says of the first row that accepts a buffer.
use Rattle.infer.proofs.Common.{◌∷◌, le_refl, suc, ℕ, List, [], Option, None, Some, length, get_or, subst, arith, get_or_default, HasClassId, IsXls, IsOffice, AreApart, BuiltIn, framed, office, doc, xls, ppt, html, xml, IsAccepted, IsFirstOf, NoneHas, Row, Accepts, table, row, Text}
use Rattle.infer_deep.specs.Laws as Deep
use Rattle.infer.proofs.DecisionLemmas.{known}
use Rattle.infer_sig.proofs.KnownLemmas.{Known, proved, unknown, same, negated, each_before, at_most, takes, ◌>>=◌, ◌>>◌}
use Rattle.infer_sig.proofs.OccurrenceLemmas.{ByPlace}

-- any row
pub some_row : Row BuiltIn
some_row = row Text [] [] html

pub flipped : {S T : List ℕ → Type 0} → AreApart S T → AreApart T S
flipped h b t s = h b s t

module _ (exclude : Deep.Apart) where
  pub class_id_office : (id folder : List ℕ) → AreApart (HasClassId id) (IsOffice folder)
  class_id_office id folder b (root, r, _) (_, d, _) = exclude.compound_zip b r.header d.0

  pub xls_office : (folder : List ℕ) → AreApart IsXls (IsOffice folder)
  xls_office folder b h2 o = grind (arith, class_id_office)

  -- the later row's signature, and that of the earlier
  abbrev pub exclusion : (s r : BuiltIn) → Known (AreApart (IsAccepted s) (IsAccepted r))
  exclusion (framed (x ∷ v)) (framed (y ∷ w)) = do
    low ← takes (at_most (suc x) 0x50)
    other_low ← takes (at_most (suc y) 0x50)
    differ ← takes (negated (same x y))
    proved (exclude.framed (x ∷ v) (y ∷ w) (omega arith, omega arith, differ) low other_low)
  exclusion (office (x ∷ v)) (office (y ∷ w)) = do
    differ ← takes (negated (same x y))
    proved (exclude.office (x ∷ v) (y ∷ w) (omega arith, omega arith, differ))
  exclusion (office v) doc = proved (flipped (class_id_office _ v))
  exclusion (office v) xls = proved (flipped (xls_office v))
  exclusion (office v) ppt = proved (flipped (class_id_office _ v))
  exclusion xls (office w) = proved (xls_office w)
  exclusion ppt (office w) = proved (class_id_office _ w)
  exclusion xls doc = proved (flipped exclude.doc_xls)
  exclusion ppt doc = proved (flipped exclude.doc_ppt)
  exclusion ppt xls = proved (flipped exclude.xls_ppt)
  exclusion xml html = proved (flipped exclude.html_xml)
  exclusion s r = unknown

-- no row accepts the buffer
abbrev pub none_accepts : ByPlace → (b : List ℕ) → Known (NoneHas (Accepts b) table)
none_accepts by_place b = each_before (λ r. negated (known by_place b r.signature)) table (length table) (le_refl (length table))

module _ (by_place : ByPlace) (exclude : Deep.Apart) where
  -- a buffer that has the signature lacks that of the row
  abbrev lacks_row : (s : BuiltIn) (b : List ℕ) → IsAccepted s b → (r : Row BuiltIn) → Known (¬ Accepts b r)
  lacks_row s b accepted r = do
    (do apart ← takes (exclusion exclude s r.signature); proved (apart b accepted))
    negated (known by_place b r.signature)

  -- row i is first, as is known of a row that accepts the buffer
  abbrev pub known_at : (d : Row BuiltIn) (i : ℕ) (b : List ℕ) → Known (Accepts b (get_or table i d)) → Known (IsFirstOf (Accepts b) table (Some i))
  known_at d i b accepts = do
    within ← takes (at_most (suc i) (length table))
    accepted ← takes accepts
    before ← takes (each_before (lacks_row (get_or table i d).signature b accepted) table i (omega arith))
    proved (record { within = within; here = λ c. subst (Accepts b) (get_or_default table i d c within) accepted; before = before })

  abbrev pub known_first : (d : Row BuiltIn) (o : Option ℕ) (b : List ℕ) → Known (IsFirstOf (Accepts b) table o)
  known_first d None b = none_accepts by_place b
  known_first d (Some i) b = known_at d i b (known by_place b (get_or table i d).signature)
