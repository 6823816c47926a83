-- For each far row, and for each beginning, a buffer that has the row as its first, and whose first 1024 bytes
-- have another answer.
use Rattle.infer.proofs.Common.{◌≡◌, ◌⊎◌, ◌≢◌, ◌+◌, ◌<◌, ◌∷◌, ◌++◌, le_refl, zero-le, suc, ℕ, not, List, [], Option, None, Some, length, get_or, take, IsTrue, refl, codes, inl, inr, arith, slice_get_past, compound_header, word_id, old_excel_id, powerpoint_id, OccursAt, le16, le32, be32, zip_header, BeginsMarked, stands, Beginning, Begins, BeginsAlone, last_after, BuiltIn, framed, heif, avif, office, doc, xls, ppt, html, xml, Breaks, is_far_row, put, sample_of, zeros, signature_of, table, MSI, PDF, ROW_COUNT, ZIP, OpenBox, Compound, Archive, Frame, White, Mark}
use Rattle.std.proofs.lemmas.Option.{none-some, same_Some}
use Rattle.infer_deep.specs.Laws as Deep
use Rattle.infer.proofs.DecisionLemmas.{occurs, after, long_frame, space, wide_mark}
use Rattle.infer_sig.proofs.KnownLemmas.{Known, proved, is, each_known, proof_of, same, at_most, negated, both, either, each_before, needs, takes, ◌>>=◌}
use Rattle.infer.proofs.OrderLemmas.{known_first, some_row}
use Rattle.infer_sig.proofs.OccurrenceLemmas.{ByPlace, not_both}
use Rattle.infer.proofs.TableLemmas.{length-table}

-- a box that ends after the first 1024 bytes
abbrev long_box : List ℕ → List ℕ
long_box sample = put 2 (0x04 ∷ 0x04 ∷ []) (sample ++ zeros 1012)

-- a compound file with the root entry after them
abbrev late_root : List ℕ → List ℕ
late_root id =
    put 1104 id (put 1090 (0x05 ∷ []) (put 48 (0x01 ∷ []) (put 30 (0x09 ∷ 0x00 ∷ []) (put 28 (0xFE ∷ 0xFF ∷ [])
    (put 26 (0x03 ∷ 0x00 ∷ []) (put 0 compound_header (zeros 1152)))))))

-- an archive whose second entry stands after them
abbrev late_entries : List ℕ → List ℕ
late_entries folder =
    put 1165 folder (put 1135 zip_header (put 1109 folder (put 1079 zip_header (put 1049 zip_header
    (put 30 (codes "[Content_Types].xml") (put 0 zip_header (zeros (1165 + length folder))))))))

-- a buffer that the signature accepts by what stands after them, and the answer on the first 1024 bytes: other rows
-- know the beginning of a compound file and of an archive
abbrev late : BuiltIn → List ℕ × Option ℕ
late heif = (long_box (sample_of heif), None)
late avif = (long_box (sample_of avif), None)
late (framed magic) = (after 1 long_frame magic, None)
late (office folder) = (late_entries folder, Some ZIP)
late doc = (late_root word_id, Some MSI)
late xls = (late_root old_excel_id, Some MSI)
late ppt = (late_root powerpoint_id, Some MSI)
late html = (after 1024 space (sample_of html), None)
late xml = (after 1024 space (sample_of xml), None)
late s = ([], None)

abbrev differs : (i : ℕ) (o : Option ℕ) → Known (o ≢ Some i)
differs i None = proved (none-some i)
differs i (Some j) = do
  other ← takes (negated (same j i))
  proved (λ e. other (same_Some j i e))

module _ (by_place : ByPlace) (exclude : Deep.Apart) where
  abbrev breaks_with : (n i : ℕ) (o : Option ℕ) (b : List ℕ) → Known (Breaks n i b)
  breaks_with n i o b = do
    bytes ← takes (each_before (λ x. at_most (suc x) 256) b (length b) (le_refl (length b)))
    long ← takes (at_most (suc n) (length b))
    first ← takes (known_first by_place exclude some_row (Some i) b)
    front_first ← takes (known_first by_place exclude some_row o (take n b))
    other ← takes (differs i o)
    proved (record { bytes = λ k d lt. bytes k d zero-le lt; long = long; first = first; front = o; front_first = front_first; other = other })

  -- the row is not far, or its late buffer breaks
  abbrev breaks : (i : ℕ) → Known (IsTrue (not (is_far_row i)) ⊎ Breaks 1024 i (late (signature_of i)).0)
  breaks i = either (is (not (is_far_row i))) (breaks_with 1024 i (late (signature_of i)).1 (late (signature_of i)).0)

  all_break : (i : ℕ) → i < ROW_COUNT → IsTrue (not (is_far_row i)) ⊎ Breaks 1024 i (late (signature_of i)).0
  unfolding table is_far_row signature_of stands le16 le32 be32
  all_break = each_known breaks ROW_COUNT 8 (refl, (refl, (refl, (refl, (refl, (refl, (refl, (refl, tt)))))))) (omega arith)

  pub broken : (i : ℕ) → IsTrue (is_far_row i) → (buf : List ℕ) × Breaks 1024 i buf
  unfolding is_far_row signature_of
  broken i e = elim (all_break i (grind (arith, slice_get_past table i, length-table))) [
    | inl other ↦ absurd (not_both (is_far_row i) e other)
    | inr h ↦ ((late (signature_of i)).0, h)
  ]

-- ---- how a buffer begins

-- a claim of every beginning
abbrev of_each : {P : Beginning → Type 0} → ((how : Beginning) → Known (P how)) → Known ((how : Beginning) → P how)
of_each k = do
  box ← takes (k OpenBox)
  file ← takes (k Compound)
  entry ← takes (k Archive)
  skipped ← takes (k Frame)
  blank ← takes (k White)
  marked ← takes (k Mark)
  proved (elim [ OpenBox ↦ box | Compound ↦ file | Archive ↦ entry | Frame ↦ skipped | White ↦ blank | Mark ↦ marked ])

module _ (by_place : ByPlace) (b : List ℕ) where
  marked_by : BeginsMarked b → OccursAt b (0xEF ∷ 0xBB ∷ 0xBF ∷ []) 0 ⊎ OccursAt b (0xFE ∷ 0xFF ∷ []) 0 ⊎ OccursAt b (0xFF ∷ 0xFE ∷ []) 0
  marked_by (m, is, o) = grind arith

  abbrev begins : (how : Beginning) → Known (Begins how b)
  begins OpenBox = do
    kind ← needs (occurs by_place b 4 (codes "ftyp")) (λ h. h.kind)
    longer ← needs (at_most (suc (length b)) (be32 b 0)) (λ h. h.longer)
    proved (record { kind = kind; longer = longer })
  begins Compound = occurs by_place b 0 compound_header
  begins Archive =
      both (occurs by_place b 0 zip_header) (either (occurs by_place b 30 (codes "[Content_Types].xml")) (either (occurs by_place b 30 (codes "_rels/.rels")) (occurs by_place b 30 (codes "docProps"))))
  begins Frame = do
    low ← needs (at_most 0x50 (get_or b 0 0)) (λ h. h.low)
    high ← needs (at_most (get_or b 0 0) 0x5F) (λ h. h.high)
    number ← needs (occurs by_place b 1 (0x2A ∷ 0x4D ∷ 0x18 ∷ [])) (λ h. h.mark)
    proved (record { low = low; high = high; mark = number })
  begins White =
      let x = get_or b 0 0 in either (same x 0x09) (either (same x 0x0A) (either (same x 0x0C) (either (same x 0x0D) (same x 0x20))))
  begins Mark = do
    some ← needs (either (occurs by_place b 0 (0xEF ∷ 0xBB ∷ 0xBF ∷ [])) (either (occurs by_place b 0 (0xFE ∷ 0xFF ∷ [])) (occurs by_place b 0 (0xFF ∷ 0xFE ∷ [])))) marked_by
    proved (elim some [ inl o ↦ (_, inl refl, o) | inr (inl o) ↦ (_, inr (inl refl), o) | inr (inr o) ↦ (_, inr (inr refl), o) ])

  abbrev excluded : (how other : Beginning) → Known (Begins other b → other ≡ how)
  excluded OpenBox OpenBox = proved (λ h. refl)
  excluded Compound Compound = proved (λ h. refl)
  excluded Archive Archive = proved (λ h. refl)
  excluded Frame Frame = proved (λ h. refl)
  excluded White White = proved (λ h. refl)
  excluded Mark Mark = proved (λ h. refl)
  excluded how other = do
    none ← takes (negated (begins other))
    proved (λ h. absurd (none h))

-- a buffer that begins so alone, to which bytes after the first 1024 bring the last row that can come
abbrev late_after : Beginning → List ℕ × Option ℕ
late_after Mark = (after 512 wide_mark (sample_of xml), None)
late_after how = late (signature_of (last_after how))

-- one that its 1024th byte decides, and that states no frame which would fit
abbrev late_by_one : List ℕ
late_by_one = put 1020 (codes "%PDF") (put 7 (0xFF ∷ []) (zeros 1024))

module _ (by_place : ByPlace) (exclude : Deep.Apart) where
  abbrev brought : (how : Beginning) → Known (Breaks 1024 (last_after how) (late_after how).0 × BeginsAlone how (take 1024 (late_after how).0))
  brought how =
      let b = (late_after how).0 in let front = take 1024 b in
      both (breaks_with by_place exclude 1024 (last_after how) (late_after how).1 b)
      (both (begins by_place front how) (of_each (excluded by_place front how)))

  pub brought_alone : (how : Beginning) → (buf : List ℕ) × Breaks 1024 (last_after how) buf × BeginsAlone how (take 1024 buf)
  unfolding table signature_of stands le16 le32 be32
  brought_alone how = grind (arith, proof_of (of_each brought) refl how)

  pub by_one_byte : (i : ℕ) × (buf : List ℕ) × (length buf ≡ 1024) × Breaks 1023 i buf × ((how : Beginning) → ¬ Begins how (take 1023 buf))
  unfolding table signature_of stands le16 le32 be32
  by_one_byte = (
    PDF,
    late_by_one,
    refl,
    proof_of (breaks_with by_place exclude 1023 PDF None late_by_one) refl,
    proof_of (of_each (λ how. negated (begins by_place (take 1023 late_by_one) how))) refl,
  )
