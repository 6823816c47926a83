-- The root entry of a compound file lasts.
use Rattle.infer_deep.proofs.Common.{IsTrue, ◌≡◌, ◌↔◌, ◌⊎◌, inl, inr, ℕ, ◌+◌, ◌*◌, ◌<◌, ◌≤◌, ◌∙◌, List, [], ◌∷◌, ◌++◌, Some, length, take, drop, get_or, get_or-take, get_or-drop, take_at, at_from_reads, refl, sym, subst, ap, arith, length-append, OccursAt, le16, le32, are_bytes, AgreesAt, get_or_append_left, Lasts, ComesWith, IsEarly, MayBecome, IsXls, BeginsRoot, IsRoot, HasClassId, MayHaveRoot, compound_header, format_3, format_4}
use Rattle.infer_deep.proofs.OpenLemmas.{agrees_past, bytes_from_test, fills_parts, grown_agrees, kept, kept_agrees, kept_bytes, kept_ends, kept_numbers}
use Rattle.infer_deep.specs.ClassId.{BeginsCompound}
use Rattle.infer_deep.proofs.NumberLemmas.{le16-append, le32-append}
use Rattle.infer_deep.proofs.PlaceLemmas.{byte_stands, OccursAt-append, OccursAt-first, OccursAt-front}

pub HasClassId-lasts : (id : List ℕ) → Lasts (HasClassId id)
HasClassId-lasts id b more (root, r, o) =
    let grown : IsRoot (b ++ more) root = grind (arith, le16-append, le32-append, OccursAt-append, length-append, get_or_append_left) in
    (root, grown, OccursAt-append b more id (root + 80) o)

pub IsXls-lasts : Lasts IsXls
IsXls-lasts b more h = grind (arith, HasClassId-lasts)

pub BeginsCompound-early : IsEarly BeginsCompound
BeginsCompound-early b more long o = OccursAt-front b more compound_header 0 (omega arith) o

pub HasClassId-comes : (id : List ℕ) → ComesWith (HasClassId id) BeginsCompound
HasClassId-comes id b more long (root, r, o) = inr (BeginsCompound-early b more long r.header)

-- ---- what more bytes can bring

-- the numbers at 26 and 30 and the byte order between them are six bytes
abbrev format_of : ℕ → ℕ → List ℕ
format_of version shift = version ∷ 0x00 ∷ 0xFE ∷ 0xFF ∷ shift ∷ 0x00 ∷ []

module _ (c : List ℕ) (version shift : ℕ) where
  numbers_of_format : OccursAt c (format_of version shift) 26 → (le16 c 26 ≡ version) × OccursAt c (0xFE ∷ 0xFF ∷ []) 28 × (le16 c 30 ≡ shift)
  unfolding le16
  numbers_of_format o = grind arith

  format_of_numbers : version < 256 → shift < 256 → 32 ≤ length c → le16 c 26 ≡ version → OccursAt c (0xFE ∷ 0xFF ∷ []) 28 → le16 c 30 ≡ shift
      → OccursAt c (format_of version shift) 26
  unfolding le16
  format_of_numbers v s long at_26 order at_30 = grind arith

-- of a format and its sector size
module _ (version shift size : ℕ) (format_bytes : IsTrue (are_bytes (format_of version shift))) (large : 512 ≤ size)
    (begins : (d : List ℕ) (root : ℕ) → le16 d 26 ≡ version → le16 d 30 ≡ shift → root ≡ (le32 d 48 + 1) * size → BeginsRoot d root) where
  root_past : (n : ℕ) → 512 ≤ (n + 1) * size
  root_past n = grind arith

  root_reached : (id b : List ℕ) → IsTrue (are_bytes id) → length id ≡ 16 → AgreesAt b compound_header 0 → MayHaveRoot (format_of version shift) size id b → MayBecome (HasClassId id) b
  root_reached id b bytes long header r =
      let root = (le32 b 48 + 1) * size in
      let past = root_past (le32 b 48) in
      let f = fills_parts (record { place = 0; text = compound_header } ∷ record { place = 26; text = format_of version shift } ∷ kept b 48 4
      ∷ record { place = root + 66; text = 5 ∷ [] } ∷ record { place = root + 80; text = id } ∷ []) b 0 (root + 128)
      (omega arith, refl, (omega arith, format_bytes, (omega arith, kept_bytes b 48 4, (omega (arith, kept_ends), refl, (omega arith, bytes, omega arith)))))
      (header, (r.header, (kept_agrees b 48 4, (r.kind, (r.says, tt))))) in
      let c = b ++ f.more in
      let numbers = numbers_of_format c version shift f.holds.1.0 in
      let same = ap (λ (x : ℕ). (x + 1) * size) (sym (kept_numbers b f.more 48 f.holds.1.1.0).0) in
      let entry : IsRoot c root = record {
        header = f.holds.0;
        byte_order = numbers.1;
        begins = begins c root numbers.0 numbers.2 same;
        whole = omega (arith, f.long);
        kind = OccursAt-first c (5 ∷ []) (root + 66) (omega arith) f.holds.1.1.1.0;
      } in
      (f.more, f.bytes, (root, entry, f.holds.1.1.1.1.0))

  root_known : (id b more : List ℕ) (root : ℕ) → IsRoot (b ++ more) root → OccursAt (b ++ more) id (root + 80)
      → le16 (b ++ more) 26 ≡ version → le16 (b ++ more) 30 ≡ shift → root ≡ (le32 (b ++ more) 48 + 1) * size → MayHaveRoot (format_of version shift) size id b
  root_known id b more root r o at_26 at_30 is =
      let past = root_past (le32 b 48) in
      let far = root_past (le32 (b ++ more) 48) in
      let earlier : (text : List ℕ) (n : ℕ) → OccursAt (b ++ more) text (root + n) → AgreesAt b text ((le32 b 48 + 1) * size + n)
      = λ text n stands. grind (arith, agrees_past b text, grown_agrees b more text (root + n) stands, le32-append b more 48) in
      let whole = r.whole in
      record {
        header = grown_agrees b more _ 26 (format_of_numbers (b ++ more) version shift (bytes_from_test (format_of version shift) format_bytes 0 0 (omega arith)) (bytes_from_test (format_of version shift) format_bytes 4 0 (omega arith)) (omega arith) at_26 r.byte_order at_30);
        kind = earlier (5 ∷ []) 66 (byte_stands (b ++ more) 5 (root + 66) (omega arith) r.kind);
        says = earlier id 80 o;
      }

pub class_id_reached : (id b : List ℕ) → IsTrue (are_bytes id) → length id ≡ 16
    → (AgreesAt b compound_header 0 × (MayHaveRoot format_3 512 id b ⊎ MayHaveRoot format_4 4096 id b)) ↔ MayBecome (HasClassId id) b
class_id_reached id b bytes long = (
  λ (header, h). elim h [
    | inl r ↦ root_reached 3 9 512 refl (omega arith) (λ d root x y z. inl (x, y, z)) id b bytes long header r
    | inr r ↦ root_reached 4 12 4096 refl (omega arith) (λ d root x y z. inr (x, y, z)) id b bytes long header r
  ],
  λ (more, all, (root, r, o)).
      let third = root_known 3 9 512 refl (omega arith) (λ d p i j k. inl (i, j, k)) id b more root r o in
      let fourth = root_known 4 12 4096 refl (omega arith) (λ d p i j k. inr (i, j, k)) id b more root r o in
      grind (arith, grown_agrees b more compound_header 0 r.header, r.begins, third, fourth),
)

-- ---- which class id it has

-- the n bytes from a place on are the text exactly if it stands there
cut_out : (b text : List ℕ) (p n : ℕ) → length text ≡ n → p + n ≤ length b → OccursAt b text p ↔ (take n (drop p b) ≡ text)
cut_out b text p n long fits = (
  λ o. rw (sym long) (ap (take (length text)) (at_from_reads 0 b text p o.fits o.reads) ∙ take_at text _ (length text) refl),
  λ e. record {
    fits = omega (arith, long, fits);
    reads = λ j l. sym (ap (λ t. get_or t j 0) (sym e) ∙ get_or-take n (drop p b) j 0 (omega (arith, l, long)) ∙ get_or-drop p b j 0);
  },
)

pub class_id_read : (b id : List ℕ) (root n : ℕ) → n ≡ 16 → IsRoot b root → length id ≡ 16
    → HasClassId id b ↔ (Some (take n (drop (root + 80) b)) ≡ Some id)
class_id_read b id root n e r long =
    let whole = r.whole in
    let cut = cut_out b id (root + 80) n (omega arith) (omega arith) in (
      λ (other, k, o). let same : other ≡ root = grind arith in ap Some (cut.0 (subst (λ p. OccursAt b id (p + 80)) same o)),
      λ h. (root, r, cut.1 (grind (arith, h))),
    )
