-- ZIP archives and packages: the first entry with a property, what more bytes keep and may make, and the bytes that each has.
use Rattle.infer_formats.proofs.Common.{[], ◌≡◌, ◌↔◌, ℕ, ◌+◌, ◌-◌, ◌<◌, ◌≤◌, inl, inr, List, length, codes, get_or, take, drop, add-zero, ap, refl, subst, ◌∙◌, arith, eq-eqb, length-drop, take_rest, OccursAt, Nowhere, Passes, is_byte, zip_header, IsFirstFolder, IsFolderEntry, IsPackageWith, IsPartEntry, MayBeginPackage, applications, IsTrue, zero, suc, ◌/◌, ◌%◌, ◌++◌, cases_lt, le16, AgreesAt, are_bytes, MayBecome, grown_agrees, FirstEntryEndsIn, FirstEntryHasExtra, FirstEntryIs, sym, nat_eq, OccursAt-append, OccursAt-first, ◌∷◌, slice_index, OccursAt-front, nat_tests, and_from, lt-ltb, if◌then◌else◌, nat_lt, le16-append, low_bytes, counted, counted_for, named, lines, package_with, StandsByPlace, accepts, all_but, at_least, stands, part_reads}
use Rattle.infer_formats.specs.Zip.{FirstEntryBegins, HasEntry, IsJavaArchive, IsOneOf, MayBeginFirstName, MayBeginAny, MayHaveFirstEnding, MayHaveFirstField, MayHaveFirstName, MayBePackage, HasFirstName, IsFolder, manifest, manifest_folder}
use Rattle.infer_sig.specs.Signature.{byte, text}
use Rattle.infer_formats.proofs.GrowthLemmas.{there, longer}
use Rattle.infer_formats.proofs.OpenLemmas.{grown_byte}
use Rattle.infer_formats.proofs.OutlineLemmas.{begins, occurs, other, two}
use Rattle.infer_sig.specs.Signature as fixed
use Rattle.infer_formats.specs.Relation.{has_entry, java_archive}
use Rattle.infer_sig.proofs.KnownLemmas.{Known, at_most, either, both, needs, negated, proved, refuted_if, same, takes, ◌>>=◌, ◌>>◌}
use Rattle.infer_sig.proofs.OccurrenceLemmas as Place
use Rattle.infer_sig.proofs.OccurrenceLemmas.{ByPlace}

-- a place with the property is one of a header, so it is none that the search for its first byte passed over
module _ (b : List ℕ) (E : ℕ → Type 0) (headed : (p : ℕ) → E p → OccursAt b zip_header p) (from : ℕ)
    (none : (p : ℕ) → p < from → ¬ E p) where
  pub none_to : (k : ℕ) → Nowhere (Passes (is_byte 0x50) (take (length b - from) (drop from b))) 0 k → (p : ℕ) → p < from + k → ¬ E p
  none_to k lacks p lt is =
      let early = none p in
      let o = headed p is in
      let late = λ (far : from ≤ p).
      let same : from + (p - from) ≡ p = omega arith in
      let fits = o.fits in
      let first : get_or b p 0 ≡ 0x50 = rw add-zero at (o.reads 0 (omega arith)) in
      let read = part_reads b from (length b) (p - from) (omega arith) ∙ ap (λ i. get_or b i 0) same ∙ first in
      lacks (p - from) (omega arith) (omega arith) (eq-eqb _ 0x50 read) in
      grind arith

  pub none_past : (k : ℕ) → Nowhere (Passes (is_byte 0x50) (take (length b - from) (drop from b))) 0 k → ¬ E (from + k)
      → (p : ℕ) → p < from + (k + 1) → ¬ E p
  none_past k lacks absent p lt is =
      let before = none_to k lacks p in
      let here = λ (e : p ≡ from + k). absent (subst E e is) in
      grind arith

  pub none_left : Nowhere (Passes (is_byte 0x50) (take (length b - from) (drop from b))) 0 (length (take (length b - from) (drop from b)))
      → from ≤ length b → (p : ℕ) → ¬ E p
  none_left lacks le p is =
      let o = headed p is in
      let fits = o.fits in
      let long = ap length (take_rest b from) in
      none_to _ lacks p (omega (arith, length-drop from b)) is

-- there is one first folder, and what stands in it decides
pub one_folder : (b : List ℕ) (p q : ℕ) → IsFirstFolder b p → IsFirstFolder b q → p ≡ q
one_folder b p q first other =
    let not_before = first.1 q in let not_after = other.1 p in grind (arith, other.0, first.0)

pub folder_decides : (b name : List ℕ) (q : ℕ) → IsFirstFolder b q
    → OccursAt b name (q + 30) ↔ ((p : ℕ) × IsFirstFolder b p × OccursAt b name (p + 30))
folder_decides b name q first = (
  λ o. (q, first, o),
  λ (p, other, o). subst (λ x. OccursAt b name (x + 30)) (one_folder b p q other first) o,
)

-- ---- the folders of applications

-- what holds of each
of_each : (P : List ℕ → Type 0) → P (codes "word/") → P (codes "xl/") → P (codes "ppt/") → P (codes "visio/") → P (codes "3D/")
    → (f : List ℕ) → IsOneOf f applications → P f
of_each P word xl ppt visio three f (inl e) = subst P (sym e) word
of_each P word xl ppt visio three f (inr (inl e)) = subst P (sym e) xl
of_each P word xl ppt visio three f (inr (inr (inl e))) = subst P (sym e) ppt
of_each P word xl ppt visio three f (inr (inr (inr (inl e)))) = subst P (sym e) visio
of_each P word xl ppt visio three f (inr (inr (inr (inr (inl e))))) = subst P (sym e) three
of_each P word xl ppt visio three f (inr (inr (inr (inr (inr none))))) = absurd (none)

-- they are of three bytes or more
long_folder : (f : List ℕ) → IsOneOf f applications → 3 ≤ length f
long_folder = of_each (λ f. 3 ≤ length f) (omega arith) (omega arith) (omega arith) (omega arith) (omega arith)

-- where one stands in b, the same stands in c, if each text does
carried_folder : (b c : List ℕ) (p : ℕ) → ((t : List ℕ) → length t ≤ 6 → OccursAt b t p → OccursAt c t p) → IsFolder b p → IsFolder c p
carried_folder b c p f (inl o) = inl (f _ (omega arith) o)
carried_folder b c p f (inr (inl o)) = inr (inl (f _ (omega arith) o))
carried_folder b c p f (inr (inr (inl o))) = inr (inr (inl (f _ (omega arith) o)))
carried_folder b c p f (inr (inr (inr (inl o)))) = inr (inr (inr (inl (f _ (omega arith) o))))
carried_folder b c p f (inr (inr (inr (inr o)))) = inr (inr (inr (inr (f _ (omega arith) o))))

-- the folder that stands in an entry
pub entry_of : (b : List ℕ) (p : ℕ) → IsFolderEntry b p → (g : List ℕ) × IsOneOf g applications × OccursAt b g (p + 30)
entry_of b p (h, inl o) = (codes "word/", inl refl, o)
entry_of b p (h, inr (inl o)) = (codes "xl/", inr (inl refl), o)
entry_of b p (h, inr (inr (inl o))) = (codes "ppt/", inr (inr (inl refl)), o)
entry_of b p (h, inr (inr (inr (inl o)))) = (codes "visio/", inr (inr (inr (inl refl))), o)
entry_of b p (h, inr (inr (inr (inr o)))) = (codes "3D/", inr (inr (inr (inr (inl refl)))), o)

-- a package with the folder of an application may begin as any, and one that does so has its first folder there or later
module _ (b folder : List ℕ) (application : IsOneOf folder applications) where
  pub folder_entry : (p : ℕ) → OccursAt b zip_header p → OccursAt b folder (p + 30) → IsFolderEntry b p
  folder_entry p h o = (
    h,
    of_each (λ f. OccursAt b f (p + 30) → IsFolder b (p + 30)) (λ o. inl o) (λ o. inr (inl o)) (λ o. inr (inr (inl o))) (λ o. inr (inr (inr (inl o))))
        (λ o. inr (inr (inr (inr o)))) folder application o,
  )

  begins_any : MayBeginPackage folder b → MayBeginAny b
  begins_any (h, inl o) = (h, inl o)
  begins_any (h, inr (inl o)) = (h, inr (inl o))
  begins_any (h, inr (inr (inl o))) = (h, inr (inr (inl o)))
  begins_any (h, inr (inr (inr o))) = (h, inr (inr (inr (folder_entry 0 h o))))

  begins_with : (q : ℕ) → IsFirstFolder b q → OccursAt b folder (q + 30) → MayBeginAny b → MayBeginPackage folder b
  begins_with q first o (h, inl t) = (h, inl t)
  begins_with q first o (h, inr (inl t)) = (h, inr (inl t))
  begins_with q first o (h, inr (inr (inl t))) = (h, inr (inr (inl t)))
  begins_with q first o (h, inr (inr (inr entry))) =
      let not_before = first.1 0 in
      let same : q ≡ 0 = grind (arith, entry) in
      (h, inr (inr (inr (subst (λ p. OccursAt b folder (p + 30)) same o))))

  pub none_begins : ¬ MayBeginAny b → ¬ IsPackageWith folder b
  none_begins none (may, part, first) = none (begins_any may)

  pub folder_says : (q : ℕ) → MayBeginAny b → ((p : ℕ) × IsPartEntry b p) → IsFirstFolder b q
      → OccursAt b folder (q + 30) ↔ IsPackageWith folder b
  folder_says q may part first =
      let decides = folder_decides b folder q first in
      (λ o. (begins_with q first o may, part, decides.0 o), λ (begins, any, there). decides.1 there)

-- ---- a buffer that grows

module _ (b more : List ℕ) where
  first_name : HasFirstName b → HasFirstName (b ++ more)
  first_name h = record {
    long = longer b more 30 h.long;
    header = OccursAt-append b more zip_header 0 h.header;
    whole = subst (λ n. 30 + n ≤ length (b ++ more)) (sym (le16-append b more 26 (let l = h.long in omega arith))) (longer b more _ h.whole);
  }

  name_length : HasFirstName b → le16 (b ++ more) 26 ≡ le16 b 26
  name_length h = le16-append b more 26 (let l = h.long in omega arith)

  pub first_entry_is-lasts : (name : List ℕ) → FirstEntryIs name b → FirstEntryIs name (b ++ more)
  first_entry_is-lasts name (h, long, o) = (first_name h, name_length h ∙ long, OccursAt-append b more name 30 o)

  pub first_entry_ends_in-lasts : (wanted : List ℕ) → FirstEntryEndsIn wanted b → FirstEntryEndsIn wanted (b ++ more)
  first_entry_ends_in-lasts wanted (h, long, o) = (
    first_name h,
    subst (λ n. length wanted ≤ n) (sym (name_length h)) long,
    subst (λ n. OccursAt (b ++ more) wanted (30 + n - length wanted)) (sym (name_length h)) (OccursAt-append b more wanted _ o),
  )

  pub first_entry_has_extra-lasts : (wanted : List ℕ) → FirstEntryHasExtra wanted b → FirstEntryHasExtra wanted (b ++ more)
  first_entry_has_extra-lasts wanted (h, long, o) = (
    first_name h,
    subst (λ n. length wanted ≤ n) (sym (le16-append b more 28 (let l = h.long in omega arith))) long,
    subst (λ n. OccursAt (b ++ more) wanted (30 + n)) (sym (name_length h)) (OccursAt-append b more wanted _ o),
  )

  first_entry_begins-lasts : (wanted : List ℕ) → FirstEntryBegins wanted b → FirstEntryBegins wanted (b ++ more)
  first_entry_begins-lasts wanted (h, long, o) = (
    first_name h,
    subst (λ n. length wanted ≤ n) (sym (name_length h)) long,
    OccursAt-append b more wanted 30 o,
  )

  part_entry : (p : ℕ) → IsPartEntry b p → IsPartEntry (b ++ more) p
  part_entry p (o, inl t) = (OccursAt-append b more zip_header p o, inl (OccursAt-append b more _ (p + 30) t))
  part_entry p (o, inr t) = (OccursAt-append b more zip_header p o, inr (OccursAt-append b more _ (p + 30) t))

  entry_lasts : (q : ℕ) → IsFolderEntry b q → IsFolderEntry (b ++ more) q
  entry_lasts q (o, h) = (OccursAt-append b more zip_header q o, carried_folder b (b ++ more) (q + 30) (λ t few here. OccursAt-append b more t (q + 30) here) h)

  -- the name of a folder has three bytes or more, and six at most
  folder_inside : (q : ℕ) → IsFolderEntry b q → q + 33 ≤ length b
  folder_inside q h =
      let (g, is_g, o) = entry_of b q h in
      let long = long_folder g is_g in
      let fits = o.fits in omega arith

  folder_front : (k : ℕ) → k + 36 ≤ length b → IsFolderEntry (b ++ more) k → IsFolderEntry b k
  folder_front k le (o, h) = (
    OccursAt-front b more zip_header k (omega arith) o,
    carried_folder (b ++ more) b (k + 30) (λ t few here. OccursAt-front b more t (k + 30) (omega arith) here) h,
  )

  pub begins_package : (folder : List ℕ) → MayBeginPackage folder b → MayBeginPackage folder (b ++ more)
  begins_package folder (o, begins) = (
    OccursAt-append b more zip_header 0 o,
    elim begins [
      | inl t ↦ inl (OccursAt-append b more _ 30 t)
      | inr (inl t) ↦ inr (inl (OccursAt-append b more _ 30 t))
      | inr (inr (inl t)) ↦ inr (inr (inl (OccursAt-append b more _ 30 t)))
      | inr (inr (inr t)) ↦ inr (inr (inr (OccursAt-append b more _ 30 t)))
    ],
  )

  -- the first OccursAt-append b more the first, since headers do not overlap
  pub first_folder-lasts : (q : ℕ) → IsFirstFolder b q → IsFirstFolder (b ++ more) q
  first_folder-lasts q (is, before) = (
    entry_lasts q is,
    λ k lt e.
        let far : k + 4 ≤ q = apart (b ++ more) k q lt e.0 (OccursAt-append b more zip_header q is.0) in
        let inside = folder_inside q is in
        before k lt (folder_front k (omega arith) e),
  )
    where
      apart : (c : List ℕ) (k q : ℕ) → k < q → OccursAt c zip_header k → OccursAt c zip_header q → k + 4 ≤ q
      apart c k q lt o h = elim (cases_lt q (k + 4)) [
        | inr le ↦ le
        | inl near ↦
            let same : k + (q - k) ≡ q = omega arith in
            let first : slice_index c (q + 0) ≡ 0x50 = h.reads 0 (omega arith) in
            let read : slice_index c (k + (q - k)) ≡ slice_index zip_header (q - k) = o.reads (q - k) (omega arith) in
            absurd (other (q - k) (omega arith) (omega arith)
            (sym read ∙ ap (slice_index c) (omega arith) ∙ first))
      ]
        where
          other : (j : ℕ) → 0 < j → j < 4 → slice_index zip_header j ≡ 0x50 → ⊥
          other zero low high e = absurd (omega arith)
          other (suc zero) low high e = absurd (omega arith)
          other (suc (suc zero)) low high e = absurd (omega arith)
          other (suc (suc (suc zero))) low high e = absurd (omega arith)
          other (suc (suc (suc (suc j)))) low high e = absurd (omega arith)

  pub package_with-lasts : (folder : List ℕ) → IsPackageWith folder b → IsPackageWith folder (b ++ more)
  package_with-lasts folder (begins, (p, part), (q, first, f)) =
      (begins_package folder begins, (p, part_entry p part), (q, first_folder-lasts q first, OccursAt-append b more folder (q + 30) f))

-- a place of an entry in b is one of b with more after it
pub has_entry-lasts : (b more name : List ℕ) → HasEntry name b → HasEntry name (b ++ more)
has_entry-lasts b more name (first, (q, (o, sized, stands))) =
    let fits = stands.fits in (
      OccursAt-append b more zip_header 0 first,
      (q, (OccursAt-append b more zip_header q o, le16-append b more (q + 26) (omega arith) ∙ sized, OccursAt-append b more name (q + 30) stands)),
    )

pub java_archive-lasts : (b more : List ℕ) → IsJavaArchive b → IsJavaArchive (b ++ more)
java_archive-lasts b more (begins, inl is) = (first_entry_begins-lasts b more manifest_folder begins, inl (first_entry_is-lasts b more manifest is))
java_archive-lasts b more (begins, inr (inl (folder, later))) = (
  first_entry_begins-lasts b more manifest_folder begins,
  inr (inl (first_entry_is-lasts b more manifest_folder folder, has_entry-lasts b more manifest later)),
)
java_archive-lasts b more (begins, inr (inr extra)) =
    (first_entry_begins-lasts b more manifest_folder begins, inr (inr (first_entry_has_extra-lasts b more (0xFE ∷ 0xCA ∷ []) extra)))

-- ---- the first entry

pub name_known : (name b : List ℕ) → IsTrue (are_bytes b) → MayBecome (FirstEntryIs name) b → MayHaveFirstName name b
unfolding le16
name_known name b b_bytes (more, bytes, (h, is, o)) =
    let c = b ++ more in
    let n = length name in
    let low = grown_byte b more 26 b_bytes bytes in
    let high = grown_byte b more 27 b_bytes bytes in
    record {
      short = omega arith;
      header = grown_agrees b more zip_header 0 h.header;
      sized = grown_agrees b more (low_bytes n) 26 (record { fits = let l = h.long in omega arith; reads = go });
      says = grown_agrees b more name 30 o;
    }
  where
    go : (k : ℕ) → k < 2 → get_or (b ++ more) (26 + k) 0 ≡ get_or (low_bytes (length name)) k 0
    go zero l = let low = grown_byte b more 26 b_bytes bytes in let x : get_or (b ++ more) 26 0 ≡ length name % 256 = omega arith in x
    go (suc zero) l = let low = grown_byte b more 26 b_bytes bytes in let x : get_or (b ++ more) 27 0 ≡ length name / 256 = omega arith in x
    go (suc (suc k)) l = absurd (omega arith)

pub ending_known : (wanted b : List ℕ) → MayBecome (FirstEntryEndsIn wanted) b → MayHaveFirstEnding wanted b
ending_known wanted b (more, bytes, (h, long, o)) = record {
  header = grown_agrees b more zip_header 0 h.header;
  says = λ whole.
      let same = le16-append b more 26 (omega arith) in
      (subst (λ n. length wanted ≤ n) same long, subst (λ n. AgreesAt b wanted (30 + n - length wanted)) same (grown_agrees b more wanted _ o));
}

pub extra_known : (wanted b : List ℕ) → MayBecome (FirstEntryHasExtra wanted) b → MayHaveFirstField wanted b
extra_known wanted b (more, bytes, (h, long, o)) = record {
  header = grown_agrees b more zip_header 0 h.header;
  says = λ whole.
      let same = le16-append b more 26 (omega arith) in (
        subst (λ n. length wanted ≤ n) (le16-append b more 28 (omega arith)) long,
        subst (λ n. AgreesAt b wanted (30 + n)) same (grown_agrees b more wanted _ o),
      );
}

pub java_known : (b : List ℕ) → MayBecome IsJavaArchive b → MayBeginFirstName manifest_folder b
java_known b (more, bytes, ((h, long, o), kind)) = (grown_agrees b more zip_header 0 h.header, grown_agrees b more manifest_folder 30 o)

-- ---- a package

-- the one that begins with the byte
abbrev by_first : ℕ → List ℕ
by_first x =
    if nat_eq x 0x77 then codes "word/" else if nat_eq x 0x78 then codes "xl/" else if nat_eq x 0x70 then codes "ppt/" else if nat_eq x 0x76
    then codes "visio/" else codes "3D/"

same_folder : (f g : List ℕ) → IsOneOf f applications → IsOneOf g applications → get_or f 0 0 ≡ get_or g 0 0 → f ≡ g
same_folder f g is other e =
    let told = of_each (λ t. t ≡ by_first (get_or t 0 0)) refl refl refl refl refl in
    told f is ∙ ap by_first e ∙ sym (told g other)

-- ---- a buffer that grows

-- if the first folder of an application stands in b, it is this one
pub first_known : (folder b : List ℕ) → IsOneOf folder applications → (q : ℕ) → IsFirstFolder b q → MayBecome (IsPackageWith folder) b
    → OccursAt b folder (q + 30)
first_known folder b application q is (more, bytes, (begins, part, (p, other, o))) =
    let c = b ++ more in
    let same = one_folder c p q other (first_folder-lasts b more q is) in
    let there = subst (λ x. OccursAt c folder (x + 30)) same o in
    let (g, is_g, stands) = entry_of b q is.0 in
    let later = OccursAt-append b more g (q + 30) stands in
    let long = long_folder g is_g in
    let long_f = long_folder folder application in
    let bytes_same : get_or folder 0 0 ≡ get_or g 0 0 = sym (OccursAt-first c folder (q + 30) (omega arith) there) ∙ OccursAt-first c g (q + 30) (omega arith) later in
    subst (λ t. OccursAt b t (q + 30)) (sym (same_folder folder g application is_g bytes_same)) stands

-- none is reached if b cannot begin as one
pub begun_so : (folder b : List ℕ) → MayBecome (IsPackageWith folder) b → MayBePackage folder b
begun_so folder b (more, bytes, ((o, may), parts, folders)) = (
  grown_agrees b more zip_header 0 o,
  elim may [
    | inl t ↦ inl (grown_agrees b more _ 30 t)
    | inr (inl t) ↦ inr (inl (grown_agrees b more _ 30 t))
    | inr (inr (inl t)) ↦ inr (inr (inl (grown_agrees b more _ 30 t)))
    | inr (inr (inr t)) ↦ inr (inr (inr (grown_agrees b more _ 30 t)))
  ],
)

-- ---- the bytes that each has

module _ (by_place : (place : ℕ) (t buf : List ℕ) → IsTrue (stands place t buf) ↔ StandsByPlace place t buf) (b : List ℕ) where
  -- one by_place b of the two by_place b bytes of a number that is not 0
  abbrev counted_at : ℕ → fixed.Alternative
  counted_at p = at_least 30 (text 0 zip_header ∷ byte p (all_but 0x00) ∷ [])

  counted_line : (p : ℕ) (others : List fixed.Alternative) → HasFirstName b → p < 30 → 1 ≤ slice_index b p → IsTrue (accepts (counted_at p ∷ others) b)
  counted_line p others h low some =
      let lt : p < length b = let long = h.long in omega arith in
      two by_place b 30 (text 0 zip_header) (byte p (all_but 0x00)) others h.long (occurs by_place b 0 zip_header h.header) (and_from (nat_lt p (length b)) _ (lt-ltb p (length b) lt) (grind (arith, nat_tests)))

  counted_lines : (place : ℕ) → HasFirstName b → place + 1 < 30 → 1 ≤ le16 b place → IsTrue (accepts (counted place) b)
  unfolding le16
  counted_lines place h low some = elim (cases_lt 0 (slice_index b place)) [
    | inl lt ↦ counted_line place (counted_at (place + 1) ∷ []) h (omega arith) (omega arith)
    | inr le ↦ other by_place b (counted_at place) (counted_at (place + 1) ∷ []) (counted_line (place + 1) [] h low (omega arith))
  ]

  pub counted_for_lines : (t : List ℕ) (place : ℕ) → HasFirstName b → place + 1 < 30 → length t ≤ le16 b place → IsTrue (accepts (counted_for t place) b)
  counted_for_lines [] place h low le = begins by_place b 30 zip_header h.long h.header
  counted_for_lines (x ∷ t) place h low le = counted_lines place h low (omega arith)

  pub entry_lines : (name : List ℕ) → HasEntry name b → IsTrue (accepts (lines (has_entry name)) b)
  entry_lines name h = begins by_place b 4 zip_header (let fits = h.0.fits in omega arith) h.0

  pub named_part : (name : List ℕ) (others : List fixed.Alternative) → OccursAt b zip_header 0 → OccursAt b name 30 → IsTrue (accepts (named name ∷ others) b)
  named_part name others o t = two by_place b 30 (text 0 zip_header) (text 30 name) others (let fits = t.fits in omega arith) (occurs by_place b 0 zip_header o) (occurs by_place b 30 name t)

  pub java_lines : IsJavaArchive b → IsTrue (accepts (lines java_archive) b)
  java_lines ((h, long, o), kind) = named_part manifest_folder [] h.header o

  pub package_lines : (folder : List ℕ) → MayBeginPackage folder b → IsTrue (accepts (lines (package_with folder)) b)
  package_lines folder (o, h) =
      let types = named (codes "[Content_Types].xml") in let links = named (codes "_rels/") in let about = named (codes "docProps/") in
      let last = named folder ∷ [] in elim h [
        | inl t ↦ named_part (codes "[Content_Types].xml") (links ∷ about ∷ last) o t
        | inr (inl t) ↦ other by_place b types (links ∷ about ∷ last) (named_part (codes "_rels/") (about ∷ last) o t)
        | inr (inr (inl t)) ↦ other by_place b types (links ∷ about ∷ last) (other by_place b links (about ∷ last) (named_part (codes "docProps/") last o t))
        | inr (inr (inr t)) ↦ other by_place b types (links ∷ about ∷ last) (other by_place b links (about ∷ last) (other by_place b about last (named_part folder [] o t)))
      ]

-- ---- what a computation says of the entries of a ZIP archive

module _ (by_place : ByPlace) (b : List ℕ) where
  abbrev known_first_name : Known (HasFirstName b)
  known_first_name = do
    long ← takes (at_most 30 (length b))
    header ← takes (Place.occurs by_place zip_header b 0)
    whole ← takes (at_most (30 + le16 b 26) (length b))
    proved (record { long = long; header = header; whole = whole })

  abbrev known_folder : (q : ℕ) → Known (IsFolderEntry b q)
  known_folder q =
      both (Place.occurs by_place zip_header b q)
      (either (Place.occurs by_place (codes "word/") b (q + 30)) (either (Place.occurs by_place (codes "xl/") b (q + 30)) (either (Place.occurs by_place (codes "ppt/") b (q + 30))
      (either (Place.occurs by_place (codes "visio/") b (q + 30)) (Place.occurs by_place (codes "3D/") b (q + 30))))))

  pub none_nearer : (n : ℕ) → ((k : ℕ) → k < n → ¬ IsFolderEntry b k) → ¬ IsFolderEntry b n → (k : ℕ) → k < suc n → ¬ IsFolderEntry b k
  none_nearer n before absent k lt = elim (cases_lt k n) [
    | inl l ↦ before k l
    | inr le ↦ let e : n ≡ k = omega arith in subst (λ i. ¬ IsFolderEntry b i) e absent
  ]

  abbrev no_folder_before : (n : ℕ) → Known ((k : ℕ) → k < n → ¬ IsFolderEntry b k)
  no_folder_before zero = proved (λ k lt. absurd (omega arith))
  no_folder_before (suc n) = do
    before ← takes (no_folder_before n)
    absent ← takes (negated (known_folder n))
    proved (none_nearer n before absent)

  -- if the first folder has its header at 6, it is the one that is asked
  pub asked_at_6 : (folder : List ℕ) → IsFolderEntry b 6 → ((k : ℕ) → k < 6 → ¬ IsFolderEntry b k) → IsPackageWith folder b → OccursAt b folder 36
  asked_at_6 folder named before (begins, part, (q, (is_entry, none), o)) = elim (cases_lt q 6) [
    | inl lt ↦ absurd (before q lt is_entry)
    | inr le ↦ elim (cases_lt 6 q) [
      | inl lt ↦ absurd (none 6 lt named)
      | inr high ↦ let e : q + 30 ≡ 36 = omega arith in subst (OccursAt b folder) e o
    ]
  ]

  -- the links of a package first, and a folder whose header is at 6
  abbrev pub known_package : (folder : List ℕ) → Known (IsPackageWith folder b)
  known_package folder = do
    named ← takes (known_folder 6)
    before ← takes (no_folder_before 6)
    is_it ← needs (Place.occurs by_place folder b 36) (asked_at_6 folder named before)
    header ← takes (Place.occurs by_place zip_header b 0)
    links ← takes (Place.occurs by_place (codes "_rels/") b 30)
    proved ((header, inr (inl links)), (0, (header, inr links)), (6, (named, before), is_it))

  abbrev known_at_48 : (name : List ℕ) → Known (HasEntry name b)
  known_at_48 name = do
    first ← takes (Place.occurs by_place zip_header b 0)
    header ← takes (Place.occurs by_place zip_header b 48)
    long ← takes (same (le16 b 74) (length name))
    stands ← takes (Place.occurs by_place name b 78)
    proved (first, (48, (header, long, stands)))

  pub unnamed : (name : List ℕ) → IsTrue (Place.lacks 0 (suc (length b)) name b) → ¬ HasEntry name b
  unnamed name none (first, (q, (o, sized, stands))) = Place.nowhere_from by_place name b 0 (q + 30) (omega arith) none stands

  -- an entry after the first, or no such name
  abbrev pub known_later : (name : List ℕ) → Known (HasEntry name b)
  known_later name = ◌>>◌ (known_at_48 name) (refuted_if (Place.lacks 0 (suc (length b)) name b) (unnamed name))

  abbrev pub known_entry : (name : List ℕ) → Known (FirstEntryIs name b)
  known_entry name = do
    entry ← takes known_first_name
    long ← takes (same (le16 b 26) (length name))
    stands ← takes (Place.occurs by_place name b 30)
    proved (entry, long, stands)

  abbrev pub known_ending : (t : List ℕ) → Known (FirstEntryEndsIn t b)
  known_ending t = do
    name ← takes known_first_name
    long ← needs (at_most (length t) (le16 b 26)) (λ h. h.1)
    ends ← needs (Place.occurs by_place t b (30 + le16 b 26 - length t)) (λ h. h.2)
    proved (name, long, ends)

  abbrev pub known_extra : (t : List ℕ) → Known (FirstEntryHasExtra t b)
  known_extra t = do
    name ← takes known_first_name
    long ← takes (at_most (length t) (le16 b 28))
    stands ← takes (Place.occurs by_place t b (30 + le16 b 26))
    proved (name, long, stands)

  -- the manifest first, or another folder
  abbrev pub known_java : Known (IsJavaArchive b)
  known_java = do
    name ← takes known_first_name
    stands ← needs (Place.occurs by_place manifest_folder b 30) (λ h. h.0.2)
    long ← takes (at_most (length manifest_folder) (le16 b 26))
    is ← takes (known_entry manifest)
    proved ((name, long, stands), inl is)
