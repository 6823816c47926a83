-- By the index just those rows are found that widen an answer.
use Rattle.std.proofs.lemmas.Bool.{ltb-true, or_cases, or_left, or_right}
use Rattle.infer_more.proofs.Common.{◌≡◌, ◌↔◌, ℕ, zero, suc, ◌+◌, ◌++◌, ◌<◌, ◌≤◌, ◌==◌, inl, inr, ◌⊎◌, Bool, true, false, IsTrue, List, [], ◌∷◌, Option, None, Some, length, get_or, ap, sym, ◌∙◌, subst, arith, refl, ◌&&◌, ◌||◌, slice_index, nat_le, nat_lt, list_all, list_any, option_map_or, cases_lt, eqb-true, leb-true, get_or_default, slice_get_cases, Bor, IsJson, IsJsonLines, BeginsElement, IsRootElement, IsXmlSpace, there, IsProgram, IsOneOf, IsPackageWith, applications, accepts, fits, stands, StandsByPlace, IsBuffer, is_listed, IsFoundBelow, IsLeast, IsNamed, IsOfProgram, IsRooted, IsRowOf, IsTried, ascends, candidates, is_covered, is_plain, is_tried_parentless, is_true_below, named_row, tried_parentless, lines, Further, Accepted, Fits, related, json_lines, json_text, package_with, plain_text, program, root, root_with, further, Widens, WidensAt, Nothing, Named, Parentless, FURTHER_COUNT, and_from, bucket_of, class_id, if◌then◌else◌, not, eq-eqb, HasText, IsNamedWith}
use Rattle.std.specs.Prelude.{slice_get}
use Rattle.std.proofs.lemmas.List.Sums.{AllPass-from_list_all}
use Rattle.infer_deep.specs.ClassId.{HasClassId}
use Rattle.infer_formats.proofs.MarkupLemmas.{not_space}
use Rattle.infer_formats.proofs.KeyLemmas.{first_same, key_first, markup_first}
use Rattle.infer_formats.specs.FirstKey.{HasFirstKey, HasFirstKeyWith, HasValue, IsFirstKey, StandsFirst, has_no_quote}
use Rattle.infer_formats.specs.Json.{IsBlank}
use Rattle.infer_formats.specs.Laws.{Leads}
use Rattle.infer_formats.specs.Relation.{directory_tag, directory_tag_and_make, first_key, first_key_with}
use Rattle.infer_formats.specs.Tiff.{HasTag}
use Rattle.infer_formats.specs.Markup.{HasInTag, MayBeRooted}
use Rattle.infer_sig.specs.Signature as fixed
use Rattle.infer_sig.proofs.OccurrenceLemmas.{not_both}
use Rattle.infer_more.specs.Index.{AllApplications, AreClassIds, AreWaysBelow, EachIsByLead, EachIsFoundByName, EachParentlessIsFound, FindsBelow, FindsByLead, FindsParentless, IsFoundParentless, IsKeyed, IsFoundByName, IsWayBelow, IsTextRow, MayHaveName, all_ascend, are_keyed, are_rooted, are_roots_of, are_texts, are_true, asks_class_id, asks_folder, asks_key, asks_program, asks_root, below_at, bucket_by, has_byte, has_named, is_application, is_child, is_found_below, is_found_parentless, is_in_class_ids, is_in_folders, is_in_keys, is_in_programs, is_in_roots, is_json, is_lines, is_of_name, is_of_tag, is_row_below, is_row_parentless, is_row_parentless_found, is_row_with, is_text_row, is_found_by_name, is_tried_below, bucket_at, same, same_text, name_at}
use Rattle.infer_notation.specs.Alternative.{Alternative}
use Rattle.infer_evidence.specs.declared.spans.Span.{Span}
use Rattle.infer_more.specs.declared.index.Below as below
use Rattle.infer_more.specs.declared.index.Below.TheVariants.{ClassIds, Entries, Packages, Programs, Roots, Tagged}
use Rattle.infer_more.specs.declared.index.Entry.{Entry}
use Rattle.infer_more.specs.declared.index.ByLead.{ByLead}
use Rattle.infer_more.specs.declared.index.Texts.{Texts}
use Rattle.infer_more.specs.declared.index.ByName.{ByName}
use Rattle.infer_more.proofs.IndexLemmas.{both_left, both_right, covered_here, listed_left, listed_right, parentless_here}
use Rattle.infer_more.proofs.LeastLemmas.{least_both, least_late, least_same, read_at}
use Rattle.infer_more.proofs.OutlineLemmas.{has_lines, small_bytes}
use Rattle.infer_more.proofs.NearLemmas.{element_by, element_is, near, near_is}
use Rattle.infer_more.proofs.TableLemmas.{NoRowFails, each_row}
use Rattle.infer_more.specs.Index.{entries_at, entries_by, is_by_lead, led_rows, text_rows}
use Rattle.infer_more.specs.Wider.{IsWidest}
use Rattle.std.proofs.Common.{ap₂}

-- what is computed to be the same is the same
same_true : (xs ys : List ℕ) → IsTrue (same xs ys) → xs ≡ ys
same_true [] [] h = refl
same_true [] (y ∷ ys) h = absurd (cc)
same_true (x ∷ xs) [] h = absurd (cc)
same_true (x ∷ xs) (y ∷ ys) h =
    let first : x ≡ y = eqb-true x y (both_left (x == y) _ h) in
    let rest = same_true xs ys (both_right (x == y) _ h) in
    subst (λ z. x ∷ xs ≡ z ∷ ys) first (ap (λ l. x ∷ l) rest)

-- a name that is listed has its row
listed_name : (P : List ℕ → Type 0) (i : ℕ) (names : List Named) (name : List ℕ) → IsTrue (has_named i names name None) → P name → IsNamed P names i
listed_name P i [] name h p = absurd (cc)
listed_name P i (e ∷ names) name h p = elim (or_cases (e.row == i && (same (name_at e.name) name && same_text e.text None)) _ h) [
  | inl here ↦
      let named = both_right (e.row == i) (same (name_at e.name) name && same_text e.text None) here in
      inl (eqb-true e.row i (both_left (e.row == i) _ here), subst P (sym (same_true (name_at e.name) name (both_left (same (name_at e.name) name) _ named))) p)
  | inr later ↦ inr (listed_name P i names name later p)
]

-- what each list has, that of a name has
listed_at : {A : Type 0} (Q : List A → Bool) → IsTrue (Q []) → (lists : List (Bor (List A))) (i : ℕ) → IsTrue (list_all (λ names. Q names.now) lists) → IsTrue (Q (bucket_at lists i))
listed_at Q none [] i h = none
listed_at Q none (names ∷ lists) zero h = both_left (Q names.now) _ h
listed_at Q none (names ∷ lists) (suc i) h = listed_at Q none lists i (both_right (Q names.now) _ h)

pub listed_in_bucket : {A : Type 0} (Q : List A → Bool) → IsTrue (Q []) → (bits : ℕ → ℕ) (lists : List (Bor (List A))) (name : List ℕ) → IsTrue (list_all (λ names. Q names.now) lists)
    → IsTrue (Q (bucket_by bits lists name))
listed_in_bucket Q none bits lists [] h = none
listed_in_bucket Q none bits lists (x ∷ xs) h = listed_at Q none lists (bits x) h

-- and so has one with a text, if there is one
abbrev OwnText : (List ℕ → Type 0) → Option (List ℕ) → Type 0
OwnText P None = Unit {0}
OwnText P (Some u) = P u

text_has : (P : List ℕ → Type 0) (t : Option Span) (u : Option (List ℕ)) → IsTrue (same_text t u) → OwnText P u → HasText P t
text_has P None None h p = tt
text_has P None (Some u) h p = absurd (cc)
text_has P (Some t) None h p = absurd (cc)
text_has P (Some t) (Some u) h p = subst P (sym (same_true (name_at t) u h)) p

listed_with : (P : List ℕ → Type 0) (i : ℕ) (names : List Named) (name : List ℕ) (u : Option (List ℕ)) → IsTrue (has_named i names name u)
    → OwnText P u → IsNamedWith P name names i
listed_with P i [] name u h p = absurd (cc)
listed_with P i (e ∷ names) name u h p = elim (or_cases (e.row == i && (same (name_at e.name) name && same_text e.text u)) _ h) [
  | inl here ↦
      let both = both_right (e.row == i) (same (name_at e.name) name && same_text e.text u) here in
      inl (eqb-true e.row i (both_left (e.row == i) _ here), (same_true (name_at e.name) name (both_left (same (name_at e.name) name) _ both), text_has P e.text u (both_right (same (name_at e.name) name) _ both) p))
  | inr later ↦ inr (listed_with P i names name u later p)
]

-- what is left after the colon is that of the key
first_key_left : (key b : List ℕ) → IsTrue (has_no_quote key) → HasFirstKey key b → (rest : List ℕ) × IsFirstKey key rest b
first_key_left key b dark (inl (rest, begins)) = (rest, (dark, inl begins))
first_key_left key b dark (inr (w, e, (rest, begins))) = (rest, (dark, inr (w, e, begins)))

first_key_value : (key v b : List ℕ) → IsTrue (has_no_quote key) → HasFirstKeyWith key v b → (rest : List ℕ) × IsFirstKey key rest b × HasValue v rest
first_key_value key v b dark (inl (rest, left, begins, value)) = (rest, (dark, inl begins), (left, value))
first_key_value key v b dark (inr (w, e, (rest, left, begins, value))) = (rest, (dark, inr (w, e, begins)), (left, value))

-- what fits an alternative is found
module _ (by_place : (place : ℕ) (t buf : List ℕ) → IsTrue (stands place t buf) ↔ StandsByPlace place t buf) (leads : Leads) (b : List ℕ) (small : (k : ℕ) → slice_index b k < 256) (i : ℕ) where
  line_tried : (entries : List Entry) (some : List fixed.Alternative) → IsTrue (list_all (λ l. is_covered i l entries) some) → IsTrue (accepts some b)
      → IsTrue (is_listed (candidates b entries) i)
  line_tried entries [] h k = absurd (cc)
  line_tried entries (l ∷ some) h k = elim (or_cases (fits b l) _ k) [
    | inl e ↦ covered_here by_place b i l entries (both_left (is_covered i l entries) _ h) e
    | inr e ↦ line_tried entries some (both_right (is_covered i l entries) _ h) e
  ]

  line_tried_parentless : (index : Parentless) (some : List fixed.Alternative) → IsTrue (list_all (is_tried_parentless (entries_at index) index.spots.now i) some) → IsTrue (accepts some b)
      → IsTrue (is_listed (tried_parentless index b) i)
  line_tried_parentless index [] h k = absurd (cc)
  line_tried_parentless index (l ∷ some) h k = elim (or_cases (fits b l) _ k) [
    | inl e ↦ parentless_here by_place index b i l (both_left (is_tried_parentless (entries_at index) index.spots.now i l) _ h) e
    | inr e ↦ line_tried_parentless index some (both_right (is_tried_parentless (entries_at index) index.spots.now i l) _ h) e
  ]

  -- or few bytes leave it
  line_by_lead : (by_lead : ByLead) (some : List fixed.Alternative)
      → IsTrue (list_all (λ l. is_tried_parentless (entries_at by_lead.index) by_lead.index.spots.now i l || is_covered i l by_lead.beside.now) some) → IsTrue (accepts some b)
      → IsTrue (is_listed (tried_parentless by_lead.index b ++ candidates b by_lead.beside.now) i)
  line_by_lead by_lead [] h k = absurd (cc)
  line_by_lead by_lead (l ∷ some) h k =
      let here = is_tried_parentless (entries_at by_lead.index) by_lead.index.spots.now i l in
      elim (or_cases (fits b l) _ k) [
        | inl e ↦ elim (or_cases here _ (both_left (here || is_covered i l by_lead.beside.now) _ h)) [
          | inl at_spot ↦ listed_left (tried_parentless by_lead.index b) _ i (parentless_here by_place by_lead.index b i l at_spot e)
          | inr other ↦ listed_right (tried_parentless by_lead.index b) _ i (covered_here by_place b i l by_lead.beside.now other e)
        ]
        | inr e ↦ line_by_lead by_lead some (both_right (here || is_covered i l by_lead.beside.now) _ h) e
      ]

  text_listed : (t : Texts) (a : Alternative) → IsTrue (is_text_row t i a) → IsTrue (is_listed (text_rows t) i)
  text_listed t (related json_lines) h = or_left (t.lines == i) _ h
  text_listed t (related json_text) h = or_right (t.lines == i) _ (or_left (t.json == i) _ h)
  text_listed t (related plain_text) h = or_right (t.lines == i) _ (or_right (t.json == i) _ (or_left (t.plain == i) _ h))
  text_listed t other h = absurd (cc)

  led_by : (by_lead : ByLead) (signature : List Alternative) → IsTrue (list_all (is_by_lead (entries_at by_lead.index) by_lead.index.spots.now by_lead.beside.now by_lead.index.texts i) signature) → Accepted signature b
      → IsTrue (is_listed (led_rows by_lead b) i)
  led_by by_lead [] h k = absurd (k)
  led_by by_lead (a ∷ signature) h (inr k) =
      led_by by_lead signature (both_right (is_by_lead (entries_at by_lead.index) by_lead.index.spots.now by_lead.beside.now by_lead.index.texts i a) _ h) k
  led_by by_lead (a ∷ signature) h (inl k) =
      elim (or_cases (is_text_row by_lead.index.texts i a) _ (both_left (is_by_lead (entries_at by_lead.index) by_lead.index.spots.now by_lead.beside.now by_lead.index.texts i a) _ h)) [
        | inl text ↦ listed_right (tried_parentless by_lead.index b ++ candidates b by_lead.beside.now) _ i (text_listed by_lead.index.texts a text)
        | inr rows ↦ listed_left (tried_parentless by_lead.index b ++ candidates b by_lead.beside.now) _ i (line_by_lead by_lead (lines a) rows (has_lines leads b a (λ plain. small) k))
      ]

  tried : (entries : List Entry) (a : Alternative) → IsTrue (is_tried_below i entries a) → Fits a b → IsTrue (is_listed (candidates b entries) i)
  tried entries a h k = line_tried entries (lines a) h (has_lines leads b a (λ plain. small) k)

  in_class_ids : (ids : List Named) (a : Alternative) → IsTrue (is_in_class_ids i ids a) → Fits a b → IsNamed (λ id. HasClassId id b) ids i
  in_class_ids ids (related (class_id id)) h k = listed_name (λ n. HasClassId n b) i ids id h k
  in_class_ids ids other h k = absurd (cc)

  in_programs : (lists : List (Bor (List Named))) (a : Alternative) → IsTrue (is_in_programs i lists a) → Fits a b → IsOfProgram b lists i
  in_programs lists (related (program name)) h k = (name, k, listed_name (λ n. n ≡ name) i (bucket_of lists name) name h refl)
  in_programs lists other h k = absurd (cc)

  in_roots : (roots : List (Bor (List Named))) (a : Alternative) → IsTrue (is_in_roots i roots a) → Fits a b → IsRooted b roots i
  in_roots roots (related (root name)) h (rest, element) = (name, rest, element, listed_with (λ t. HasInTag t rest) i (bucket_of roots name) name None h tt)
  in_roots roots (related (root_with name t)) h (rest, element, there) = (name, rest, element, listed_with (λ t. HasInTag t rest) i (bucket_of roots name) name (Some t) h there)
  in_roots roots other h k = absurd (cc)

  in_keys : (keys : List Named) (a : Alternative) → IsTrue (is_in_keys i keys a) → Fits a b → IsKeyed b keys i
  in_keys keys (related (first_key key)) h k =
      let (rest, is) = first_key_left key b (both_left (has_no_quote key) _ h) k in
      (key, rest, is, listed_with (λ t. HasValue t rest) i keys key None (both_right (has_no_quote key) _ h) tt)
  in_keys keys (related (first_key_with key v)) h k =
      let (rest, is, value) = first_key_value key v b (both_left (has_no_quote key) _ h) k in
      (key, rest, is, listed_with (λ t. HasValue t rest) i keys key (Some v) (both_right (has_no_quote key) _ h) value)
  in_keys keys other h k = absurd (cc)

  in_folders : (folders : List Named) (a : Alternative) → IsTrue (is_in_folders i folders a) → Fits a b → IsNamed (λ folder. IsPackageWith folder b) folders i
  in_folders folders (related (package_with folder)) h k = listed_name (λ f. IsPackageWith f b) i folders folder h k
  in_folders folders other h k = absurd (cc)

  of_tag : (tag other : ℕ) (a : Alternative) → IsTrue (is_of_tag tag other a) → Fits a b → HasTag tag b ⊎ HasTag other b
  of_tag tag other (related (directory_tag own)) h k = elim (or_cases (own == tag) _ h) [
    | inl e ↦ inl (subst (λ t. HasTag t b) (eqb-true own tag e) k)
    | inr e ↦ inr (subst (λ t. HasTag t b) (eqb-true own other e) k)
  ]
  of_tag tag other (related (directory_tag_and_make own make)) h (big, begins, tagged, made) = elim (or_cases (own == tag) _ h) [
    | inl e ↦ inl (subst (λ t. HasTag t b) (eqb-true own tag e) (big, begins, tagged))
    | inr e ↦ inr (subst (λ t. HasTag t b) (eqb-true own other e) (big, begins, tagged))
  ]
  of_tag tag other a h k = absurd (cc)

  in_texts : (t : Texts) (a : Alternative) → IsTrue (is_text_row t i a) → Fits a b → IsTextRow t b i
  in_texts t (related json_lines) h k = inl (eqb-true t.lines i h, k)
  in_texts t (related json_text) h k = inr (inl (eqb-true t.json i h, k))
  in_texts t (related plain_text) h k = inr (inr (eqb-true t.plain i h, k))
  in_texts t other h k = absurd (cc)

  module _ (parent : ℕ) (w : WidensAt (Some parent) b i) where
    found_by : (way : below.Below) (a : Alternative) → IsTrue (is_found_below way i a) → Fits a b → IsFoundBelow way parent b i
    found_by Nothing a h k = absurd (cc)
    found_by (Entries entries) a h k = (tried entries.now a h k, w)
    found_by (ClassIds entries ids) a h k = elim (or_cases (is_in_class_ids i ids.now a) _ h) [
      | inl e ↦ inr (in_class_ids ids.now a e k)
      | inr e ↦ inl (tried entries.now a e k, w)
    ]
    found_by (Programs entries lists) a h k = elim (or_cases (is_in_programs i lists.now a) _ h) [
      | inl e ↦ inr (in_programs lists.now a e k)
      | inr e ↦ inl (tried entries.now a e k, w)
    ]
    found_by (Roots roots) a h k = in_roots roots.now a h k
    found_by (Packages entries folders) a h k = elim (or_cases (is_in_folders i folders.now a) _ h) [
      | inl e ↦ inr (in_folders folders.now a e k)
      | inr e ↦ inl (tried entries.now a e k, w)
    ]
    found_by (Tagged entries tag other tagged) a h k = elim (or_cases (is_of_tag tag other a && is_tried_below i tagged.now a) _ h) [
      | inl e ↦ inr (of_tag tag other a (both_left (is_of_tag tag other a) _ e) k, (tried tagged.now a (both_right (is_of_tag tag other a) _ e) k, w))
      | inr e ↦ inl (tried entries.now a e k, w)
    ]

    found_below : (way : below.Below) (signature : List Alternative) → IsTrue (list_all (is_found_below way i) signature) → Accepted signature b
        → IsFoundBelow way parent b i
    found_below way [] h k = absurd (k)
    found_below way (a ∷ signature) h (inl k) = found_by way a (both_left (is_found_below way i a) _ h) k
    found_below way (a ∷ signature) h (inr k) = found_below way signature (both_right (is_found_below way i a) _ h) k

  module _ (index : Parentless) (names : ByName) where
    found_by_name : (a : Alternative) → IsTrue (is_of_name a) → IsTrue (is_found_by_name names i a) → Fits a b → IsFoundByName names b i
    found_by_name a is h k = elim (or_cases (not (is_of_name a)) _ h) [
      | inl is_none ↦ absurd (not_both (is_of_name a) is is_none)
      | inr listed ↦ elim (or_cases (is_in_roots i names.roots.now a) _ listed) [
        | inl r ↦ inl (in_roots names.roots.now a r k)
        | inr r ↦ inr (in_keys names.keys.now a r k)
      ]
    ]

    found_otherwise : WidensAt None b i → (a : Alternative) → IsTrue (is_text_row index.texts i a || list_all (is_tried_parentless (entries_at index) index.spots.now i) (lines a)) → Fits a b
        → IsFoundParentless index names b i
    found_otherwise w a h k = elim (or_cases (is_text_row index.texts i a) _ h) [
      | inl text ↦ inr (inr (in_texts index.texts a text k))
      | inr rows ↦ inl (line_tried_parentless index (lines a) rows (has_lines leads b a (λ plain. small) k), w)
    ]

    found_parentless : WidensAt None b i → (signature : List Alternative) → IsTrue (list_all (is_found_parentless (entries_at index) index.spots.now index.texts i) signature)
        → IsTrue (list_all (is_found_by_name names i) signature) → Accepted signature b → IsFoundParentless index names b i
    found_parentless w [] h t k = absurd (k)
    found_parentless w (a ∷ signature) h t (inl k) = elim (or_cases (is_of_name a) _ (both_left (is_found_parentless (entries_at index) index.spots.now index.texts i a) _ h)) [
      | inl named ↦ inr (inl (found_by_name a named (both_left (is_found_by_name names i a) _ t) k))
      | inr other ↦ found_otherwise w a other k
    ]
    found_parentless w (a ∷ signature) h t (inr k) =
        found_parentless w signature (both_right (is_found_parentless (entries_at index) index.spots.now index.texts i a) _ h) (both_right (is_found_by_name names i a) _ t) k

-- a row that is found by a name widens the answer
any_of : (test : Alternative → Bool) (b : List ℕ) → ((a : Alternative) → IsTrue (test a) → Fits a b) → (signature : List Alternative) → IsTrue (list_any test signature)
    → Accepted signature b
any_of test b sound [] h = absurd (cc)
any_of test b sound (a ∷ signature) h = elim (or_cases (test a) _ h) [
  | inl e ↦ inl (sound a e)
  | inr e ↦ inr (any_of test b sound signature e)
]

child : (parent own : Option ℕ) → IsTrue (is_child parent own) → own ≡ parent
child None None h = refl
child None (Some other) h = absurd (cc)
child (Some parent) None h = absurd (cc)
child (Some parent) (Some other) h = ap Some (sym (eqb-true parent other h))

row_widens : (parent : Option ℕ) (test : Alternative → Bool) (b : List ℕ) → ((a : Alternative) → IsTrue (test a) → Fits a b) → (i : ℕ)
    → IsTrue (is_row_with parent test i) → WidensAt parent b i
row_widens parent test b sound i h = elim (slice_get_cases further i).1 [
  | inl (r, lt, found, same_row) ↦
      let has : IsTrue (is_child parent r.parent && list_any test r.signature) = subst (λ o. IsTrue (option_map_or (λ (x : Further). is_child parent x.parent && list_any test x.signature) o false)) found h in
      let widens : Widens parent b r = (child parent r.parent (both_left (is_child parent r.parent) _ has), any_of test b sound r.signature (both_right (is_child parent r.parent) _ has)) in
      (lt, λ d. subst (Widens parent b) (get_or_default further i r d lt) (subst (Widens parent b) (sym same_row) widens))
  | inr (past, none) ↦ absurd (let no_row : false ≡ true = subst (λ o. IsTrue (option_map_or (λ (x : Further). is_child parent x.parent && list_any test x.signature) o false)) none h in cc)
]

rows_widen : {A : Type 0} (row : A → ℕ) (Q : A → Type 0) (test : A → Alternative → Bool) (parent : Option ℕ) (b : List ℕ)
    → ((e : A) → Q e → (a : Alternative) → IsTrue (test e a) → Fits a b) → (xs : List A) (i : ℕ)
    → IsTrue (list_all (λ e. is_row_with parent (test e) (row e)) xs) → IsRowOf row Q xs i → WidensAt parent b i
rows_widen row Q test parent b sound [] i h is = absurd (is)
rows_widen row Q test parent b sound (x ∷ xs) i h (inl is) =
    subst (WidensAt parent b) is.0 (row_widens parent (test x) b (sound x is.1) (row x) (both_left (is_row_with parent (test x) (row x)) _ h))
rows_widen row Q test parent b sound (x ∷ xs) i h (inr is) = rows_widen row Q test parent b sound xs i (both_right (is_row_with parent (test x) (row x)) _ h) is

module _ (b : List ℕ) where
  fits_program : (name : List ℕ) → IsProgram name b → (a : Alternative) → IsTrue (asks_program name a) → Fits a b
  fits_program name p (related (program own)) h = subst (λ n. IsProgram n b) (same_true name own h) p
  fits_program name p other h = absurd (cc)

  own_text : (P : List ℕ → Type 0) (t : Option Span) (u : List ℕ) → IsTrue (same_text t (Some u)) → HasText P t → P u
  own_text P None u h p = absurd (cc)
  own_text P (Some t) u h p = subst P (same_true (name_at t) u h) p

  module _ (name rest : List ℕ) (element : IsRootElement name rest b) where
    fits_root : (own : List ℕ) (t : Option Span) → (own ≡ name) × HasText (λ u. HasInTag u rest) t → (a : Alternative) → IsTrue (asks_root own t a) → Fits a b
    fits_root own t p (related (root other)) h =
        (rest, subst (λ n. IsRootElement n rest b) (sym p.0 ∙ same_true own other (both_left (same own other) _ h)) element)
    fits_root own t p (related (root_with other u)) h = (
      rest,
      subst (λ n. IsRootElement n rest b) (sym p.0 ∙ same_true own other (both_left (same own other) _ h)) element,
      own_text (λ v. HasInTag v rest) t u (both_right (same own other) _ h) p.1,
    )
    fits_root own t p other h = absurd (cc)

  with_left : (key rest : List ℕ) → IsFirstKey key rest b → HasFirstKey key b
  with_left key rest (dark, inl begins) = inl (rest, begins)
  with_left key rest (dark, inr (w, e, begins)) = inr (w, e, (rest, begins))

  with_value : (key v rest : List ℕ) → IsFirstKey key rest b → HasValue v rest → HasFirstKeyWith key v b
  with_value key v rest (dark, inl begins) (left, value) = inl (rest, left, begins, value)
  with_value key v rest (dark, inr (w, e, begins)) (left, value) = inr (w, e, (rest, left, begins, value))

  module _ (key rest : List ℕ) (is : IsFirstKey key rest b) where
    fits_key : (own : List ℕ) (t : Option Span) → (own ≡ key) × HasText (λ u. HasValue u rest) t → (a : Alternative) → IsTrue (asks_key own t a) → Fits a b
    fits_key own t p (related (first_key other)) h =
        with_left other rest (subst (λ n. IsFirstKey n rest b) (sym p.0 ∙ same_true own other (both_left (same own other) _ h)) is)
    fits_key own t p (related (first_key_with other u)) h =
        with_value other u rest (subst (λ n. IsFirstKey n rest b) (sym p.0 ∙ same_true own other (both_left (same own other) _ h)) is)
        (own_text (λ v. HasValue v rest) t u (both_right (same own other) _ h) p.1)
    fits_key own t p other h = absurd (cc)

  fits_class_id : (id : List ℕ) → HasClassId id b → (a : Alternative) → IsTrue (asks_class_id id a) → Fits a b
  fits_class_id id p (related (class_id other)) h = subst (λ own. HasClassId own b) (same_true id other h) p
  fits_class_id id p other h = absurd (cc)

  fits_folder : (folder : List ℕ) → IsPackageWith folder b → (a : Alternative) → IsTrue (asks_folder folder a) → Fits a b
  fits_folder folder p (related (package_with other)) h = subst (λ f. IsPackageWith f b) (same_true folder other h) p
  fits_folder folder p other h = absurd (cc)

  fits_lines : IsJsonLines b → (a : Alternative) → IsTrue (is_lines a) → Fits a b
  fits_lines p (related json_lines) h = p
  fits_lines p other h = absurd (cc)

  fits_json : IsJson b → (a : Alternative) → IsTrue (is_json a) → Fits a b
  fits_json p (related json_text) h = p
  fits_json p other h = absurd (cc)

  fits_plain : Fits (related plain_text) b → (a : Alternative) → IsTrue (is_plain a) → Fits a b
  fits_plain p (related plain_text) h = p
  fits_plain p other h = absurd (cc)

  -- what is found of each element, and one more thing
  second_of_each : (P Q : Named → Bool) (xs : List Named) → IsTrue (list_all (λ e. P e && Q e) xs) → IsTrue (list_all Q xs)
  second_of_each P Q [] h = refl
  second_of_each P Q (e ∷ xs) h = and_from (Q e) _ (both_right (P e) (Q e) (both_left (P e && Q e) _ h)) (second_of_each P Q xs (both_right (P e && Q e) _ h))

  widens_root : (parent : Option ℕ) (roots : List (Bor (List Named))) (i : ℕ) → IsTrue (are_roots_of parent roots) → IsRooted b roots i → WidensAt parent b i
  widens_root parent roots i h (name, rest, element, is) =
      rows_widen named_row (λ e. (name_at e.name ≡ name) × HasText (λ t. HasInTag t rest) e.text) (λ e. asks_root (name_at e.name) e.text) parent b
      (λ e p. fits_root name rest element (name_at e.name) e.text p) (bucket_of roots name) i
      (listed_in_bucket (list_all (λ e. is_row_with parent (asks_root (name_at e.name) e.text) e.row)) refl _ roots name h) is

  widens_key : (keys : List Named) (i : ℕ) → IsTrue (are_keyed keys) → IsKeyed b keys i → WidensAt None b i
  widens_key keys i h (key, rest, first, is) =
      rows_widen named_row (λ e. (name_at e.name ≡ key) × HasText (λ t. HasValue t rest) e.text) (λ e. asks_key (name_at e.name) e.text) None b
      (λ e p. fits_key key rest first (name_at e.name) e.text p) keys i (both_right (ascends named_row keys) _ h) is

  widens_below : (parent : ℕ) (way : below.Below) (i : ℕ) → IsTrue (is_true_below parent way) → IsFoundBelow way parent b i → WidensAt (Some parent) b i
  widens_below parent Nothing i h is = absurd (is)
  widens_below parent (Entries entries) i h is = is.1
  widens_below parent (ClassIds entries ids) i h (inl is) = is.1
  widens_below parent (ClassIds entries ids) i h (inr is) =
      rows_widen named_row (λ e. HasClassId (name_at e.name) b) (λ e. asks_class_id (name_at e.name)) (Some parent) b (λ e p. fits_class_id (name_at e.name) p) ids.now i
      (second_of_each (λ e. length (name_at e.name) == 16) (λ e. is_row_with (Some parent) (asks_class_id (name_at e.name)) e.row) ids.now
      (both_right (ascends named_row ids.now) _ h)) is
  widens_below parent (Programs entries lists) i h (inl is) = is.1
  widens_below parent (Programs entries lists) i h (inr (name, p, is)) =
      rows_widen named_row (λ e. (name_at e.name) ≡ name) (λ e. asks_program (name_at e.name)) (Some parent) b
      (λ e same. fits_program (name_at e.name) (subst (λ n. IsProgram n b) (sym same) p)) (bucket_of lists.now name) i
      (listed_in_bucket (list_all (λ e. is_row_with (Some parent) (asks_program (name_at e.name)) e.row)) refl _ lists.now name
      (both_right (all_ascend named_row lists.now) _ h)) is
  widens_below parent (Roots roots) i h is = widens_root (Some parent) roots.now i (both_right (all_ascend named_row roots.now) _ h) is
  widens_below parent (Packages entries folders) i h (inl is) = is.1
  widens_below parent (Packages entries folders) i h (inr is) =
      rows_widen named_row (λ e. IsPackageWith (name_at e.name) b) (λ e. asks_folder (name_at e.name)) (Some parent) b (λ e p. fits_folder (name_at e.name) p) folders.now i
      (second_of_each (λ e. is_application (name_at e.name)) (λ e. is_row_with (Some parent) (asks_folder (name_at e.name)) e.row) folders.now
      (both_right (ascends named_row folders.now) _ h)) is
  widens_below parent (Tagged entries tag other tagged) i h (inl is) = is.1
  widens_below parent (Tagged entries tag other tagged) i h (inr (has, is)) = is.1

  widens_text : (t : Texts) (i : ℕ) → IsTrue (are_texts t) → IsTextRow t b i → WidensAt None b i
  widens_text t i h is =
      let rows = both_left (is_row_with None is_lines t.lines && (is_row_with None is_json t.json && is_row_with None is_plain t.plain)) _ h in
      let later = both_right (is_row_with None is_lines t.lines) _ rows in
      elim is [
        | inl (e, p) ↦ subst (WidensAt None b) e (row_widens None is_lines b (fits_lines p) t.lines (both_left (is_row_with None is_lines t.lines) _ rows))
        | inr (inl (e, p)) ↦ subst (WidensAt None b) e (row_widens None is_json b (fits_json p) t.json (both_left (is_row_with None is_json t.json) _ later))
        | inr (inr (e, p)) ↦ subst (WidensAt None b) e (row_widens None is_plain b (fits_plain p) t.plain (both_right (is_row_with None is_json t.json) _ later))
      ]

-- of each way below a row
true_at : (ways : List below.Below) (n i : ℕ) → IsTrue (are_true n ways) → IsTrue (is_true_below (n + i) (below_at ways i))
true_at [] n i h = refl
true_at (way ∷ ways) n zero h = let e : n + 0 ≡ n = omega arith in rw e (both_left (is_true_below n way) _ h)
true_at (way ∷ ways) n (suc i) h = let e : n + suc i ≡ suc n + i = omega arith in rw e (true_at ways (suc n) i (both_right (is_true_below n way) _ h))

true_below : (ways : List below.Below) (parent : ℕ) → IsTrue (are_true 0 ways) → IsTrue (is_true_below parent (below_at ways parent))
true_below ways parent each = let e : 0 + parent ≡ parent = omega arith in subst (λ n. IsTrue (is_true_below n (below_at ways parent))) e (true_at ways 0 parent each)

-- of a list of ways, each that stands not apart
unless_apart : (t x : Bool) → ¬ IsTrue t → IsTrue (if not t then x else true) → IsTrue x
unless_apart false x other h = h
unless_apart true x other h = absurd (other refl)

module _ (apart : List ℕ) (ways : List below.Below) (parent : ℕ) (other : ¬ IsTrue (is_listed apart parent)) (i : ℕ) where
  asked_alone : (p : Option ℕ) (r : Further) → IsTrue (is_row_below (λ q. not (is_listed apart q)) (below_at ways) i p r)
      → IsTrue (is_row_below (λ q. q == parent) (λ q. below_at ways parent) i p r)
  asked_alone None r h = refl
  asked_alone (Some p) r h = by_test (p == parent) refl
    where
      by_test : (t : Bool) → (p == parent) ≡ t → IsTrue (if t then list_all (is_found_below (below_at ways parent) i) r.signature else true)
      by_test false e = refl
      by_test true e =
          let same_parent : p ≡ parent = eqb-true p parent e in
          subst (λ q. IsTrue (list_all (is_found_below (below_at ways q) i) r.signature)) same_parent
          (unless_apart (is_listed apart p) _ (λ l. other (subst (λ q. IsTrue (is_listed apart q)) same_parent l)) h)

  found_alone : (o : Option Further) → IsTrue (option_map_or (λ r. is_row_below (λ q. not (is_listed apart q)) (below_at ways) i r.parent r) o true)
      → IsTrue (option_map_or (λ r. is_row_below (λ q. q == parent) (λ q. below_at ways parent) i r.parent r) o true)
  found_alone None h = refl
  found_alone (Some r) h = asked_alone r.parent r h

pub way_of_list : (apart : List ℕ) (ways : List below.Below) → AreWaysBelow apart ways → (parent : ℕ) → ¬ IsTrue (is_listed apart parent)
    → IsWayBelow parent (below_at ways parent)
way_of_list apart ways each parent other = record {
  found = λ i lt. found_alone apart ways parent other i (slice_get further i) (each.found i lt);
  names = true_below ways parent each.names;
}

-- each folder of a package is that of an application
pub one_of : (t : List ℕ) (others : List (List ℕ)) → IsTrue (list_any (same t) others) → IsOneOf t others
one_of t [] h = absurd (cc)
one_of t (other ∷ others) h = elim (or_cases (same t other) _ h) [
  | inl e ↦ inl (same_true t other e)
  | inr e ↦ inr (one_of t others e)
]

module _ (parent : ℕ) where
  abbrev is_folder : Named → Bool
  is_folder e = is_application (name_at e.name) && is_row_with (Some parent) (asks_folder (name_at e.name)) e.row

  pub all_applications : (entries : Bor (List Entry)) (folders : Bor (List Named)) → IsTrue (is_true_below parent (Packages entries folders)) → AllApplications folders.now
  all_applications entries folders h = λ k d lt.
      let name = name_at (get_or folders.now k d).name in
      one_of name applications (both_left (is_application name) _ (AllPass-from_list_all is_folder folders.now (both_right (ascends named_row folders.now) _ h) k d lt))

-- each class id has its bytes
module _ (parent : ℕ) where
  abbrev is_class_id : Named → Bool
  is_class_id e = length (name_at e.name) == 16 && is_row_with (Some parent) (asks_class_id (name_at e.name)) e.row

  pub are_class_ids : (entries : Bor (List Entry)) (ids : Bor (List Named)) → IsTrue (is_true_below parent (ClassIds entries ids)) → AreClassIds ids.now
  are_class_ids entries ids h = λ k d lt.
      let long = length (name_at (get_or ids.now k d).name) in
      eqb-true long 16 (both_left (long == 16) _ (AllPass-from_list_all is_class_id ids.now (both_right (ascends named_row ids.now) _ h) k d lt))

-- a row is found by its parent, or without one
module _ (i : ℕ) (r : Further) (found : slice_get further i ≡ Some r) (lt : i < length further) where
  asks_below : (parent : ℕ) (way : below.Below) → IsWayBelow parent way → IsTrue (is_row_below (λ p. p == parent) (λ p. way) i r.parent r)
  asks_below parent way each =
      subst (λ o. IsTrue (option_map_or (λ (x : Further). is_row_below (λ p. p == parent) (λ p. way) i x.parent x) o true)) found (each.found i lt)

  below_by : (parent : ℕ) (way : below.Below) → IsWayBelow parent way → r.parent ≡ Some parent → IsTrue (list_all (is_found_below way i) r.signature)
  below_by parent way each e =
      subst (λ t. IsTrue (if t then list_all (is_found_below way i) r.signature else true)) (eq-eqb parent parent refl)
      (subst (λ p. IsTrue (is_row_below (λ q. q == parent) (λ q. way) i p r)) e (asks_below parent way each))

  asks_parentless : (passes : ℕ → Alternative → Bool) → ((j : ℕ) → j < length further → IsTrue (is_row_parentless_found passes j)) → IsTrue (is_row_parentless (passes i) r.parent r)
  asks_parentless passes each = subst (λ o. IsTrue (option_map_or (λ (x : Further). is_row_parentless (passes i) x.parent x) o true)) found (each i lt)

  parentless_by : (passes : ℕ → Alternative → Bool) → ((j : ℕ) → j < length further → IsTrue (is_row_parentless_found passes j)) → r.parent ≡ None
      → IsTrue (list_all (passes i) r.signature)
  parentless_by passes each e = subst (λ p. IsTrue (is_row_parentless (passes i) p r)) e (asks_parentless passes each)

module _ (by_place : (place : ℕ) (t buf : List ℕ) → IsTrue (stands place t buf) ↔ StandsByPlace place t buf) (leads : Leads) where
  finds_below : (parent : ℕ) (way : below.Below) → IsWayBelow parent way → (b : List ℕ) → IsBuffer b → (i : ℕ) → WidensAt (Some parent) b i → IsFoundBelow way parent b i
  finds_below parent way each b all i w = elim (slice_get_cases further i).1 [
    | inl (r, within, found, same_row) ↦
        let holds : Widens (Some parent) b r = subst (Widens (Some parent) b) same_row (w.1 r) in
        found_below by_place leads b (small_bytes b all) i parent w way r.signature (below_by i r found within parent way each holds.0) holds.1
    | inr (past, none) ↦ absurd (let lt = w.0 in omega arith)
  ]

  finds_parentless : (index : Parentless) (names : ByName) → EachParentlessIsFound index → EachIsFoundByName names → (b : List ℕ) → IsBuffer b → (i : ℕ) → WidensAt None b i
      → IsFoundParentless index names b i
  finds_parentless index names each named b all i w = elim (slice_get_cases further i).1 [
    | inl (r, within, found, same_row) ↦
        let holds : Widens None b r = subst (Widens None b) same_row (w.1 r) in
        let own = parentless_by i r found within (is_found_parentless (entries_at index) index.spots.now index.texts) each.found holds.0 in
        found_parentless by_place leads b (small_bytes b all) i index names w r.signature own (parentless_by i r found within (is_found_by_name names) named.found holds.0) holds.1
    | inr (past, none) ↦ absurd (let lt = w.0 in omega arith)
  ]

  pub finds_by_lead : (by_lead : ByLead) → EachIsByLead by_lead → FindsByLead by_lead
  finds_by_lead by_lead each = record {
    left = λ b all i w. elim (slice_get_cases further i).1 [
      | inl (r, within, found, same_row) ↦
          let holds : Widens None b r = subst (Widens None b) same_row (w.1 r) in
          let own = parentless_by i r found within (is_by_lead (entries_at by_lead.index) by_lead.index.spots.now by_lead.beside.now by_lead.index.texts) each.left holds.0 in
          led_by by_place leads b (small_bytes b all) i by_lead r.signature own holds.1
      | inr (past, none) ↦ absurd (let lt = w.0 in omega arith)
    ];
  }

  pub all_below : (parent : ℕ) (way : below.Below) → IsWayBelow parent way → FindsBelow parent way
  all_below parent way each b all i = (widens_below b parent way i each.names, finds_below parent way each b all i)

  pub all_parentless : (index : Parentless) (names : ByName) → EachParentlessIsFound index → EachIsFoundByName names → FindsParentless index names
  all_parentless index names each named b all i = (
    λ is. elim is [
      | inl tried_row ↦ tried_row.1
      | inr (inl (inl r)) ↦ widens_root b None names.roots.now i (both_right (all_ascend named_row names.roots.now) _ named.roots) r
      | inr (inl (inr r)) ↦ widens_key b names.keys.now i named.keys r
      | inr (inr t) ↦ widens_text b index.texts i each.texts t
    ],
    finds_parentless index names each named b all i,
  )

pub texts_ascend : (t : Texts) → IsTrue (are_texts t) → (t.lines ≤ t.json) × (t.json ≤ t.plain)
texts_ascend t h =
    let up = both_right (is_row_with None is_lines t.lines && (is_row_with None is_json t.json && is_row_with None is_plain t.plain)) _ h in
    (leb-true t.lines t.json (both_left (nat_le t.lines t.json) _ up), leb-true t.json t.plain (both_right (nat_le t.lines t.json) _ up))

-- the least that is found is the least that widens the answer
pub least_below : (parent : ℕ) (way : below.Below) → FindsBelow parent way → (b : List ℕ) → IsBuffer b → (least : ℕ)
    → IsLeast (IsFoundBelow way parent b) FURTHER_COUNT least → IsLeast (WidensAt (Some parent) b) FURTHER_COUNT least
least_below parent way all b bytes least h = least_same _ _ FURTHER_COUNT least (λ i. (all b bytes i).0) (λ i. (all b bytes i).1) h

module _ (index : Parentless) (names : ByName) (all : FindsParentless index names) (b : List ℕ) (bytes : IsBuffer b) where
  pub least_with_texts : (tried_least rooted least : ℕ) → IsLeast (IsTried None b (tried_parentless index b)) FURTHER_COUNT tried_least
      → IsLeast (IsFoundByName names b) tried_least rooted → IsLeast (IsTextRow index.texts b) rooted least
      → IsLeast (WidensAt None b) FURTHER_COUNT least
  least_with_texts tried_least rooted least h r k =
      least_same _ _ FURTHER_COUNT least (λ i. (all b bytes i).0) (λ i. (all b bytes i).1)
      (least_both _ _ FURTHER_COUNT tried_least least h (least_both _ _ tried_least rooted least r k))

  pub least_before_texts : (tried_least least : ℕ) → IsTrue (are_texts index.texts) → least ≤ index.texts.lines
      → IsLeast (IsTried None b (tried_parentless index b)) FURTHER_COUNT tried_least
      → IsLeast (IsFoundByName names b) tried_least least → IsLeast (WidensAt None b) FURTHER_COUNT least
  least_before_texts tried_least least texts later h r =
      let (json_later, plain_later) = texts_ascend index.texts texts in
      least_with_texts tried_least least least h r (least_late _ least (λ i is. elim is [
        | inl (e, p) ↦ omega arith
        | inr (inl (e, p)) ↦ omega arith
        | inr (inr (e, p)) ↦ omega arith
      ]))

-- as computed of each row: a refusal shows the numbers of the rows that are not found
pub way_below : (parent : ℕ) (way : below.Below) → NoRowFails (λ i r. is_row_below (λ p. p == parent) (λ p. way) i r.parent r)
    → IsTrue (is_true_below parent way) → IsWayBelow parent way
way_below parent way none names = record { found = λ i lt. each_row _ none i; names = names }

pub ways_below : (apart : List ℕ) (ways : List below.Below)
    → NoRowFails (λ i r. is_row_below (λ p. not (is_listed apart p)) (below_at ways) i r.parent r) → IsTrue (are_true 0 ways) → AreWaysBelow apart ways
ways_below apart ways none names = record { found = λ i lt. each_row _ none i; names = names }

-- below a row without a further one no answer is wider
pub none_below : (parent : ℕ) (way : below.Below) → FindsBelow parent way → way ≡ Nothing → IsWidest (Some parent)
none_below parent way finds is b bytes k d low lt w =
    let all : FindsBelow parent Nothing = subst (FindsBelow parent) is finds in (all b bytes k).1 (read_at (Some parent) b k d lt w)

-- the entries of a span, which stand near in the lists
abbrev pub entries_near : List Entry → List ℕ → ℕ → List Entry
entries_near entries starts = entries_by (near entries) (element_by (near starts))

pub each_parentless : (index : Parentless)
    → NoRowFails (λ i r. is_row_parentless (is_found_parentless (entries_near index.entries.now index.starts.now) index.spots.now index.texts i) r.parent r)
    → IsTrue (are_texts index.texts) → EachParentlessIsFound index
each_parentless index none texts =
    let same : entries_near index.entries.now index.starts.now ≡ entries_at index = ap₂ entries_by (near_is index.entries.now) (element_is index.starts.now) in
    record {
      found = λ i lt. each_row _ (subst (λ entries. NoRowFails (λ i r. is_row_parentless (is_found_parentless entries index.spots.now index.texts i) r.parent r)) same none) i;
      texts = texts;
    }

pub each_by_lead : (by_lead : ByLead)
    → NoRowFails (λ i r. is_row_parentless (is_by_lead (entries_near by_lead.index.entries.now by_lead.index.starts.now) by_lead.index.spots.now by_lead.beside.now by_lead.index.texts i) r.parent r)
    → EachIsByLead by_lead
each_by_lead by_lead none =
    let same : entries_near by_lead.index.entries.now by_lead.index.starts.now ≡ entries_at by_lead.index = ap₂ entries_by (near_is by_lead.index.entries.now) (element_is by_lead.index.starts.now) in
    record { left = λ i lt. each_row _ (subst (λ entries. NoRowFails (λ i r. is_row_parentless (is_by_lead entries by_lead.index.spots.now by_lead.beside.now by_lead.index.texts i) r.parent r)) same none) i }

pub each_by_name : (names : ByName) → NoRowFails (λ i r. is_row_parentless (is_found_by_name names i) r.parent r) → IsTrue (are_rooted names.roots.now)
    → IsTrue (are_keyed names.keys.now) → EachIsFoundByName names
each_by_name names none roots keys = record { found = λ i lt. each_row _ none i; roots = roots; keys = keys }

blank_space : (x : ℕ) → IsBlank x → IsXmlSpace x
blank_space x (inl e) = inr (inr (inr e))
blank_space x (inr (inl e)) = inl e
blank_space x (inr (inr (inl e))) = inr (inl e)
blank_space x (inr (inr (inr e))) = inr (inr (inl e))

-- a root is that of markup, which begins with white space, "<" or a byte order mark
pub root_starts : (b : List ℕ) → Leads → (name rest : List ℕ) → IsRootElement name rest b → MayHaveName b
root_starts b leads name rest element = elim (leads.root name b (rest, element)) [
  | inl o ↦ let fits = o.fits in (omega arith, inr (inr (inr (o.reads 0 (omega arith)))))
  | inr (k, low, spaces, starts) ↦ elim (cases_lt 0 k) [
    | inl lt ↦ let space = spaces 0 (omega arith) lt in (there b 0 (grind arith), inl space)
    | inr le ↦ let e : slice_index b 0 ≡ 0x3C = subst (λ i. slice_index b i ≡ 0x3C) (omega arith) starts in (there b 0 (omega arith), inr (inl e))
  ]
]

-- and an object with a first key begins with white space, "{" or a byte order mark
dark_starts : (x : ℕ) (b : List ℕ) → StandsFirst x b → (0 < length b) × (IsXmlSpace (slice_index b 0) ⊎ (slice_index b 0 ≡ x))
dark_starts x [] (left, next) = absurd (cc)
dark_starts x (y ∷ b) (left, inl e) = (omega arith, inr (let first : y ≡ x = cc in first))
dark_starts x (y ∷ b) (left, inr (blank, next)) = (omega arith, inl (blank_space y blank))

pub key_starts : (b key rest : List ℕ) → IsFirstKey key rest b → MayHaveName b
key_starts b key rest is = elim (key_first key rest b is) [
  | inl first ↦ let (some, begins) = dark_starts 0x7B b first in (some, elim begins [ inl space ↦ inl space | inr e ↦ inr (inr (inl e)) ])
  | inr first ↦ let (some, begins) = dark_starts 0xEF b first in (some, elim begins [ inl space ↦ inl space | inr e ↦ inr (inr (inr e)) ])
]

-- what none begins has none
pub none_told : (names : ByName) (b : List ℕ) → Leads → (¬ MayHaveName b) → (i : ℕ) → ¬ IsFoundByName names b i
none_told names b leads none i (inl (name, rest, element, is)) = none (root_starts b leads name rest element)
none_told names b leads none i (inr (key, rest, first, is)) = none (key_starts b key rest first)

-- the first byte after white space tells which of them there may be
module _ (b : List ℕ) (leads : Leads) where
  root_dark : (name rest : List ℕ) → IsRootElement name rest b → StandsFirst 0x3C b ⊎ StandsFirst 0xEF b
  root_dark name rest element = markup_first b (leads.root name b (rest, element))

  pub none_dark : (names : ByName) → ((x : ℕ) → (¬ IsBlank x) → ¬ StandsFirst x b) → (i : ℕ) → ¬ IsFoundByName names b i
  none_dark names none i (inl (name, rest, element, is)) = elim (root_dark name rest element) [
    | inl first ↦ none 0x3C (λ h. grind arith) first
    | inr first ↦ none 0xEF (λ h. grind arith) first
  ]
  none_dark names none i (inr (key, rest, is, others)) = elim (key_first key rest b is) [
    | inl first ↦ none 0x7B (λ h. grind arith) first
    | inr first ↦ none 0xEF (λ h. grind arith) first
  ]

  module _ (dark : ℕ) (is_dark : ¬ IsBlank dark) (stands_first : StandsFirst dark b) where
    pub no_root : (roots : List (Bor (List Named))) → ¬ (dark ≡ 0x3C) → ¬ (dark ≡ 0xEF) → (i : ℕ) → ¬ IsRooted b roots i
    no_root roots other mark i (name, rest, element, is) = elim (root_dark name rest element) [
      | inl first ↦ other (first_same dark 0x3C b is_dark (λ h. grind arith) stands_first first)
      | inr first ↦ mark (first_same dark 0xEF b is_dark (λ h. grind arith) stands_first first)
    ]

module _ (b : List ℕ) (dark : ℕ) (is_dark : ¬ IsBlank dark) (stands_first : StandsFirst dark b) where
  pub no_key : (keys : List Named) → ¬ (dark ≡ 0x7B) → ¬ (dark ≡ 0xEF) → (i : ℕ) → ¬ IsKeyed b keys i
  no_key keys other mark i (key, rest, is, others) = elim (key_first key rest b is) [
    | inl first ↦ other (first_same dark 0x7B b is_dark (λ h. grind arith) stands_first first)
    | inr first ↦ mark (first_same dark 0xEF b is_dark (λ h. grind arith) stands_first first)
  ]

-- what begins with "<" begins with no object
front_stands : (x : ℕ) (b : List ℕ) → 0 < length b → slice_index b 0 ≡ x → StandsFirst x b
front_stands x [] lt e = absurd (omega arith)
front_stands x (y ∷ b) lt e = let first : y ≡ x = e in subst (λ z. StandsFirst z (y ∷ b)) first (b, inl refl)

pub told_rooted : (names : ByName) (b : List ℕ) (on : Bool) (before after : ℕ) → on ≡ has_byte b 0 0x3C → on ≡ true
    → IsLeast (IsRooted b names.roots.now) before after → IsLeast (IsFoundByName names b) before after
told_rooted names b on before after same holds h =
    let is : IsTrue (has_byte b 0 0x3C) = sym same ∙ holds in
    let lt : 0 < length b = ltb-true 0 (length b) (both_left (nat_lt 0 (length b)) _ is) in
    let first : slice_index b 0 ≡ 0x3C = eqb-true (slice_index b 0) 0x3C (both_right (nat_lt 0 (length b)) _ is) in
    least_same _ _ before after (λ i r. inl r)
    (λ i is. elim is [
      | inl r ↦ r
      | inr k ↦ absurd (no_key b 0x3C (λ blank. grind arith) (front_stands 0x3C b lt first) names.keys.now (λ s. omega arith) (λ s. omega arith) i k)
    ]) h

-- and after its first "<" stands an element or another "<"
pub root_may : (b : List ℕ) → Leads → (name rest : List ℕ) → IsRootElement name rest b → MayBeRooted b
root_may b leads name rest element = elim (leads.root name b (rest, element)) [
  | inl o ↦ inl o
  | inr (k, low, spaces, starts) ↦
      let (j, tag, begins) = leads.element name b (rest, element) in
      inr (
        k,
        λ i lt. spaces i (omega arith) lt,
        starts,
        elim (cases_lt k j) [
          | inl less ↦ inr (j, omega arith, tag)
          | inr more ↦ elim (cases_lt j k) [
            | inl less ↦ absurd (not_space (slice_index b j) tag (spaces j (omega arith) less))
            | inr same ↦ let e : j ≡ k = omega arith in inl (subst (λ i. BeginsElement (slice_index b (i + 1))) e begins)
          ]
        ],
      )
]
