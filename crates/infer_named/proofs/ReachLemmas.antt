-- Each key is that of some name.
use Rattle.std.proofs.Common.{◌≡◌, ◌+◌, ◌-◌, ◌<◌, ◌≤◌, ◌&&◌, ◌∙◌, ℕ, zero, suc, Bool, true, false, IsTrue, List, [], ◌∷◌, Option, None, Some, ap, arith, codes, drop, refl, subst, sym, inl, inr, length, not, take, unwrap_or}
use Rattle.std.proofs.lemmas.Bool.{and_from, and_parts, cases_Bool, cases_lt, le-leb, leb-true}
use Rattle.std.proofs.lemmas.List.{length-append, length-map, take_all}
use Rattle.std.proofs.lemmas.List.Elements.{All-cons, All-nil}
use Rattle.std.proofs.lemmas.List.Folds.{list_any_at}
use Rattle.std.proofs.lemmas.Slice.Eq.{bytes_eq-Decides}
use Rattle.std.specs.Char.{to_ascii_lowercase}
use Rattle.std.specs.List.{All, find, list_all, list_any}
use Rattle.std.specs.Option.{option_map_or, option_or}
use Rattle.std.specs.Prelude.{nat_le, slice_index, slice_index_or}
use Rattle.std.specs.Str.{bytes_eq}
use Rattle.memchr.specs.Find.{IsLast, Nowhere, Passes, is_byte, is_byte2}
use Rattle.infer_named.proofs.SameLemmas.{nowhere_of}
use Rattle.infer_named.proofs.TableLemmas.{all_right}
use Rattle.infer_named.specs.Key.{Key}
use Rattle.infer_named.specs.Laws.{EachKeyIsReached, are_told, edge_of, has_form, has_name, is_key_right, is_unversioned, last_below, last_dot, name_of, has_most, is_key_byte, shows_extension, shows_key, wrong_keys}
use Rattle.infer_named.specs.Names.{IsBase, IsExtensionKey, IsKey, IsStemKey, past, copies, copy_length, ends_in, entry, extension_at, is_key, is_version, is_version_byte, same_part, small, stem_of, up_to}
use Rattle.infer_named.specs.Table.{keys}
use Rattle.infer_named.specs.declared.table.Part.{Part}
use Rattle.infer_named.specs.declared.table.Part.TheVariants.{Extension, Whole}

-- a right key has at most 27 bytes
first_right : (k : Key) (keys : List Key) → wrong_keys (k ∷ keys) ≡ [] → (length k.text ≤ 27) × (wrong_keys keys ≡ [])
first_right k keys e = elim (cases_Bool (is_key_right k && not (list_any (is_key k.part k.text) keys))) [
  | inl on ↦ (
      let parts = and_parts (is_key_right k) (not (list_any (is_key k.part k.text) keys)) on in
      let form = and_parts (has_form k) (has_name k.part k.text && are_told k) parts.0 in
      let named = and_parts (has_most 27 k.text && list_all is_key_byte k.text && nat_le 1 (length k.readings)) (list_all (λ r. has_most 73 r.named.mime_type) k.readings) form.0 in
      let some = and_parts (has_most 27 k.text && list_all is_key_byte k.text) (nat_le 1 (length k.readings)) named.0 in
      let most = and_parts (has_most 27 k.text) (list_all is_key_byte k.text) some.0 in
      let bounds = and_parts (nat_le 1 (length k.text)) (nat_le (length k.text) 27) most.0 in
      let later : wrong_keys keys ≡ [] = rw on at e in (leb-true _ _ bounds.1, later))
  | inr off ↦ (let some : k.text ∷ wrong_keys keys ≡ [] = rw off at e in absurd (cc))
]

none_long : (part : Part) (text : List ℕ) → 27 < length text → (keys : List Key) → wrong_keys keys ≡ [] → find (is_key part text) keys ≡ None
none_long part text long [] e = refl
none_long part text long (k ∷ keys) e =
    let (short, later) = first_right k keys e in elim (cases_Bool (is_key part text k)) [
      | inl on ↦ (
          let parts = and_parts (same_part part k.part) (bytes_eq text k.text) on in
          let same : length text ≡ length k.text = ap length ((bytes_eq-Decides text k.text).0 parts.1) in absurd (omega arith))
      | inr other ↦ rw other (none_long part text long keys later)
    ]

-- the last place below n
nowhere_more : (P : ℕ → Type 0) (i n : ℕ) → Nowhere P i n → (¬ P n) → Nowhere P i (suc n)
nowhere_more P i n none not-here k low lt here = elim (cases_lt k n) [
  | inl before ↦ none k low before here
  | inr late ↦ (let same : k ≡ n = omega arith in not-here (subst P same here))
]

nowhere_past : (P : ℕ → Type 0) (i n : ℕ) → n ≤ i → Nowhere P i n
nowhere_past P i n past k low lt here = absurd (omega arith)

module _ (test : ℕ → Bool) (text : List ℕ) (i : ℕ) where
  more_last : (n : ℕ) (r : Option ℕ) → IsLast (Passes test text) i n r → (¬ Passes test text n) → IsLast (Passes test text) i (suc n) r
  more_last n None none not-here = nowhere_more (Passes test text) i n none not-here
  more_last n (Some k) (there, on) not-here =
      (record { low = there.low; high = omega (arith, there.high); after = nowhere_more (Passes test text) (k + 1) n there.after not-here }, on)

  pub below_last : (n : ℕ) → IsLast (Passes test text) i n (last_below test text i n)
  below_last zero = nowhere_past (Passes test text) i zero (omega arith)
  below_last (suc n) = elim (cases_Bool (nat_le i n)) [
    | inl low ↦ elim (cases_Bool (test (slice_index text n))) [
      | inl on ↦ rw (low, on) (record { low = leb-true _ _ low; high = omega arith; after = nowhere_past (Passes test text) (n + 1) (suc n) (omega arith) }, on)
      | inr off ↦ rw (low, off) (more_last n (last_below test text i n) (below_last n) (λ on. absurd (let wrong : true ≡ false = sym on ∙ off in cc)))
    ]
    | inr past ↦ rw past (λ k low lt here. absurd (let reached : nat_le i n ≡ true = le-leb i n (omega arith) in let wrong : true ≡ false = sym reached ∙ past in cc))
  ]

find_nothing : {A : Type 0} (p : A → Bool) (xs : List A) → IsTrue (not (list_any p xs)) → find p xs ≡ None
find_nothing p [] h = refl
find_nothing p (x ∷ xs) h = elim (cases_Bool (p x)) [
  | inl on ↦ absurd (let wrong : IsTrue (not true) = rw on at h in cc)
  | inr off ↦ (let later : IsTrue (not (list_any p xs)) = rw off at h in rw off (find_nothing p xs later))
]

-- what is no copy is its own stem
whole_stem : (name : List ℕ) → IsTrue (not (list_any (ends_in name) copies)) → stem_of name ≡ name
whole_stem name h =
    let none : find (ends_in name) copies ≡ None = find_nothing (ends_in name) copies h in
    let no_bytes : copy_length name ≡ 0 = ap (λ o. option_map_or length o 0) none in
    ap (λ n. take (length name - n) name) no_bytes ∙ take_all (length name - 0) name (omega arith)

-- a key that stands once is found by its own text
same_self : (part : Part) → same_part part part ≡ true
same_self Whole = refl
same_self Extension = refl

same_flip : (part other : Part) → same_part part other ≡ true → same_part other part ≡ true
same_flip Whole Whole e = refl
same_flip Whole Extension e = absurd (cc)
same_flip Extension Whole e = absurd (cc)
same_flip Extension Extension e = refl

is_self : (k : Key) → is_key k.part k.text k ≡ true
is_self k = and_from (same_part k.part k.part) (bytes_eq k.text k.text) (same_self k.part) ((bytes_eq-Decides k.text k.text).1 refl)

is_flip : (k other : Key) → is_key k.part k.text other ≡ true → is_key other.part other.text k ≡ true
is_flip k other e =
    let (part, text) = and_parts (same_part k.part other.part) (bytes_eq k.text other.text) e in
    and_from (same_part other.part k.part) (bytes_eq other.text k.text) (same_flip k.part other.part part)
    ((bytes_eq-Decides other.text k.text).1 (sym ((bytes_eq-Decides k.text other.text).0 text)))

-- what of the first key is known, and of those after it
first_key : (k : Key) (rows : List Key) → wrong_keys (k ∷ rows) ≡ []
    → IsTrue (has_name k.part k.text) × IsTrue (not (list_any (is_key k.part k.text) rows)) × (wrong_keys rows ≡ [])
first_key k rows e = elim (cases_Bool (is_key_right k && not (list_any (is_key k.part k.text) rows))) [
  | inl on ↦ (let (right, once) = and_parts (is_key_right k) (not (list_any (is_key k.part k.text) rows)) on in
      let parts = and_parts (has_form k) (has_name k.part k.text && are_told k) right in
      let later : wrong_keys rows ≡ [] = rw on at e in ((and_parts (has_name k.part k.text) (are_told k) parts.1).0, once, later))
  | inr off ↦ absurd (let some : k.text ∷ wrong_keys rows ≡ [] = rw off at e in cc)
]

abbrev IsSelfIn : List Key → Key → Type 0
IsSelfIn rows k = find (is_key k.part k.text) rows ≡ Some k

self_after : (k : Key) (rows : List Key) → IsTrue (not (list_any (is_key k.part k.text) rows)) → All (IsSelfIn rows) rows → All (IsSelfIn (k ∷ rows)) rows
self_after k rows once all j d lt =
    let other = slice_index_or rows j d in
    elim (cases_Bool (is_key other.part other.text k)) [
      | inl on ↦ (let some : list_any (is_key k.part k.text) rows ≡ true = list_any_at (is_key k.part k.text) rows j d lt (is_flip other k on) in
          absurd (let wrong : IsTrue (not true) = subst (λ b. IsTrue (not b)) some once in cc))
      | inr off ↦ rw off (all j d lt)
    ]

all_self : (rows : List Key) → wrong_keys rows ≡ [] → All (IsSelfIn rows) rows
all_self [] e = All-nil (IsSelfIn [])
all_self (k ∷ rows) e =
    let (named, once, later) = first_key k rows e in
    All-cons (IsSelfIn (k ∷ rows)) k rows (rw (is_self k) refl) (self_after k rows once (all_self rows later))

all_named : (rows : List Key) → wrong_keys rows ≡ [] → All (λ k. IsTrue (has_name k.part k.text)) rows
all_named [] e = All-nil (λ k. IsTrue (has_name k.part k.text))
all_named (k ∷ rows) e =
    let (named, once, later) = first_key k rows e in
    All-cons (λ k. IsTrue (has_name k.part k.text)) k rows named (all_named rows later)

-- the key of a stem that is a whole name
whole_key : (text : List ℕ) (k : Key) → find (is_key Whole text) keys ≡ Some k → small text ≡ text → IsStemKey keys text (Some k)
whole_key text k found same = let e : entry keys Whole text ≡ Some k = ap (λ t. find (is_key Whole t) keys) same ∙ found in rw e refl

no_version : (b : Bool) → IsTrue (not b) → false ≡ b
no_version true h = absurd (cc)
no_version false h = refl

-- the key of a stem with an extension, before which so much stands that it is no whole name
module _ (text : List ℕ) (k : Key) (found : find (is_key Extension text) keys ≡ Some k) (same : small text ≡ text) where
  abbrev stem : List ℕ
  stem = name_of Extension text

  entry_after : (dot : ℕ) → IsTrue (bytes_eq (drop (dot + 1) stem) text) → entry keys Extension (drop (dot + 1) stem) ≡ Some k
  entry_after dot h =
      ap (entry keys Extension) ((bytes_eq-Decides (drop (dot + 1) stem) text).0 h) ∙ (ap (λ t. find (is_key Extension t) keys) same ∙ found)

  shown : (second last : Option ℕ) → IsTrue (option_map_or (λ dot. bytes_eq (drop (dot + 1) stem) text) (option_or second last) false)
      → Some k ≡ option_or (extension_at keys stem second) (extension_at keys stem last)
  shown (Some dot) last h = ap (λ e. option_or e (extension_at keys stem last)) (sym (entry_after dot h))
  shown None (Some dot) h = sym (entry_after dot h)
  shown None None h = absurd (cc)

  not_whole : entry keys Whole stem ≡ None
  not_whole =
      let many : length stem ≡ 28 + length text = length-append (codes "aaaaaaaaaaaaaaaaaaaaaaaaaaa.") text in
      let small_many : length (small stem) ≡ length stem = length-map stem to_ascii_lowercase in
      none_long Whole (small stem) (omega (arith, many, small_many)) keys all_right

  extension_key : IsTrue (shows_extension stem text) → IsExtensionKey keys stem (Some k)
  extension_key h =
      let last = last_dot stem (length stem) in
      let second = last_dot stem (unwrap_or last 0) in
      let (unversioned, is) = and_parts (is_unversioned stem) (option_map_or (λ dot. bytes_eq (drop (dot + 1) stem) text) (option_or second last) false) h in
      record {
        versioned = false;
        last = last;
        second = second;
        is_versioned = (edge_of stem, below_last (λ x. not (is_version_byte x)) stem 0 (length stem), no_version (is_version (past stem (edge_of stem)) && ends_in (up_to stem (edge_of stem)) (codes ".so")) unversioned);
        is_last = below_last (is_byte 0x2E) stem 1 (length stem);
        is_second = below_last (is_byte 0x2E) stem 1 (unwrap_or last 0);
        is = shown second last is;
      }

  stem_key : IsTrue (shows_extension stem text) → IsStemKey keys stem (Some k)
  stem_key h = rw not_whole (Some k, extension_key h, refl)

-- the key of that name
key_of_stem : (part : Part) (text : List ℕ) (k : Key) → find (is_key part text) keys ≡ Some k → small text ≡ text → IsTrue (shows_key part text)
    → IsStemKey keys (name_of part text) (Some k)
key_of_stem Whole text k found same h = whole_key text k found same
key_of_stem Extension text k found same h = stem_key text k found same h

reached : (part : Part) (text : List ℕ) (k : Key) → find (is_key part text) keys ≡ Some k → IsTrue (has_name part text)
    → (name : List ℕ) × IsKey keys name (Some k)
reached part text k found h =
    let name = name_of part text in
    let is_small = and_parts (bytes_eq (small text) text) _ h in
    let no_zero = and_parts (not (list_any (is_byte 0) name)) _ is_small.1 in
    let no_slash = and_parts (not (list_any (is_byte2 0x2F 0x5C) name)) _ no_zero.1 in
    let (no_copy, shows) = and_parts (not (list_any (ends_in name) copies)) (shows_key part text) no_slash.1 in
    let same = (bytes_eq-Decides (small text) text).0 is_small.0 in
    let stem = subst (λ s. IsStemKey keys s (Some k)) (sym (whole_stem name no_copy)) (key_of_stem part text k found same shows) in
    let base : IsBase name name = (None, nowhere_of (is_byte2 0x2F 0x5C) name no_slash.0, refl) in
    let is_key_of : IsKey keys name (Some k) = (None, nowhere_of (is_byte 0) name no_zero.0, (name, base, stem)) in
    (name, is_key_of)

pub each_reached : EachKeyIsReached
each_reached j d lt =
    let k = slice_index_or keys j d in
    reached k.part k.text k (all_self keys all_right j d lt) (all_named keys all_right j d lt)
