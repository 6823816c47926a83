-- Names that differ in the case of letters, by a folder or by the ending of a copy have one key.
use Rattle.std.proofs.Common.{◌≡◌, ◌≢◌, ◌+◌, ◌-◌, ◌<◌, ◌≤◌, ◌==◌, ◌&&◌, ◌++◌, ◌∙◌, ℕ, Bool, true, false, IsTrue, List, [], ◌∷◌, Option, MatchOption, None, Some, ap, ap₂, arith, codes, drop, get_or, if◌then◌else◌, inl, inr, length, not, refl, subst, sym, take, unwrap_or}
use Rattle.std.proofs.lemmas.Bool.{and_from, and_parts, cases_Bool, cases_lt, eq-eqb, eqb-true, false_from_ne_true, le-ltb, leb-true, lt-ltb, or_from}
use Rattle.std.proofs.lemmas.List.{append_assoc, drop-append-le, drop-map, get_or-append-add, get_or-append_right, get_or-map, get_or_append_left, length-append, length-map, take-map, take_all}
use Rattle.std.proofs.lemmas.List.Folds.{list_any_at}
use Rattle.std.proofs.lemmas.Slice.Eq.{bytes_eq-Decides}
use Rattle.std.proofs.Math.Seq.{drop-append-add, drop-append_seam, get_or-append_seam, take-append_seam}
use Rattle.std.specs.Char.{to_ascii_lowercase}
use Rattle.std.specs.List.{find, list_any}
use Rattle.std.specs.Option.{option_or}
use Rattle.std.specs.Prelude.{is_some, nat_eq, nat_le, nat_lt}
use Rattle.std.specs.Str.{bytes_eq}
use Rattle.memchr.specs.Find.{IsFirst, IsFirstByte, IsLast, IsLastByte, Nowhere, Passes, is_byte, is_byte2}
use Rattle.infer_named.proofs.CopyLemmas.{last_is}
use Rattle.infer_named.specs.Key.{Key}
use Rattle.infer_named.specs.Laws.{CaseChangesNoKey, CopiesChangeNoKey, FoldersChangeNoKey}
use Rattle.infer_named.specs.Names.{IsBase, IsDottedKey, IsExtensionKey, IsKey, IsLastDot, IsMakerKey, IsStemKey, are_parts, past, copies, copy_length, ends_in, entry, extension_at, is_digit, is_key, is_version, is_version_byte, maker_before, makers, small, stem_of, up_to}
use Rattle.infer_named.specs.declared.table.Part.{Part}
use Rattle.infer_named.specs.declared.table.Part.TheVariants.{Extension, Whole}

-- a test that the case of a letter does not change
abbrev IsSteady : (ℕ → Bool) → Type 0
IsSteady test = (x : ℕ) → test (to_ascii_lowercase x) ≡ test x

steady : (test : ℕ → Bool) → ((x : ℕ) → 65 ≤ x → x < 91 → test (x + 32) ≡ test x) → IsSteady test
steady test same x = elim (cases_lt x 65) [
  | inl low ↦ rw (lt-ltb x 65 low) refl
  | inr from ↦ elim (cases_lt x 91) [
    | inl letter ↦ rw (le-ltb x 65 from) (rw (lt-ltb x 91 letter) (same x from letter))
    | inr high ↦ rw (le-ltb x 65 from) (rw (le-ltb x 91 high) refl)
  ]
]

other_byte : (c x : ℕ) → x ≢ c → (x == c) ≡ false
other_byte c x other = false_from_ne_true _ (λ e. other (eqb-true x c e))

no_digit : (x : ℕ) → 0x39 < x → is_digit x ≡ false
no_digit x lt = false_from_ne_true _ (λ e. absurd (omega (arith, leb-true _ _ (and_parts (nat_le 0x30 x) (nat_le x 0x39) e).1)))

no_version_byte : (x : ℕ) → 0x39 < x → is_version_byte x ≡ false
no_version_byte x lt = or_from (is_digit x) (x == 0x2E) (no_digit x lt) (other_byte 0x2E x (λ e. absurd (omega arith)))

steady_byte : (c : ℕ) → c < 65 → IsSteady (is_byte c)
steady_byte c lt = steady (is_byte c) (λ x low high. other_byte c (x + 32) (λ e. absurd (omega arith)) ∙ sym (other_byte c x (λ e. absurd (omega arith))))

no_slash : (x : ℕ) → x ≢ 0x2F → x ≢ 0x5C → is_byte2 0x2F 0x5C x ≡ false
no_slash x one two = or_from (x == 0x2F) (x == 0x5C) (other_byte 0x2F x one) (other_byte 0x5C x two)

steady_slash : IsSteady (is_byte2 0x2F 0x5C)
steady_slash = steady (is_byte2 0x2F 0x5C) (λ x low high.
    no_slash (x + 32) (λ e. absurd (omega arith)) (λ e. absurd (omega arith)) ∙ sym (no_slash x (λ e. absurd (omega arith)) (λ e. absurd (omega arith))))

steady_digit : IsSteady is_digit
steady_digit = steady is_digit (λ x low high. no_digit (x + 32) (omega arith) ∙ sym (no_digit x (omega arith)))

steady_edge : IsSteady (λ x. not (is_version_byte x))
steady_edge = steady (λ x. not (is_version_byte x)) (λ x low high. ap not (no_version_byte (x + 32) (omega arith) ∙ sym (no_version_byte x (omega arith))))

-- two searches with the same answers find the same place
module _ (P Q : ℕ → Type 0) (i j : ℕ) (to : (k : ℕ) → i ≤ k → k < j → P k → Q k) (from : (k : ℕ) → i ≤ k → k < j → Q k → P k) where
  one_first : (r s : Option ℕ) → IsFirst P i j r → IsFirst Q i j s → r ≡ s
  one_first None None none absent = refl
  one_first None (Some l) none (there, on) = absurd (none l there.low there.high (from l there.low there.high on))
  one_first (Some k) None (here, on) absent = absurd (absent k here.low here.high (to k here.low here.high on))
  one_first (Some k) (Some l) (here, on) (there, is) = elim (cases_lt k l) [
    | inl less ↦ absurd (there.before k here.low less (to k here.low here.high on))
    | inr more ↦ elim (cases_lt l k) [
      | inl less ↦ absurd (here.before l there.low less (from l there.low there.high is))
      | inr equal ↦ ap Some (omega arith)
    ]
  ]

  one_last : (r s : Option ℕ) → IsLast P i j r → IsLast Q i j s → r ≡ s
  one_last None None none absent = refl
  one_last None (Some l) none (there, on) = absurd (none l there.low there.high (from l there.low there.high on))
  one_last (Some k) None (here, on) absent = absurd (absent k here.low here.high (to k here.low here.high on))
  one_last (Some k) (Some l) (here, on) (there, is) = elim (cases_lt k l) [
    | inl less ↦ absurd (here.after l (omega arith) there.high (from l there.low there.high is))
    | inr more ↦ elim (cases_lt l k) [
      | inl less ↦ absurd (there.after k (omega arith) here.high (to k here.low here.high on))
      | inr equal ↦ ap Some (omega arith)
    ]
  ]

last_within : (P : ℕ → Type 0) (i j : ℕ) (r : Option ℕ) → IsLast P i j r → unwrap_or r 0 ≤ j
last_within P i j None none = omega arith
last_within P i j (Some k) (there, on) = let high : k < j = there.high in omega arith

-- texts that are the same in small letters
module _ (a b : List ℕ) (same : small a ≡ small b) where
  as_long : length a ≡ length b
  as_long = sym (length-map a to_ascii_lowercase) ∙ (ap length same ∙ length-map b to_ascii_lowercase)

  at : (test : ℕ → Bool) → IsSteady test → (i : ℕ) → i < length a → test (get_or a i 0) ≡ test (get_or b i 0)
  at test firm i lt =
      let there : i < length b = omega (arith, as_long) in
      let letters : to_ascii_lowercase (get_or a i 0) ≡ to_ascii_lowercase (get_or b i 0)
      = sym (get_or-map to_ascii_lowercase a i 0 0 lt) ∙ (ap (λ l. get_or l i 0) same ∙ get_or-map to_ascii_lowercase b i 0 0 there) in
      sym (firm (get_or a i 0)) ∙ (ap test letters ∙ firm (get_or b i 0))

  same_first : (test : ℕ → Bool) → IsSteady test → (r s : Option ℕ) → IsFirstByte test a r → IsFirstByte test b s → r ≡ s
  same_first test firm r s here there =
      one_first (Passes test a) (Passes test b) 0 (length a) (λ k low lt on. sym (at test firm k lt) ∙ on) (λ k low lt on. at test firm k lt ∙ on) r s here
      (subst (λ n. IsFirst (Passes test b) 0 n s) (sym as_long) there)

  same_last : (test : ℕ → Bool) → IsSteady test → (i n : ℕ) → n ≤ length a → (r s : Option ℕ) → IsLast (Passes test a) i n r → IsLast (Passes test b) i n s → r ≡ s
  same_last test firm i n most r s here there =
      one_last (Passes test a) (Passes test b) i n (λ k low lt on. sym (at test firm k (omega arith)) ∙ on) (λ k low lt on. at test firm k (omega arith) ∙ on) r s here there

  same_drop : (n : ℕ) → small (drop n a) ≡ small (drop n b)
  same_drop n = sym (drop-map to_ascii_lowercase n a) ∙ (ap (drop n) same ∙ drop-map to_ascii_lowercase n b)

  same_take : (n : ℕ) → small (take n a) ≡ small (take n b)
  same_take n = sym (take-map to_ascii_lowercase n a) ∙ (ap (take n) same ∙ take-map to_ascii_lowercase n b)

  same_after : (place : Option ℕ) → small (past a place) ≡ small (past b place)
  same_after None = same
  same_after (Some place) = same_drop (place + 1)

  same_up_to : (place : Option ℕ) → small (up_to a place) ≡ small (up_to b place)
  same_up_to None = refl
  same_up_to (Some place) = same_take (place + 1)

  same_end : (ending : List ℕ) → ends_in a ending ≡ ends_in b ending
  same_end ending =
      ap₂ (λ n text. nat_lt (length ending) n && bytes_eq text ending) as_long
      (same_drop (length a - length ending) ∙ ap (λ n. small (drop (n - length ending) b)) as_long)

  same_copy : copy_length a ≡ copy_length b
  same_copy = rw (same_end (codes "~")) (rw (same_end (codes ".bak")) (rw (same_end (codes ".orig")) (rw (same_end (codes ".old")) refl)))

  same_stem : small (stem_of a) ≡ small (stem_of b)
  same_stem = same_take (length a - copy_length a) ∙ ap₂ (λ n m. small (take (n - m) b)) as_long same_copy

same_parts : (due : Bool) (a b : List ℕ) → small a ≡ small b → are_parts due a ≡ are_parts due b
same_parts due [] [] same = refl
same_parts due [] (y ∷ b) same = absurd (omega (arith, as_long [] (y ∷ b) same))
same_parts due (x ∷ a) [] same = absurd (omega (arith, as_long (x ∷ a) [] same))
same_parts due (x ∷ a) (y ∷ b) same =
    let digit : is_digit x ≡ is_digit y = at (x ∷ a) (y ∷ b) same is_digit steady_digit 0 (omega arith) in
    let dot : (x == 0x2E) ≡ (y == 0x2E) = at (x ∷ a) (y ∷ b) same (is_byte 0x2E) (steady_byte 0x2E (omega arith)) 0 (omega arith) in
    let rest : small a ≡ small b = same_drop (x ∷ a) (y ∷ b) same 1 in
    ap (λ d. if d then are_parts false a else (not due && x == 0x2E && are_parts true a)) digit
    ∙ (ap (λ d. if is_digit y then are_parts false a else (not due && d && are_parts true a)) dot
    ∙ ap₂ (λ p q. if is_digit y then p else (not due && y == 0x2E && q)) (same_parts false a b rest) (same_parts true a b rest))

same_version : (a b : List ℕ) → small a ≡ small b → is_version a ≡ is_version b
same_version [] [] same = refl
same_version [] (y ∷ b) same = absurd (omega (arith, as_long [] (y ∷ b) same))
same_version (x ∷ a) [] same = absurd (omega (arith, as_long (x ∷ a) [] same))
same_version (x ∷ a) (y ∷ b) same =
    ap₂ (λ dot parts. dot && parts) (at (x ∷ a) (y ∷ b) same (is_byte 0x2E) (steady_byte 0x2E (omega arith)) 0 (omega arith))
    (same_parts true a b (same_drop (x ∷ a) (y ∷ b) same 1))

match_same : (o : Option Key) (P Q : Type 0) (k l : Option Key) → (P → Q → k ≡ l) → MatchOption o P (λ x. k ≡ Some x) → MatchOption o Q (λ x. l ≡ Some x) → k ≡ l
match_same None P Q k l by here there = by here there
match_same (Some x) P Q k l by here there = here ∙ sym there

-- so their stems have one key
module _ (table : List Key) where
  same_entry : (part : Part) (a b : List ℕ) → small a ≡ small b → entry table part a ≡ entry table part b
  same_entry part a b same = ap (λ text. find (is_key part text) table) same

  same_extension_at : (a b : List ℕ) → small a ≡ small b → (dot : Option ℕ) → extension_at table a dot ≡ extension_at table b dot
  same_extension_at a b same None = refl
  same_extension_at a b same (Some dot) = same_entry Extension (drop (dot + 1) a) (drop (dot + 1) b) (same_drop a b same (dot + 1))

  same_extension : (a b : List ℕ) → small a ≡ small b → (k l : Option Key) → IsExtensionKey table a k → IsExtensionKey table b l → k ≡ l
  same_extension a b same k l f g =
      let (place, edge, is) = f.is_versioned in
      let (other, its_edge, its) = g.is_versioned in
      let test : ℕ → Bool = λ x. not (is_version_byte x) in
      let long = as_long a b same in
      let places : place ≡ other = same_last a b same test steady_edge 0 (length a) (omega arith) place other edge (subst (λ n. IsLast (Passes test b) 0 n other) (sym long) its_edge) in
      let versioned : f.versioned ≡ g.versioned
      = is ∙ (ap₂ (λ v so. v && so) (same_version (past a place) (past b place) (same_after a b same place)) (same_end (up_to a place) (up_to b place) (same_up_to a b same place) (codes ".so"))
      ∙ (ap (λ p. is_version (past b p) && ends_in (up_to b p) (codes ".so")) places ∙ sym its)) in
      let dots = same_last a b same (is_byte 0x2E) (steady_byte 0x2E (omega arith)) 1 in
      let last : f.last ≡ g.last = dots (length a) (omega arith) f.last g.last f.is_last (subst (λ n. IsLastDot b n g.last) (sym long) g.is_last) in
      let second : f.second ≡ g.second
      = dots (unwrap_or f.last 0) (last_within (Passes (is_byte 0x2E) a) 1 (length a) f.last f.is_last) f.second g.second f.is_second
      (subst (λ o. IsLastDot b (unwrap_or o 0) g.second) (sym last) g.is_second) in
      let so = entry table Extension (codes "so") in
      f.is ∙ (ap₂ (λ s e. if f.versioned then so else option_or s e) (same_extension_at a b same f.second) (same_extension_at a b same f.last)
      ∙ (ap (λ v. if v then so else option_or (extension_at table b f.second) (extension_at table b f.last)) versioned
      ∙ (ap₂ (λ s e. if g.versioned then so else option_or (extension_at table b s) (extension_at table b e)) second last ∙ sym g.is)))

  same_maker_before : (a b : List ℕ) → small a ≡ small b → (dot : Option ℕ) → maker_before table a dot ≡ maker_before table b dot
  same_maker_before a b same None = refl
  same_maker_before a b same (Some dot) = ap (λ text. if list_any (bytes_eq text) makers then find (is_key Whole text) table else None) (same_take a b same dot)

  same_maker : (a b : List ℕ) → small a ≡ small b → (k l : Option Key) → IsMakerKey table a k → IsMakerKey table b l → k ≡ l
  same_maker a b same k l (dot, first, is) (other, there, its) =
      let dots : dot ≡ other = same_first a b same (is_byte 0x2E) (steady_byte 0x2E (omega arith)) dot other first there in
      is ∙ (same_maker_before a b same dot ∙ (ap (maker_before table b) dots ∙ sym its))

  same_dotted : (a b : List ℕ) → small a ≡ small b → (k l : Option Key) → IsDottedKey table a k → IsDottedKey table b l → k ≡ l
  same_dotted a b same k l (extension, is, here) (other, its, there) =
      let one : extension ≡ other = same_extension a b same extension other is its in
      match_same other (IsMakerKey table a k) (IsMakerKey table b l) k l (same_maker a b same k l)
      (subst (λ o. MatchOption o (IsMakerKey table a k) (λ x. k ≡ Some x)) one here) there

  same_key : (a b : List ℕ) → small a ≡ small b → (k l : Option Key) → IsStemKey table a k → IsStemKey table b l → k ≡ l
  same_key a b same k l here there =
      match_same (entry table Whole b) (IsDottedKey table a k) (IsDottedKey table b l) k l (same_dotted a b same k l)
      (subst (λ o. MatchOption o (IsDottedKey table a k) (λ x. k ≡ Some x)) (same_entry Whole a b same) here) there

  -- and so do names whose bases have such stems, if both or neither have a byte 00
  module _ (name other : List ℕ) (stems : (x y : List ℕ) → IsBase name x → IsBase other y → small (stem_of x) ≡ small (stem_of y)) (k l : Option Key) where
    by_zeros : (r s : Option ℕ) → is_some r ≡ is_some s → MatchOption r ((base : List ℕ) × IsBase name base × IsStemKey table (stem_of base) k) (λ place. k ≡ None)
        → MatchOption s ((base : List ℕ) × IsBase other base × IsStemKey table (stem_of base) l) (λ place. l ≡ None) → k ≡ l
    by_zeros None None e (x, is, here) (y, its, there) = same_key (stem_of x) (stem_of y) (stems x y is its) k l here there
    by_zeros None (Some s) e here there = absurd (cc)
    by_zeros (Some r) None e here there = absurd (cc)
    by_zeros (Some r) (Some s) e here there = here ∙ sym there

    same_name : ((r s : Option ℕ) → IsFirstByte (is_byte 0) name r → IsFirstByte (is_byte 0) other s → is_some r ≡ is_some s) → IsKey table name k → IsKey table other l → k ≡ l
    same_name zeros (r, first, here) (s, its_first, there) = by_zeros r s (zeros r s first its_first) here there

-- names that are the same in small letters
same_base : (name other : List ℕ) → small name ≡ small other → (x y : List ℕ) → IsBase name x → IsBase other y → small x ≡ small y
same_base name other same x y (slash, last, is) (place, its_last, its) =
    let long = as_long name other same in
    let one : slash ≡ place = same_last name other same (is_byte2 0x2F 0x5C) steady_slash 0 (length name) (omega arith) slash place last
    (subst (λ n. IsLast (Passes (is_byte2 0x2F 0x5C) other) 0 n place) (sym long) its_last) in
    ap small is ∙ (same_after name other same slash ∙ (ap (λ p. small (past other p)) one ∙ sym (ap small its)))

pub case_same : CaseChangesNoKey
case_same table name other k l same here there =
    same_name table name other (λ x y is its. same_stem x y (same_base name other same x y is its)) k l
    (λ r s first its. ap is_some (same_first name other same (is_byte 0) (steady_byte 0 (omega arith)) r s first its)) here there

-- bytes of which none passes a test
pub nowhere_of : (test : ℕ → Bool) (text : List ℕ) → IsTrue (not (list_any test text)) → Nowhere (Passes test text) 0 (length text)
nowhere_of test text h k low lt on =
    let some : list_any test text ≡ true = list_any_at test text k 0 lt on in
    absurd (let wrong : IsTrue (not true) = subst (λ b. IsTrue (not b)) some h in cc)

-- a name after a front
module _ (test : ℕ → Bool) (front name : List ℕ) where
  long : length (front ++ name) ≡ length front + length name
  long = length-append front name

  in_front : (k : ℕ) → k < length front → test (get_or (front ++ name) k 0) ≡ true → test (get_or front k 0) ≡ true
  in_front k lt on = subst (λ y. test y ≡ true) (get_or_append_left front name 0 k lt) on

  in_name : (k : ℕ) → length front ≤ k → test (get_or (front ++ name) k 0) ≡ true → test (get_or name (k - length front) 0) ≡ true
  in_name k le on = subst (λ y. test y ≡ true) (get_or-append_right front name (length front) k 0 refl le) on

  from_name : (k : ℕ) → test (get_or name k 0) ≡ true → test (get_or (front ++ name) (length front + k) 0) ≡ true
  from_name k on = subst (λ y. test y ≡ true) (sym (get_or-append-add front name k 0)) on

  from_front : (k : ℕ) → k < length front → test (get_or front k 0) ≡ true → test (get_or (front ++ name) k 0) ≡ true
  from_front k lt on = subst (λ y. test y ≡ true) (sym (get_or_append_left front name 0 k lt)) on

  -- a front without such bytes hides none
  some_alike : Nowhere (Passes test front) 0 (length front) → (r s : Option ℕ) → IsFirstByte test name r → IsFirstByte test (front ++ name) s → is_some r ≡ is_some s
  some_alike clear None None none absent = refl
  some_alike clear (Some k) (Some l) here there = refl
  some_alike clear (Some k) None (here, on) absent =
      let high : k < length name = here.high in absurd (absent (length front + k) (omega arith) (omega (arith, long)) (from_name k on))
  some_alike clear None (Some l) none (there, on) =
      let high : l < length (front ++ name) = there.high in
      absurd (elim (cases_lt l (length front)) [
        | inl early ↦ clear l (omega arith) early (in_front l early on)
        | inr late ↦ none (l - length front) (omega arith) (omega (arith, long)) (in_name l late on)
      ])

  -- after a front that ends in such a byte the same stands after the last of them
  module _ (some : 0 < length front) (ends : test (get_or front (length front - 1) 0) ≡ true) where
    abbrev last_in_both : Option ℕ → ℕ
    last_in_both None = length front - 1
    last_in_both (Some k) = length front + k

    is_last_in_both : (r : Option ℕ) → IsLastByte test name r → IsLastByte test (front ++ name) (Some (last_in_both r))
    is_last_in_both None none = (
      record {
        low = omega arith;
        high = omega (arith, long);
        after = λ k low lt on. none (k - length front) (omega arith) (omega (arith, long)) (in_name k (omega arith) on);
      },
      from_front (length front - 1) (omega arith) ends,
    )
    is_last_in_both (Some p) (here, on) =
        let high : p < length name = here.high in (
          record {
            low = omega arith;
            high = omega (arith, long);
            after = λ k low lt is. here.after (k - length front) (omega arith) (omega (arith, long)) (in_name k (omega arith) is);
          },
          from_name p on,
        )

    after_both : (r : Option ℕ) → past name r ≡ past (front ++ name) (Some (last_in_both r))
    after_both None =
        let whole : length front - 1 + 1 ≡ length front = omega arith in
        sym (ap (λ n. drop n (front ++ name)) whole ∙ drop-append_seam front name)
    after_both (Some p) =
        let sum : length front + p + 1 ≡ length front + (p + 1) = omega arith in
        sym (ap (λ n. drop n (front ++ name)) sum ∙ drop-append-add front name (p + 1))

    one_after : (r s : Option ℕ) → IsLastByte test name r → IsLastByte test (front ++ name) s → past name r ≡ past (front ++ name) s
    one_after r s here there =
        let P = Passes test (front ++ name) in
        after_both r ∙ ap (past (front ++ name)) (one_last P P 0 (length (front ++ name)) (λ k low lt on. on) (λ k low lt on. on) (Some (last_in_both r)) s (is_last_in_both r here) there)

-- a folder is a front without 00 that ends in a slash
module _ (folder : List ℕ) (slash : ℕ) (slashed : IsTrue (is_byte2 0x2F 0x5C slash)) where
  abbrev front : List ℕ
  front = folder ++ (slash ∷ [])

  front_long : length front ≡ length folder + 1
  front_long = length-append folder (slash ∷ [])

  front_ends : is_byte2 0x2F 0x5C (get_or front (length front - 1) 0) ≡ true
  front_ends =
      let place : length front - 1 ≡ length folder = omega (arith, front_long) in
      subst (λ y. is_byte2 0x2F 0x5C y ≡ true) (sym (ap (λ i. get_or front i 0) place ∙ get_or-append_seam folder slash [] 0)) slashed

  front_clear : IsTrue (not (list_any (is_byte 0) folder)) → Nowhere (Passes (is_byte 0) front) 0 (length front)
  front_clear clear k low lt on = elim (cases_lt k (length folder)) [
    | inl early ↦ nowhere_of (is_byte 0) folder clear k low early (in_front (is_byte 0) folder (slash ∷ []) k early on)
    | inr late ↦ (
        let place : k ≡ length folder = omega (arith, front_long) in
        let zero : is_byte 0 slash ≡ true = subst (λ y. is_byte 0 y ≡ true) (ap (λ i. get_or front i 0) place ∙ get_or-append_seam folder slash [] 0) on in
        absurd (let wrong : is_byte2 0x2F 0x5C 0 ≡ true = subst (λ y. is_byte2 0x2F 0x5C y ≡ true) (eqb-true slash 0 zero) slashed in cc))
  ]

pub folder_same : FoldersChangeNoKey
folder_same table folder name slash k l slashed clear here there =
    let front = folder ++ (slash ∷ []) in
    let some : 0 < length front = omega (arith, front_long folder slash slashed) in
    let ends = front_ends folder slash slashed in
    same_name table name (front ++ name)
    (λ x y (place, last, is) (other, its_last, its). ap (λ base. small (stem_of base)) (is ∙ (one_after (is_byte2 0x2F 0x5C) front name some ends place other last its_last ∙ sym its))) k l
    (some_alike (is_byte 0) front name (front_clear folder slash slashed clear)) here (subst (λ n. IsKey table n l) (sym (append_assoc folder (slash ∷ []) name)) there)

-- a name before an ending without such bytes
module _ (test : ℕ → Bool) (name ending : List ℕ) (clear : Nowhere (Passes test ending) 0 (length ending)) where
  early : (k : ℕ) → k < length (name ++ ending) → test (get_or (name ++ ending) k 0) ≡ true → k < length name
  early k lt on = elim (cases_lt k (length name)) [
    | inl within ↦ within
    | inr late ↦ absurd (clear (k - length name) (omega arith) (omega (arith, length-append name ending)) (in_name test name ending k late on))
  ]

  shorter_first : (s : Option ℕ) → IsFirstByte test (name ++ ending) s → IsFirst (Passes test (name ++ ending)) 0 (length name) s
  shorter_first None none = λ k low lt on. none k low (omega (arith, length-append name ending)) on
  shorter_first (Some p) (there, on) = (record { low = there.low; high = early p there.high on; before = there.before }, on)

  shorter_last : (s : Option ℕ) → IsLastByte test (name ++ ending) s → IsLast (Passes test (name ++ ending)) 0 (length name) s
  shorter_last None none = λ k low lt on. none k low (omega (arith, length-append name ending)) on
  shorter_last (Some p) (there, on) = (
    record { low = there.low; high = early p there.high on; after = λ k low lt is. there.after k low (omega (arith, length-append name ending)) is },
    on,
  )

  kept_first : (r s : Option ℕ) → IsFirstByte test name r → IsFirstByte test (name ++ ending) s → r ≡ s
  kept_first r s here there =
      one_first (Passes test name) (Passes test (name ++ ending)) 0 (length name) (λ k low lt on. from_front test name ending k lt on) (λ k low lt on. in_front test name ending k lt on)
      r s here (shorter_first s there)

  kept_last : (r s : Option ℕ) → IsLastByte test name r → IsLastByte test (name ++ ending) s → r ≡ s
  kept_last r s here there =
      one_last (Passes test name) (Passes test (name ++ ending)) 0 (length name) (λ k low lt on. from_front test name ending k lt on) (λ k low lt on. in_front test name ending k lt on)
      r s here (shorter_last s there)

after_ending : (name ending : List ℕ) (place : Option ℕ) → IsLastByte (is_byte2 0x2F 0x5C) name place → past (name ++ ending) place ≡ past name place ++ ending
after_ending name ending None none = refl
after_ending name ending (Some p) (there, on) = let high : p < length name = there.high in drop-append-le (p + 1) name ending (omega arith)

-- what holds of each ending of a copy
by_copies : (P : List ℕ → Type 0) → P (codes "~") → P (codes ".bak") → P (codes ".orig") → P (codes ".old")
    → (ending : List ℕ) → IsTrue (list_any (bytes_eq ending) copies) → P ending
by_copies P tilde bak orig old ending h = elim (cases_Bool (bytes_eq ending (codes "~"))) [
  | inl on ↦ subst P (sym ((bytes_eq-Decides ending (codes "~")).0 on)) tilde
  | inr no_tilde ↦ elim (cases_Bool (bytes_eq ending (codes ".bak"))) [
    | inl on ↦ subst P (sym ((bytes_eq-Decides ending (codes ".bak")).0 on)) bak
    | inr no_bak ↦ elim (cases_Bool (bytes_eq ending (codes ".orig"))) [
      | inl on ↦ subst P (sym ((bytes_eq-Decides ending (codes ".orig")).0 on)) orig
      | inr no_orig ↦ elim (cases_Bool (bytes_eq ending (codes ".old"))) [
        | inl on ↦ subst P (sym ((bytes_eq-Decides ending (codes ".old")).0 on)) old
        | inr no_old ↦ absurd (let none : IsTrue false = rw no_old at (rw no_orig at (rw no_bak at (rw no_tilde at h))) in cc)
      ]
    ]
  ]
]

-- what is no copy is its own stem, and with the ending of one it still is
own_stem : (base : List ℕ) → copy_length base ≡ 0 → stem_of base ≡ base
own_stem base none = ap (λ n. take (length base - n) base) none ∙ take_all (length base - 0) base (omega arith)

module _ (base : List ℕ) (some : 0 < length base) where
  hit : (ending : List ℕ) → small ending ≡ ending → ends_in (base ++ ending) ending ≡ true
  hit ending same =
      let long = length-append base ending in
      let rest : length (base ++ ending) - length ending ≡ length base = omega (arith, long) in
      and_from (nat_lt (length ending) (length (base ++ ending))) (bytes_eq (small (drop (length (base ++ ending) - length ending) (base ++ ending))) ending)
      (lt-ltb _ _ (omega (arith, long)))
      ((bytes_eq-Decides _ ending).1 (ap (λ n. small (drop n (base ++ ending))) rest ∙ (ap small (drop-append_seam base ending) ∙ same)))

  miss : (ending other : List ℕ) → 0 < length ending → 0 < length other
      → nat_eq (to_ascii_lowercase (get_or ending (length ending - 1) 0)) (get_or other (length other - 1) 0) ≡ false → ends_in (base ++ ending) other ≡ false
  miss ending other many more off =
      let place : length (base ++ ending) - 1 ≡ length base + (length ending - 1) = omega (arith, length-append base ending) in
      let last = ap (λ i. get_or (base ++ ending) i 0) place ∙ get_or-append-add base ending (length ending - 1) 0 in
      false_from_ne_true _ (λ is.
      let on : true ≡ false = sym (eq-eqb _ _ (sym (ap to_ascii_lowercase last) ∙ last_is (base ++ ending) other more is)) ∙ off in absurd (cc))

  copied : (ending : List ℕ) → IsTrue (list_any (bytes_eq ending) copies) → copy_length (base ++ ending) ≡ length ending
  copied ending copy =
      by_copies (λ e. copy_length (base ++ e) ≡ length e)
      (rw (hit (codes "~") refl) refl)
      (rw (miss (codes ".bak") (codes "~") (omega arith) (omega arith) refl) (rw (hit (codes ".bak") refl) refl))
      (rw (miss (codes ".orig") (codes "~") (omega arith) (omega arith) refl)
      (rw (miss (codes ".orig") (codes ".bak") (omega arith) (omega arith) refl) (rw (hit (codes ".orig") refl) refl)))
      (rw (miss (codes ".old") (codes "~") (omega arith) (omega arith) refl)
      (rw (miss (codes ".old") (codes ".bak") (omega arith) (omega arith) refl)
      (rw (miss (codes ".old") (codes ".orig") (omega arith) (omega arith) refl) (rw (hit (codes ".old") refl) refl)))) ending copy

  copied_stem : (ending : List ℕ) → IsTrue (list_any (bytes_eq ending) copies) → stem_of (base ++ ending) ≡ base
  copied_stem ending copy =
      let rest : length (base ++ ending) - length ending ≡ length base = omega (arith, length-append base ending) in
      ap (λ n. take (length (base ++ ending) - n) (base ++ ending)) (copied ending copy) ∙ (ap (λ n. take n (base ++ ending)) rest ∙ take-append_seam base ending)

some_bytes : (b : List ℕ) → b ≢ [] → 0 < length b
some_bytes [] some = absurd (some refl)
some_bytes (x ∷ b) some = omega arith

pub copy_same : CopiesChangeNoKey
copy_same table name base ending k l copy is_base some none here there =
    let zeros = by_copies (λ e. IsTrue (not (list_any (is_byte 0) e))) refl refl refl refl ending copy in
    let slashes = nowhere_of (is_byte2 0x2F 0x5C) ending (by_copies (λ e. IsTrue (not (list_any (is_byte2 0x2F 0x5C) e))) refl refl refl refl ending copy) in
    let P = Passes (is_byte2 0x2F 0x5C) name in
    same_name table name (name ++ ending) (λ x y (place, last, is) (other, its_last, its).
    let (slash, slash_last, whole) = is_base in
    let own : x ≡ base = is ∙ (ap (past name) (one_last P P 0 (length name) (λ k low lt on. on) (λ k low lt on. on) place slash last slash_last) ∙ sym whole) in
    let more : y ≡ base ++ ending
    = its ∙ (ap (past (name ++ ending)) (sym (kept_last (is_byte2 0x2F 0x5C) name ending slashes place other last its_last))
    ∙ (after_ending name ending place last ∙ ap (λ b. b ++ ending) (sym is ∙ own))) in
    ap small (ap stem_of own ∙ (own_stem base none ∙ (sym (copied_stem base (some_bytes base some) ending copy) ∙ sym (ap stem_of more))))) k l
    (λ r s first its. ap is_some (kept_first (is_byte 0) name ending (nowhere_of (is_byte 0) ending zeros) r s first its)) here there
