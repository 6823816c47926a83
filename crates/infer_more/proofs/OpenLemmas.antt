-- What bytes after a buffer can bring an alternative and a signature, and what they can take from them.
use Rattle.std.proofs.lemmas.Bool.{or_cases}
use Rattle.infer_more.proofs.Common.{◌≡◌, ◌↔◌, ◌⊎◌, ◌+◌, ◌-◌, ◌<◌, ◌≤◌, inl, inr, ℕ, zero, suc, Bool, true, false, IsTrue, List, [], ◌∷◌, ◌++◌, append_assoc, get_or, length, nat_le, take, refl, sym, subst, ap, ◌∙◌, arith, ◌||◌, ◌==◌, if◌then◌else◌, slice_index, and_from, and_parts, eqb-true, le-leb, leb-true, get_or-take, length-take, All-nil, MayBecome, Stays, IsBinary, Lasts, applications, package_with, may_have, accepts, Bytes, Part, allows, between, fits, AllLast, is_lasting, alternative_listed, signature_listed, Accepted, Fits}
use Rattle.std.proofs.Common.{length-append, take_all}
use Rattle.std.proofs.lemmas.Bool.{or_left}
use Rattle.std.proofs.lemmas.List.Elements.{All-append, All-cons}
use Rattle.infer_deep.specs.Open.{AgreesAt}
use Rattle.infer_formats.specs.Relation.{IsSound, Relation}
use Rattle.infer_more.specs.Open.{is_known, is_one_or_lasts}
use Rattle.infer_more.proofs.FoundLemmas.{one_of}
use Rattle.infer_sig.specs.Open.{MayBecomeIsExact, agrees, is_alternative_sound, is_sound, may_fit}
use Rattle.infer_sig.specs.Signature as fixed
use Rattle.infer_sig.specs.Signature.{text, byte}
use Rattle.infer_sig.proofs.PlaceLemmas.{stands_by_place}
use Rattle.infer_more.specs.declared.row_data.Alternative.{Alternative}

same_tests : (r s : Bool) → (IsTrue r → IsTrue s) → (IsTrue s → IsTrue r) → r ≡ s
same_tests true s f g = sym (f refl)
same_tests false true f g = g refl
same_tests false false f g = refl

-- ---- some element of a list

module _ {A B : Type 0} (f : A → B) (P : B → Type 0) where
  abbrev pub SomeOf : List A → Type 0
  SomeOf [] = ⊥
  SomeOf (x ∷ xs) = P (f x) ⊎ SomeOf xs

  pub some_at : (xs : List A) (k : ℕ) (d : A) → k < length xs → P (f (get_or xs k d)) → SomeOf xs
  some_at [] k d lt p = absurd (omega arith)
  some_at (x ∷ xs) zero d lt p = inl p
  some_at (x ∷ xs) (suc k) d lt p = inr (some_at xs k d (omega arith) p)

  pub some_more : (xs : List A) (k : ℕ) (d : A) → k < length xs → SomeOf (take (k + 1) xs) ↔ (SomeOf (take k xs) ⊎ P (f (get_or xs k d)))
  some_more [] k d lt = absurd (omega arith)
  some_more (x ∷ xs) zero d lt = (
    λ h. elim h as (λ t. ⊥ ⊎ P (f x)) [ inl p ↦ inr p | inr q ↦ inl q ],
    λ h. elim h as (λ t. P (f x) ⊎ ⊥) [ inl q ↦ inr q | inr p ↦ inl p ],
  )
  some_more (x ∷ xs) (suc k) d lt =
      let e : suc k + 1 ≡ suc (k + 1) = omega arith in
      let rest = some_more xs k d (omega arith) in
      rw e (
        λ h. elim h as (λ t. SomeOf (x ∷ take k xs) ⊎ P (f (get_or xs k d))) [
          | inl p ↦ inl (inl p)
          | inr q ↦ elim (rest.0 q) as (λ t. SomeOf (x ∷ take k xs) ⊎ P (f (get_or xs k d))) [ inl s ↦ inl (inr s) | inr p ↦ inr p ]
        ],
        λ h. elim h as (λ t. SomeOf (x ∷ take (k + 1) xs)) [
          | inl before ↦ elim before as (λ t. SomeOf (x ∷ take (k + 1) xs)) [ inl p ↦ inl p | inr s ↦ inr (rest.1 (inl s)) ]
          | inr p ↦ inr (rest.1 (inr p))
        ],
      )

  pub none_more : (xs : List A) (k : ℕ) (d : A) → k < length xs → ¬ SomeOf (take k xs) → ¬ P (f (get_or xs k d)) → ¬ SomeOf (take (k + 1) xs)
  none_more xs k d lt before none = λ h. elim ((some_more xs k d lt).0 h) [ inl s ↦ before s | inr p ↦ none p ]

  pub some_of : (xs : List A) (n : ℕ) → length xs ≤ n → SomeOf xs ↔ SomeOf (take n xs)
  some_of xs n le = (λ h. subst SomeOf (sym (take_all n xs le)) h, λ h. subst SomeOf (take_all n xs le) h)

  pub none_of : (xs : List A) (n : ℕ) → length xs ≤ n → ¬ SomeOf (take n xs) → ¬ SomeOf xs
  none_of xs n le h = λ some. h ((some_of xs n le).0 some)

module _ (b : List ℕ) where
  pub some_accepted : (xs : List Alternative) → SomeOf alternative_listed (λ a. Fits a b) xs ↔ Accepted (signature_listed xs) b
  some_accepted [] = (λ h. absurd h, λ h. h)
  some_accepted (x ∷ xs) = let rest = some_accepted xs in (
    λ h. elim h [ inl f ↦ inl f | inr r ↦ inr (rest.0 r) ],
    λ h. elim h [ inl f ↦ inl f | inr g ↦ inr (rest.1 g) ],
  )

  abbrev pub MayFit : List Alternative → Type 0
  MayFit xs = SomeOf alternative_listed (λ a. MayBecome (Fits a) b) xs

  pub some_fits : (xs : List Alternative) → MayFit xs ↔ MayBecome (Accepted (signature_listed xs)) b
  some_fits [] = (λ h. absurd h, λ (more, bytes, h). h)
  some_fits (x ∷ xs) = let rest = some_fits xs in (
    λ h. elim h [
      | inl (more, bytes, f) ↦ (more, bytes, inl f)
      | inr r ↦ let (more, bytes, g) = rest.0 r in (more, bytes, inr g)
    ],
    λ (more, bytes, h). elim h [
      | inl f ↦ inl (more, bytes, f)
      | inr g ↦ inr (rest.1 (more, bytes, g))
    ],
  )

-- ---- fixed bytes

module _ (opens : (signature : List fixed.Alternative) → IsTrue (is_sound signature) → MayBecomeIsExact signature) (a : fixed.Alternative) (sound : IsTrue (is_alternative_sound a)) (b : List ℕ) where
  pub bytes_open : (r : Bool) → r ≡ may_fit b a → IsTrue r ↔ MayBecome (λ c. IsTrue (fits c a)) b
  bytes_open r e =
      let open_it = opens (a ∷ []) (and_from (is_alternative_sound a) true sound refl) b in (
        λ t.
            let (more, bytes, h) = open_it.0 (or_left (may_fit b a) false (sym e ∙ t)) in
            (more, bytes, only (fits (b ++ more) a) h),
        λ (more, bytes, h). e ∙ only (may_fit b a) (open_it.1 (more, bytes, or_left (fits (b ++ more) a) false h)),
      )
    where
      only : (p : Bool) → IsTrue (p || false) → IsTrue p
      only true h = refl
      only false h = h

  -- a byte of binary data can always follow
  pub binary_open : Lasts (λ b. IsTrue (accepts (a ∷ []) b)) → (r : Bool) → r ≡ may_fit b a → IsTrue r ↔ MayBecome (λ c. IsTrue (fits c a) × IsBinary c) b
  binary_open lasts r e =
      let plain = bytes_open r e in (
        λ t. let (more, bytes, h) = plain.0 t in (
          more ++ 0 ∷ [],
          All-append (λ x. x < 256) more (0 ∷ []) bytes (All-cons (λ x. x < 256) 0 [] (omega arith) (All-nil (λ x. x < 256))),
          subst (λ c. IsTrue (fits c a) × IsBinary c) (append_assoc b more (0 ∷ [])) (longer (b ++ more) h, ends (b ++ more)),
        ),
        λ (more, bytes, (h, binary)). plain.1 (more, bytes, h),
      )
    where
      longer : (c : List ℕ) → IsTrue (fits c a) → IsTrue (fits (c ++ 0 ∷ []) a)
      longer c h = elim (or_cases (fits (c ++ 0 ∷ []) a) false (lasts c (0 ∷ []) (or_left (fits c a) false h))) [ inl f ↦ f | inr f ↦ absurd (cc) ]

      last : (c : List ℕ) → slice_index (c ++ 0 ∷ []) (length c) ≡ zero
      last [] = refl
      last (x ∷ c) = last c

      ends : (c : List ℕ) → IsBinary (c ++ 0 ∷ [])
      ends c =
          let more = length-append c (0 ∷ []) in
          let low = last c in
          (length c, omega arith, inl (omega arith))

-- what a text asks, as far as the buffer goes
module _ (place : ℕ) (t b : List ℕ) where
  agrees_if : AgreesAt b t place → IsTrue (agrees place t b)
  unfolding agrees
  agrees_if h =
      let room = length-take {A = ℕ} (length b - place) t in
      (stands_by_place place (take (length b - place) t) b).1
      (λ k l. (omega (arith, l, room), h.reads k (omega (arith, l, room)) (omega (arith, l, room)) ∙ sym (get_or-take (length b - place) t k 0 (omega (arith, l, room)))))

  agrees_so : IsTrue (agrees place t b) → AgreesAt b t place
  unfolding agrees
  agrees_so h =
      let room = length-take {A = ℕ} (length b - place) t in
      record {
        reads = λ k lt less.
            ((stands_by_place place (take (length b - place) t) b).0 h k (omega (arith, lt, less, room))).1
            ∙ get_or-take (length b - place) t k 0 (omega (arith, lt, less, room));
      }

  pub agrees_test : (r : Bool) → IsTrue r ↔ AgreesAt b t place → r ≡ agrees place t b
  agrees_test r h = same_tests r (agrees place t b) (λ e. agrees_if (h.0 e)) (λ e. h.1 (agrees_so e))

-- a byte past the end of the buffer is open, and one in it is as the set says
module _ (place : ℕ) (b : List ℕ) where
  pub open_past : (set : Bytes) → length b ≤ place → true ≡ may_have b (byte place set)
  open_past set le = sym (or_left (nat_le (length b) place) _ (le-leb (length b) place le))

  not_past : place < length b → (q : Bool) → q ≡ (nat_le (length b) place || q)
  not_past lt q = same_tests q (nat_le (length b) place || q) (or_right_of (nat_le (length b) place)) back
    where
      or_right_of : (p : Bool) → IsTrue q → IsTrue (p || q)
      or_right_of true h = refl
      or_right_of false h = h

      back : IsTrue (nat_le (length b) place || q) → IsTrue q
      back h = elim (or_cases (nat_le (length b) place) q h) [
        | inl e ↦ let le = leb-true (length b) place e in absurd (omega arith)
        | inr f ↦ f
      ]

  pub known_within : (set : Bytes) → place < length b → (r : Bool) → r ≡ allows set (slice_index b place) → r ≡ may_have b (byte place set)
  known_within set lt r e = e ∙ not_past lt (allows set (slice_index b place))

  -- of a range, which may be of one byte
  module _ (low high : ℕ) where
    abbrev Ranged : Bool → Part
    Ranged t = if t then text place (low ∷ []) else byte place (between low high)

    one_agrees : (length b ≤ place) ⊎ (slice_index b place ≡ low) → AgreesAt b (low ∷ []) place
    one_agrees h = record { reads = go h }
      where
        go : (length b ≤ place) ⊎ (slice_index b place ≡ low) → (k : ℕ) → k < 1 → place + k < length b → slice_index b (place + k) ≡ slice_index (low ∷ []) k
        go (inl le) zero lt less = absurd (omega arith)
        go (inr e) zero lt less = let same : place + 0 ≡ place = omega arith in ap (slice_index b) same ∙ e
        go g (suc k) lt less = absurd (omega arith)

    past_ranged : length b ≤ place → (t : Bool) → true ≡ may_have b (Ranged t)
    past_ranged le true = agrees_test place (low ∷ []) b true (λ e. one_agrees (inl le), λ h. refl)
    past_ranged le false = open_past (between low high) le

    pub range_past : length b ≤ place → true ≡ may_have b (Ranged (low == high))
    range_past le = past_ranged le (low == high)

    within_ranged : place < length b → (r : Bool) → r ≡ allows (between low high) (slice_index b place) → (t : Bool) → (low == high) ≡ t → r ≡ may_have b (Ranged t)
    within_ranged lt r e true same =
        let one : low ≡ high = eqb-true low high same in
        agrees_test place (low ∷ []) b r (
          λ is.
              let both = and_parts (nat_le low (slice_index b place)) _ (sym e ∙ is) in
              let least : low ≤ slice_index b place = leb-true _ _ both.0 in
              let most : slice_index b place ≤ high = leb-true _ _ both.1 in
              one_agrees (inr (omega arith)),
          λ a.
              let here : place + 0 ≡ place = omega arith in
              let f : slice_index b place ≡ low = sym (ap (slice_index b) here) ∙ a.reads 0 (omega arith) (omega arith) in
              e ∙ and_from (nat_le low (slice_index b place)) _ (le-leb low (slice_index b place) (omega arith)) (le-leb (slice_index b place) high (omega arith)),
        )
    within_ranged lt r e false same = known_within (between low high) lt r e

    pub range_within : place < length b → (r : Bool) → r ≡ allows (between low high) (slice_index b place) → r ≡ may_have b (Ranged (low == high))
    range_within lt r e = within_ranged lt r e (low == high) refl

-- ---- what stays

pub fit_stays : AllLast → (a : Alternative) → IsTrue (is_lasting (alternative_listed a)) → (b : List ℕ) → Fits (alternative_listed a) b → Stays (Fits (alternative_listed a)) b
fit_stays all_last a l b f more bytes =
    elim (all_last (alternative_listed a ∷ []) (and_from (is_lasting (alternative_listed a)) true l refl) b more (inl f)) [ inl g ↦ g | inr g ↦ absurd g ]

-- and of two alternatives or more
pub many_stay : AllLast → (s : List Alternative) → 2 ≤ length s → IsTrue (is_one_or_lasts (signature_listed s)) → (b : List ℕ) → Accepted (signature_listed s) b → Stays (Accepted (signature_listed s)) b
many_stay all_last (x ∷ y ∷ s) long known b h = λ more bytes. all_last (signature_listed (x ∷ y ∷ s)) known b more h
many_stay all_last (x ∷ []) long known b h = absurd (omega arith)
many_stay all_last [] long known b h = absurd (omega arith)

-- ---- a relation, whose folder is that of an application

pub sound_relation : (r : Relation) → IsTrue (is_known r) → IsSound r
sound_relation (package_with folder) known = one_of folder applications known
sound_relation other known = tt
