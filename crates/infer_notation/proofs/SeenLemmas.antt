-- What a buffer makes of alternatives that a text describes by a relation.
use Rattle.infer_notation.proofs.Common.{◌≡◌, ◌+◌, ◌⊎◌, ◌||◌, ◌≤◌, ℕ, suc, slice_index, Bool, true, false, not, cond, ◌&&◌, List, [], ◌∷◌, ◌++◌, Option, None, Some, IsTrue, drop, length, map, option_map, get_or, inl, inr, refl, sym, ap, subst, ◌∙◌, ◌<◌, arith, and_parts, false≢true, or_cases, nat_tests, drop_all, drop_more, Accepted, Alternative, Asked, accepts, has_data, described, IsSeen, each_of, groups_of, item_of, items_of, items_in, left_groups, named_in, names, relations_in, relations_of, token_listed, ◌>>=◌, Takes, Program}
use Rattle.std.proofs.Common.{◌↔◌}
use Rattle.std.proofs.Math.Bool.{and-true}
use Rattle.std.proofs.lemmas.Bool.Decides.{Decides-or}
use Rattle.std.proofs.lemmas.List.Folds.{list_any_at}
use Rattle.infer_sig.specs.Signature as fixed
use Rattle.infer_formats.specs.Relation.{Relation}
use Rattle.infer_formats.specs.Text.{IsBinary, IsDataByte}
use Rattle.infer_notation.specs.Alternative.{Fits, binary_bytes, bytes, related}
use Rattle.infer_notation.specs.Fixed.{fits_asked, is_data_byte}
use Rattle.infer_notation.specs.Tokens.{Token}
use Rattle.infer_formats.specs.declared.token.Token as declared

-- ---- alternatives

-- those to come, and one before them that the buffer may fit
abbrev pub IsLeft : Bool → Option (List Alternative) → List ℕ → Option Bool → Type 0
IsLeft any items b None = items ≡ None
IsLeft any items b (Some x) = (alternatives : List Alternative) × (items ≡ Some alternatives) × (IsTrue x ↔ (IsTrue any ⊎ Accepted alternatives b))

abbrev pub left_items : Takes → Option (List ℕ) → Option (List Alternative)
left_items takes rest = left_groups rest >>= items_in takes

accepted_both : (first others : List Alternative) (b : List ℕ) → Accepted (first ++ others) b ↔ (Accepted first b ⊎ Accepted others b)
accepted_both [] others b = (λ h. inr h, λ h. elim h [ inl none ↦ absurd none | inr more ↦ more ])
accepted_both (a ∷ first) others b = let rest = accepted_both first others b in (
  λ h. elim h [ inl f ↦ inl (inl f) | inr more ↦ elim (rest.0 more) [ inl f ↦ inl (inr f) | inr m ↦ inr m ] ],
  λ h. elim h [ inl (inl f) ↦ inl f | inl (inr f) ↦ inr (rest.1 (inl f)) | inr m ↦ inr (rest.1 (inr m)) ],
)

-- some alternatives less to come
seen_more : (items others : Option (List Alternative)) (b : List ℕ) (any fits : Bool) (first : List Alternative) → items ≡ option_map (λ more. first ++ more) others → IsTrue fits ↔ Accepted first b
    → (x : Option Bool) → IsLeft (any || fits) others b x → IsLeft any items b x
seen_more items others b any fits first is fit None left = is ∙ ap (option_map (λ more. first ++ more)) left
seen_more items others b any fits first is fit (Some x) (alternatives, are, seen) = (
  first ++ alternatives,
  is ∙ ap (option_map (λ more. first ++ more)) are,
  (λ t. there any fits fit.0 (seen.0 t), λ h. seen.1 (back any fits fit.1 h)),
)
  where
    there : (any fits : Bool) → (IsTrue fits → Accepted first b) → IsTrue (any || fits) ⊎ Accepted alternatives b → IsTrue any ⊎ Accepted (first ++ alternatives) b
    there true fits f h = inl refl
    there false fits f (inl t) = inr ((accepted_both first alternatives b).1 (inl (f t)))
    there false fits f (inr more) = inr ((accepted_both first alternatives b).1 (inr more))

    back : (any fits : Bool) → (Accepted first b → IsTrue fits) → IsTrue any ⊎ Accepted (first ++ alternatives) b → IsTrue (any || fits) ⊎ Accepted alternatives b
    back true fits f h = inl refl
    back false fits f (inl t) = absurd (false≢true t)
    back false fits f (inr h) = elim ((accepted_both first alternatives b).0 h) [ inl fit ↦ inl (f fit) | inr more ↦ inr more ]

-- none before them
only_left : (items : Option (List Alternative)) (b : List ℕ) (x : Option Bool) → IsLeft false items b x → IsSeen items b x
only_left items b None h = h
only_left items b (Some x) (alternatives, are, seen) = (alternatives, are, (λ t. elim (seen.0 t) [ inl f ↦ absurd (false≢true f) | inr h ↦ h ], λ h. seen.1 (inr h)))

-- the first group, by the relation's name, and by what it takes
named_group : (g : List Token) (takes : Takes) (ts : List Token) → named_in names g ≡ Some (takes, ts) → (o : Option (List (List Token)))
    → (option_map (λ gs. g ∷ gs) o >>= relations_in) ≡ (option_map (λ gs. ts ∷ gs) o >>= items_in takes)
named_group g takes ts named None = refl
named_group g takes ts named (Some gs) = ap (λ n. n >>= λ n. items_in n.0 (n.1 ∷ gs)) named

taken_group : (takes : Takes) (ts : List Token) (first : List Alternative) → items_of takes ts ≡ Some first → (o : Option (List (List Token)))
    → (option_map (λ gs. ts ∷ gs) o >>= items_in takes) ≡ option_map (λ others. first ++ others) (o >>= items_in takes)
taken_group takes ts first is None = refl
taken_group takes ts first is (Some gs) = ap (λ i. i >>= λ first. option_map (λ others. first ++ others) (items_in takes gs)) is

-- the first alternatives
pub seen_first : (text b : List ℕ) (g : List Token) (rest : Option (List ℕ)) (takes : Takes) (ts : List Token) (fits : Bool) → groups_of text ≡ option_map (λ gs. g ∷ gs) (left_groups rest)
    → named_in names g ≡ Some (takes, ts) → IsSeen (items_of takes ts) b (Some fits) → (x : Option Bool) → IsLeft fits (left_items takes rest) b x → IsSeen (relations_of text) b x
seen_first text b g rest takes ts fits whole named (first, is, fit) x left =
    only_left (relations_of text) b x (seen_more (relations_of text) (left_items takes rest) b false fits first
    (ap (λ o. o >>= relations_in) whole ∙ named_group g takes ts named (left_groups rest) ∙ taken_group takes ts first is (left_groups rest)) fit x left)

-- a name that none has, or an alternative that takes something else
pub unseen_first : (text : List ℕ) (g : List Token) (rest : Option (List ℕ)) → groups_of text ≡ option_map (λ gs. g ∷ gs) (left_groups rest) → named_in names g ≡ None → relations_of text ≡ None
unseen_first text g rest whole named = ap (λ o. o >>= relations_in) whole ∙ on_groups (left_groups rest)
  where
    on_groups : (o : Option (List (List Token))) → (option_map (λ gs. g ∷ gs) o >>= relations_in) ≡ None
    on_groups None = refl
    on_groups (Some gs) = ap (λ n. n >>= λ n. items_in n.0 (n.1 ∷ gs)) named

pub untaken_first : (text : List ℕ) (g : List Token) (rest : Option (List ℕ)) (takes : Takes) (ts : List Token) → groups_of text ≡ option_map (λ gs. g ∷ gs) (left_groups rest)
    → named_in names g ≡ Some (takes, ts) → items_of takes ts ≡ None → relations_of text ≡ None
untaken_first text g rest takes ts whole named is = ap (λ o. o >>= relations_in) whole ∙ named_group g takes ts named (left_groups rest) ∙ on_groups (left_groups rest)
  where
    on_groups : (o : Option (List (List Token))) → (option_map (λ gs. ts ∷ gs) o >>= items_in takes) ≡ None
    on_groups None = refl
    on_groups (Some gs) = ap (λ i. i >>= λ first. option_map (λ others. first ++ others) (items_in takes gs)) is

-- further alternatives
pub seen_next : (more b : List ℕ) (g : List Token) (rest : Option (List ℕ)) (takes : Takes) (any fits : Bool) → groups_of more ≡ option_map (λ gs. g ∷ gs) (left_groups rest)
    → IsSeen (items_of takes g) b (Some fits) → (x : Option Bool) → IsLeft (any || fits) (left_items takes rest) b x → IsLeft any (left_items takes (Some more)) b x
seen_next more b g rest takes any fits whole (first, is, fit) =
    seen_more (left_items takes (Some more)) (left_items takes rest) b any fits first (ap (λ o. o >>= items_in takes) whole ∙ taken_group takes g first is (left_groups rest)) fit

-- none is to come
pub seen_last : (b : List ℕ) (takes : Takes) (any : Bool) → IsLeft any (left_items takes None) b (Some any)
seen_last b takes any = ([], refl, (λ t. inl t, λ h. elim h [ inl t ↦ t | inr none ↦ absurd none ]))

-- ---- one relation, and programs, each by a word

abbrev one : Relation → List Alternative
one r = related r ∷ []

pub one_seen : (o : Option Relation) (r : Relation) (b : List ℕ) (x : Bool) → Some r ≡ o → IsTrue x ↔ Fits (related r) b → IsSeen (option_map one o) b (Some x)
one_seen o r b x is fit = (one r, ap (option_map one) (sym is), (λ t. inl (fit.0 t), λ h. elim h [ inl f ↦ fit.1 f | inr none ↦ absurd none ]))

abbrev pub AreLeft : Bool → List declared.Token → List ℕ → Option Bool → Type 0
AreLeft any ts b x = IsLeft any (each_of Program (map token_listed ts)) b x

-- the next
module _ (ts : List declared.Token) (i : ℕ) (t : declared.Token) (inside : i < length ts) (b : List ℕ) where
  pub program_next : (any fits : Bool) → IsSeen (option_map one (item_of Program (token_listed (get_or ts i t) ∷ []))) b (Some fits) → (x : Option Bool) → AreLeft (any || fits) (drop (i + 1) ts) b x → AreLeft any (drop i ts) b x
  program_next any fits (first, is, fit) x left =
      seen_more (each_of Program (map token_listed (drop i ts))) (each_of Program (map token_listed (drop (i + 1) ts))) b any fits first
      (ap (λ us. each_of Program (map token_listed us)) (drop_more ts i t inside) ∙ on_first (item_of Program (token_listed (get_or ts i t) ∷ [])) is (each_of Program (map token_listed (drop (i + 1) ts)))) fit x left
    where
      on_first : (o : Option Relation) → option_map one o ≡ Some first → (p : Option (List Alternative)) → (o >>= λ r. option_map (λ others. related r ∷ others) p) ≡ option_map (λ more. first ++ more) p
      on_first None e p = absurd cc
      on_first (Some r) e p = let same : one r ≡ first = cc in subst (λ f. option_map (λ others. related r ∷ others) p ≡ option_map (λ more. f ++ more) p) same refl

  pub no_program : (any : Bool) → option_map one (item_of Program (token_listed (get_or ts i t) ∷ [])) ≡ None → AreLeft any (drop i ts) b None
  no_program any is = ap (λ us. each_of Program (map token_listed us)) (drop_more ts i t inside) ∙ on_first (item_of Program (token_listed (get_or ts i t) ∷ [])) is
    where
      on_first : (o : Option Relation) → option_map one o ≡ None → (o >>= λ r. option_map (λ others. related r ∷ others) (each_of Program (map token_listed (drop (i + 1) ts)))) ≡ None
      on_first None e = refl
      on_first (Some r) e = absurd cc

-- and none after the last
pub programs_last : (ts : List declared.Token) (i : ℕ) (b : List ℕ) (any : Bool) → length ts ≤ i → AreLeft any (drop i ts) b (Some any)
programs_last ts i b any past = subst (λ us. AreLeft any us b (Some any)) (sym (drop_all i ts past)) ([], refl, (λ t. inl t, λ h. elim h [ inl t ↦ t | inr none ↦ absurd none ]))

-- ---- fixed signatures as those of further rows

byte_is : (x : ℕ) → IsTrue (is_data_byte x) ↔ IsDataByte x
byte_is x = (λ t. grind (arith, nat_tests), λ h. grind (arith, nat_tests))

pub data_is : (b : List ℕ) → IsTrue (has_data b) ↔ IsBinary b
data_is b = (some_data b, λ (k, less, d). list_any_at is_data_byte b k 0 less ((byte_is (slice_index b k)).1 d))
  where
    some_data : (b : List ℕ) → has_data b ≡ true → IsBinary b
    some_data [] e = absurd (false≢true e)
    some_data (x ∷ xs) e = elim (or_cases (is_data_byte x) (has_data xs) e) [
      | inl here ↦ (0, omega arith, (byte_is x).0 here)
      | inr more ↦ let (k, less, d) = some_data xs more in (suc k, omega arith, d)
    ]

fits_is : (a : Asked) (b : List ℕ) → IsTrue (fits_asked b a) ↔ Fits (described a) b
fits_is a b = on_binary a.binary refl
  where
    both : IsTrue (fixed.fits b a.bytes && has_data b) ↔ (IsTrue (fixed.fits b a.bytes) × IsBinary b)
    both = (λ t. let k = and_parts (fixed.fits b a.bytes) (has_data b) t in (k.0, (data_is b).0 k.1), λ (f, d). rw (f, (data_is b).1 d) refl)

    on_binary : (c : Bool) → a.binary ≡ c → IsTrue (fixed.fits b a.bytes && (not c || has_data b)) ↔ Fits (cond c (binary_bytes a.bytes) (bytes a.bytes)) b
    on_binary true is = both
    on_binary false is = (λ t. sym (and-true (fixed.fits b a.bytes)) ∙ t, λ t. and-true (fixed.fits b a.bytes) ∙ t)

accepted_is : (alternatives : List Asked) (b : List ℕ) → IsTrue (accepts alternatives b) ↔ Accepted (map described alternatives) b
accepted_is [] b = (false≢true, λ h. absurd h)
accepted_is (a ∷ others) b = Decides-or (fits_asked b a) (accepts others b) (fits_is a b) (accepted_is others b)

pub seen_fixed : (o : Option (List Asked)) (b : List ℕ) (x : Option Bool) → x ≡ option_map (λ alternatives. accepts alternatives b) o → IsSeen (option_map (map described) o) b x
seen_fixed None b None e = refl
seen_fixed (Some a) b (Some x) e =
    let same : x ≡ accepts a b = cc in
    (map described a, refl, subst (λ y. IsTrue y ↔ Accepted (map described a) b) (sym same) (accepted_is a b))
seen_fixed o b x e = absurd cc

-- ---- a signature that is known to be described

pub known_related : (o : Option (List Alternative)) (b : List ℕ) (x : Bool) → IsSeen o b (Some x) → (alternatives : List Alternative) → o ≡ Some alternatives → IsTrue x ↔ Accepted alternatives b
known_related o b x (all, is, seen) alternatives are =
    let same : Some all ≡ Some alternatives = sym is ∙ are in
    let each : all ≡ alternatives = cc in
    subst (λ a. IsTrue x ↔ Accepted a b) each seen

pub known_unseen : (o : Option (List Alternative)) (b : List ℕ) → IsSeen o b None → (alternatives : List Alternative) → o ≡ Some alternatives → ⊥
known_unseen o b none alternatives are = let both : None ≡ Some alternatives = sym none ∙ are in absurd cc

pub known_fixed : (o : Option (List Asked)) (b : List ℕ) (x : Bool) → ((asked : List Asked) → o ≡ Some asked → x ≡ accepts asked b)
    → (alternatives : List Alternative) → option_map (map described) o ≡ Some alternatives → IsTrue x ↔ Accepted alternatives b
known_fixed None b x h alternatives are = absurd cc
known_fixed (Some asked) b x h alternatives are =
    known_related (option_map (map described) (Some asked)) b x (seen_fixed (Some asked) b (Some x) (ap (λ (x : Bool). Some x) (h asked refl))) alternatives are
