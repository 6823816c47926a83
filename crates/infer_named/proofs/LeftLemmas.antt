-- No reading is hidden by those before it.
use Rattle.std.proofs.Common.{ℕ, suc, ◌≡◌, ◌⊎◌, ◌&&◌, ◌++◌, ◌∙◌, Bool, true, false, IsTrue, List, [], ◌∷◌, Option, None, Some, ap, ap₂, arith, refl, sym, if◌then◌else◌, inl, inr, not}
use Rattle.std.proofs.lemmas.Bool.{and_from, and_parts, cases_Bool}
use Rattle.std.proofs.lemmas.List.{append_assoc}
use Rattle.std.proofs.lemmas.List.Elements.{All-cons, All-nil}
use Rattle.std.specs.List.{All, Contains, find, list_any}
use Rattle.std.specs.Option.{option_map_or}
use Rattle.infer.specs.Triple.{Triple}
use Rattle.infer_more.specs.Wider.{shown}
use Rattle.infer_named.specs.Asks.{admits}
use Rattle.infer_named.specs.Join.{answer, fits, is_among, joined_with, joined_without, reading_of, reading_without, takes}
use Rattle.infer_named.specs.Bytes.{is_empty}
use Rattle.infer_named.specs.Key.{Key, Reading, is_loose}
use Rattle.infer_named.specs.Laws.{EachReadingIsFound, IsToldAlone, IsToldOfRow, are_left, are_told, first_lead, has_form, has_name, is_first, is_key_right, is_left, is_name_only, may_lead, row_of, wrong_keys}
use Rattle.infer_named.specs.Names.{is_key}
use Rattle.infer_named.specs.Table.{keys}
use Rattle.infer_named.specs.declared.bytes.Kind.{Kind}
use Rattle.infer_named.specs.declared.bytes.Kind.TheVariants.{Binary, Empty, Marked}
use Rattle.infer_named.specs.declared.join.Standing.TheVariants.{Nothing}
use Rattle.infer_named.proofs.TableLemmas.{all_right}

-- some element passes
some_passes : {A : Type 0} (p : A → Bool) (xs : List A) → IsTrue (list_any p xs) → (x : A) × IsTrue (p x)
some_passes p [] h = absurd (cc)
some_passes p (x ∷ xs) h = elim (cases_Bool (p x)) [
  | inl on ↦ (x, on)
  | inr off ↦ (let later : IsTrue (list_any p xs) = rw off at h in some_passes p xs later)
]

-- the first reading that passes is found, whatever stands after it
first_found : (p : Reading → Bool) (before : List Reading) (r : Reading) (rest : List Reading) → IsTrue (is_first p before r)
    → find p (before ++ (r ∷ rest)) ≡ Some r
first_found p [] r rest h = let on : p r ≡ true = (and_parts (p r) (not (list_any p [])) h).0 in rw on refl
first_found p (e ∷ before) r rest h =
    let (on, none) = and_parts (p r) (not (list_any p (e ∷ before))) h in
    elim (cases_Bool (p e)) [
      | inl hit ↦ absurd (let wrong : IsTrue (not true) = rw hit at none in cc)
      | inr off ↦ (let later : IsTrue (not (list_any p before)) = rw off at none in
          rw off (first_found p before r rest (and_from (p r) (not (list_any p before)) on later)))
    ]

-- what is found is an element of the list
found_in : (p : Triple → Bool) (xs : List Triple) (x : Triple) → find p xs ≡ Some x → Contains xs x
found_in p [] x e = absurd (cc)
found_in p (y ∷ xs) x e = elim (cases_Bool (p y)) [
  | inl on ↦ (let same : y ≡ x = (let here : Some y ≡ Some x = rw on at e in cc) in (0, omega arith, same))
  | inr off ↦ (let later : find p xs ≡ Some x = rw off at e in let (place, lt, is) = found_in p xs x later in (suc place, omega arith, is))
]

strict : (b : Bool) → IsTrue (not b) → b ≡ false
strict true h = absurd (cc)
strict false h = refl

-- a reading to which something is left is told
module _ (k : Key) (before : List Reading) (r : Reading) (rest : List Reading) (same : k.readings ≡ before ++ (r ∷ rest)) where
  abbrev lead : List ℕ
  lead = first_lead r.leads

  told_of : (row : List ℕ) (o : Option Triple) → row_of row ≡ o → IsTrue (option_map_or (λ t. is_first (λ e. fits lead e && takes t e) before r) o false) → IsToldOfRow k r
  told_of row None e h = absurd (cc)
  told_of row (Some t) e h =
      let found : reading_of k.readings t lead ≡ Some r = ap (find (λ e. fits lead e && takes t e)) same ∙ first_found (λ e. fits lead e && takes t e) before r rest h in
      record {
        t = t;
        lead = lead;
        is_shown = found_in (λ t. is_among t (row ∷ [])) shown t e;
        found = found;
        is = λ kind. ap (joined_with k t) found;
      }

  told_alone : (kind : Kind) → is_loose k.usage ≡ false → IsTrue (may_lead kind lead && is_first (λ e. fits lead e && admits e.asks kind) before r) → IsToldAlone k r
  told_alone kind firm h =
      let (may, first) = and_parts (may_lead kind lead) (is_first (λ e. fits lead e && admits e.asks kind) before r) h in
      let found : reading_without k.readings kind lead ≡ Some r
      = ap (find (λ e. fits lead e && admits e.asks kind)) same ∙ first_found (λ e. fits lead e && admits e.asks kind) before r rest first in
      record {
        kind = kind;
        lead = lead;
        may_be = may;
        found = found;
        is = ap₂ (λ loose o. if loose then answer Nothing None else joined_without (is_empty kind) o) firm found;
      }

  left_told : IsTrue (is_left (is_loose k.usage) before r) → IsToldOfRow k r ⊎ IsToldAlone k r
  left_told h =
      let by_kind : Kind → Bool = λ kind. may_lead kind lead && is_first (λ e. fits lead e && admits e.asks kind) before r in
      let by_row : List ℕ → Bool = λ row. option_map_or (λ t. is_first (λ e. fits lead e && takes t e) before r) (row_of row) false in
      let kinds = Empty ∷ Binary ∷ Marked ∷ [] in
      elim (cases_Bool (not (is_loose k.usage) && list_any by_kind kinds)) [
        | inl on ↦ (let (firm, some) = and_parts (not (is_loose k.usage)) (list_any by_kind kinds) on in
            let (kind, first) = some_passes by_kind kinds some in inr (told_alone kind (strict (is_loose k.usage) firm) first))
        | inr off ↦ (let rows : IsTrue (list_any by_row (r.agrees ++ (r.begins ++ r.finer))) = rw off at h in
            let (row, first) = some_passes by_row (r.agrees ++ (r.begins ++ r.finer)) rows in inl (told_of row (row_of row) refl first))
      ]

abbrev IsTold : Key → Reading → Type 0
IsTold k r = IsToldOfRow k r ⊎ IsToldAlone k r

all_told : (k : Key) (before readings : List Reading) → k.readings ≡ before ++ readings → IsTrue (are_left (is_loose k.usage) before readings) → All (IsTold k) readings
all_told k before [] same h = All-nil (IsTold k)
all_told k before (r ∷ readings) same h =
    let (here, later) = and_parts (is_left (is_loose k.usage) before r) (are_left (is_loose k.usage) (before ++ (r ∷ [])) readings) h in
    All-cons (IsTold k) r readings (left_told k before r readings same here)
    (all_told k (before ++ (r ∷ [])) readings (same ∙ sym (append_assoc before (r ∷ []) readings)) later)

-- so each reading of a key that is right is told, or it is the only one of a loose key
abbrev AreTold : Key → Type 0
AreTold k = All (IsTold k) k.readings ⊎ IsTrue (is_name_only k)

told_of_key : (k : Key) → IsTrue (is_key_right k) → AreTold k
told_of_key k h =
    let parts = and_parts (has_form k) (has_name k.part k.text && are_told k) h in
    let told = (and_parts (has_name k.part k.text) (are_told k) parts.1).1 in
    elim (cases_Bool (are_left (is_loose k.usage) [] k.readings)) [
      | inl on ↦ inl (all_told k [] k.readings refl on)
      | inr off ↦ (let only : IsTrue (is_name_only k) = rw off at told in inr only)
    ]

each_of : (rows : List Key) → wrong_keys rows ≡ [] → All AreTold rows
each_of [] e = All-nil AreTold
each_of (k ∷ rows) e = elim (cases_Bool (is_key_right k && not (list_any (is_key k.part k.text) rows))) [
  | inl on ↦ (let (right, once) = and_parts (is_key_right k) (not (list_any (is_key k.part k.text) rows)) on in
      let later : wrong_keys rows ≡ [] = rw on at e in All-cons AreTold k rows (told_of_key k right) (each_of rows later))
  | inr off ↦ absurd (let some : k.text ∷ wrong_keys rows ≡ [] = rw off at e in cc)
]

pub each_found : EachReadingIsFound
each_found = each_of keys all_right
