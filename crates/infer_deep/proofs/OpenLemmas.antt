-- What bytes after a buffer can bring: texts that agree with it as far as it goes.
use Rattle.infer_deep.proofs.Common.{Option, None, Some, MatchOption, IsFirstWithin, IsTrue, ◌≡◌, ◌⊎◌, ◌↔◌, ℕ, zero, suc, ◌+◌, ◌-◌, ◌<◌, ◌≤◌, inl, inr, Bool, true, List, [], ◌∷◌, ◌++◌, length, get_or, take, drop, max, min, refl, sym, ap, subst, ◌∙◌, arith, length-append, length-drop, append_assoc, get_or-append_right, lt-ltb, cases_lt, ltb-true, append-nil, get_or_append_left, get_or-drop, length-replicate, All-append, All-drop, All-from_get_or, All-nil, All-replicate, take_rest, front_reads, front_from_reads, starts_is, Decides-eqb, list_all-from_AllPass, starts_with, All, nat_eq, nat_lt, replicate, OccursAt, IsWithin, IsFirstPlace, are_bytes, AgreesAt, MayBecome, le32, be32, get_or-replicate, get_or_past, cases_Bool, false≢true, AllPass-from_list_all}
use Rattle.infer_deep.proofs.PlaceLemmas.{OccursAt-append}
use Rattle.infer_deep.proofs.SearchLemmas.{occurs_from_starts, starts_from_occurs}

abbrev pub IsBytes : List ℕ → Type 0
IsBytes b = All (λ x. x < 256) b

pub bytes_from_test : (text : List ℕ) → IsTrue (are_bytes text) → IsBytes text
bytes_from_test text is k d l = ltb-true _ 256 (AllPass-from_list_all (λ x. nat_lt x 256) text is k d l)

pub test_from_reads : (text : List ℕ) → ((i : ℕ) → get_or text i 0 < 256) → IsTrue (are_bytes text)
test_from_reads text h = list_all-from_AllPass (λ x. nat_lt x 256) text (λ k d l. grind (arith, lt-ltb, h k, All-from_get_or (λ x. x < 256) text 0))

-- what can be reached after some more bytes can be reached
pub MayBecome-grown : (S : List ℕ → Type 0) (b more : List ℕ) → IsBytes more → MayBecome S (b ++ more) → MayBecome S b
MayBecome-grown S b more bytes (rest, all, h) =
    (more ++ rest, All-append (λ x. x < 256) more rest bytes all, subst S (append_assoc b more rest) h)

-- and what is there
pub MayBecome-here : (S : List ℕ → Type 0) (b : List ℕ) → S b → MayBecome S b
MayBecome-here S b h = ([], All-nil (λ x. x < 256), subst S (sym (append-nil b)) h)

-- a text agrees where it stands, also in what b grows to
pub agrees_where_stands : (b text : List ℕ) (p : ℕ) → OccursAt b text p → AgreesAt b text p
agrees_where_stands b text p o = record { reads = λ k l m. o.reads k l }

pub grown_agrees : (b more text : List ℕ) (p : ℕ) → OccursAt (b ++ more) text p → AgreesAt b text p
grown_agrees b more text p o = grind (arith, get_or_append_left)

-- it stands where it agrees and is whole, and agrees with what is past the end
pub stands_where_whole : (b text : List ℕ) (p : ℕ) → p + length text ≤ length b → AgreesAt b text p → OccursAt b text p
stands_where_whole b text p whole a = record { fits = whole; reads = λ k l. a.reads k l (omega arith) }

pub agrees_past : (b text : List ℕ) (p : ℕ) → length b ≤ p → AgreesAt b text p
agrees_past b text p past = record { reads = λ k l m. absurd (omega arith) }

pub agrees_none : (b : List ℕ) (p : ℕ) → AgreesAt b [] p
agrees_none b p = record { reads = λ k l m. absurd (omega arith) }

-- bytes that do not reach past n change nothing from n on
pub AgreesAt-later : (b more text : List ℕ) (n p : ℕ) → length (b ++ more) ≤ max (length b) n → n ≤ p → AgreesAt b text p → AgreesAt (b ++ more) text p
AgreesAt-later b more text n p short late a = grind (arith, get_or_append_left)

-- the bytes of a text at a place that a buffer of n bytes lacks
missing : ℕ → List ℕ → ℕ → List ℕ
missing place t n = replicate (place - n) 0 ++ drop (n - place) t

missing_is : (place : ℕ) (t : List ℕ) (n : ℕ) → (length (missing place t n) ≡ (place - n) + (length t - (n - place)))
    × ((k : ℕ) → n ≤ place + k → get_or (missing place t n) (place + k - n) 0 ≡ get_or t k 0) × (IsBytes t → IsBytes (missing place t n))
unfolding missing
missing_is place t n = (
  simp (length-append, length-replicate, length-drop) refl,
  λ k l. grind (arith, length-replicate, get_or-append_right, get_or-drop),
  λ h. All-append (λ x. x < 256) _ _ (All-replicate (λ x. x < 256) (place - n) 0 (omega arith)) (All-drop (λ x. x < 256) (n - place) t h),
)

missing_stands : (b text : List ℕ) (p : ℕ) → AgreesAt b text p → OccursAt (b ++ missing p text (length b)) text p
missing_stands b text p a = grind (arith, length-append, missing_is p text (length b), get_or_append_left, get_or-append_right)

-- bytes after b with which it is H, and reaches to `end` and not past it
pub record Fills (H : List ℕ → Type 0) (b : List ℕ) (end : ℕ) : Type 0 where
  pub more : List ℕ
  pub bytes : IsBytes more
  pub holds : H (b ++ more)
  pub long : end ≤ length (b ++ more)
  pub short : length (b ++ more) ≤ max (length b) end

pub fills_text : (b text : List ℕ) (p : ℕ) → IsTrue (are_bytes text) → AgreesAt b text p → Fills (λ c. OccursAt c text p) b (p + length text)
fills_text b text p bytes a =
    let is = missing_is p text (length b) in
    grind (arith, is, bytes_from_test text bytes, missing_stands b text p a, length-append b (missing p text (length b)))

pub reaches_text : (b text : List ℕ) (p : ℕ) → IsTrue (are_bytes text) → AgreesAt b text p ↔ MayBecome (λ c. OccursAt c text p) b
reaches_text b text p bytes = grind (arith, fills_text b text p bytes, grown_agrees b)

-- a text with its place
pub record Part : Type 0 where
  pub place : ℕ
  pub text : List ℕ

abbrev pub AllAgree : List Part → List ℕ → Type 0
AllAgree [] b = Unit
AllAgree (x ∷ xs) b = AgreesAt b x.text x.place × AllAgree xs b

abbrev pub AllStand : List Part → List ℕ → Type 0
AllStand [] b = Unit
AllStand (x ∷ xs) b = OccursAt b x.text x.place × AllStand xs b

-- the parts are bytes, lie apart in that order from n on, and end by `end`
abbrev pub LieApart : ℕ → List Part → ℕ → Type 0
LieApart n [] end = n ≤ end
LieApart n (x ∷ xs) end = (n ≤ x.place) × IsTrue (are_bytes x.text) × LieApart (x.place + length x.text) xs end

end_after : (xs : List Part) (n end : ℕ) → LieApart n xs end → n ≤ end
end_after [] n end l = l
end_after (x ∷ xs) n end l = let rest = end_after xs (x.place + length x.text) end l.2 in omega (arith, l.0)

AllAgree-later : (xs : List Part) (b more : List ℕ) (n end : ℕ) → length (b ++ more) ≤ max (length b) n → LieApart n xs end → AllAgree xs b → AllAgree xs (b ++ more)
AllAgree-later [] b more n end short l a = tt
AllAgree-later (x ∷ xs) b more n end short l a = grind (arith, AgreesAt-later b more x.text n x.place short l.0 a.0, AllAgree-later xs b more (x.place + length x.text) end)

-- parts that agree can be made to stand
pub fills_parts : (xs : List Part) (b : List ℕ) (n end : ℕ) → LieApart n xs end → AllAgree xs b → Fills (AllStand xs) b end
fills_parts [] b n end l a = grind (arith, fills_text b [] end refl (agrees_none b end), agrees_none b end)
fills_parts (x ∷ xs) b n end l a =
    let first = fills_text b x.text x.place l.1 a.0 in
    let rest = fills_parts xs (b ++ first.more) (x.place + length x.text) end l.2
    (AllAgree-later xs b first.more (x.place + length x.text) end first.short l.2 a.1) in
    let same = append_assoc b first.more rest.more in
    let after = end_after xs (x.place + length x.text) end l.2 in
    let stands = OccursAt-append (b ++ first.more) rest.more x.text x.place first.holds in
    record {
      more = first.more ++ rest.more;
      bytes = All-append (λ x. x < 256) first.more rest.more first.bytes rest.bytes;
      holds = subst (AllStand (x ∷ xs)) same (stands, rest.holds);
      long = omega (arith, rest.long, ap length same);
      short = omega (arith, first.short, rest.short, ap length same);
    }

-- zeros where b lacks bytes from p to p + n: with them each of these reads as it does in b
abbrev pub kept : List ℕ → ℕ → ℕ → Part
kept b p n = record { place = min (max p (length b)) (p + n); text = replicate (p + n - min (max p (length b)) (p + n)) 0 }

pub kept_bytes : (b : List ℕ) (p n : ℕ) → IsTrue (are_bytes (kept b p n).text)
kept_bytes b p n = list_all-from_AllPass (λ x. nat_lt x 256) (kept b p n).text (grind (arith, get_or-replicate, length-replicate))

pub kept_ends : (b : List ℕ) (p n : ℕ) → (kept b p n).place + length (kept b p n).text ≡ p + n
kept_ends b p n = omega (arith, length-replicate {A = ℕ})

pub kept_agrees : (b : List ℕ) (p n : ℕ) → AgreesAt b (kept b p n).text (kept b p n).place
kept_agrees b p n = grind (arith, length-replicate)

pub kept_reads : (b more : List ℕ) (p n k : ℕ) → OccursAt (b ++ more) (kept b p n).text (kept b p n).place → p ≤ k → k < p + n
    → get_or (b ++ more) k 0 ≡ get_or b k 0
kept_reads b more p n k o low high = grind (arith, o.reads (k - (kept b p n).place), get_or-replicate, length-replicate, get_or_append_left, get_or_past)

pub kept_numbers : (b more : List ℕ) (p : ℕ) → OccursAt (b ++ more) (kept b p 4).text (kept b p 4).place
    → (le32 (b ++ more) p ≡ le32 b p) × (be32 (b ++ more) p ≡ be32 b p)
unfolding le32 be32
kept_numbers b more p o =
    let at = λ (k : ℕ). kept_reads b more p 4 (p + k) o in omega (arith, kept_reads b more p 4 p o, at 1, at 2, at 3)

-- what a comparison of a text with the end of a buffer says
module _ (b text : List ℕ) (p : ℕ) (r : Bool) (e : r ≡ starts_with nat_eq text (take (length b - p) (drop p b)))
    (l : p < length b) (short : length b < p + length text) where
  end_tested : r ≡ starts_with nat_eq text (drop p b)
  end_tested = e ∙ ap (λ u. starts_with nat_eq text u) (take_rest b p)

  pub agrees_from_end : r ≡ true → AgreesAt b text p
  agrees_from_end is =
      let split = (starts_is Decides-eqb text (drop p b) r end_tested).0 is in
      grind (arith, starts_is, Decides-eqb, end_tested, front_reads, length-drop, get_or-drop)

  pub end_from_agrees : AgreesAt b text p → r ≡ true
  end_from_agrees a = (starts_is Decides-eqb text (drop p b) r end_tested).1 _
      (front_from_reads 0 text (drop p b) (omega (arith, length-drop p b)) (λ k in_end. grind (arith, a.reads k, length-drop p b, get_or-drop p b k 0)))

-- a least place at which a text stands is the least at which it may
pub first_open_from_first : (b text : List ℕ) (start end p : ℕ) → IsFirstPlace OccursAt b text start end p → IsFirstPlace AgreesAt b text start end p
first_open_from_first b text start end p f =
    record { here = grind (arith, agrees_where_stands); before = λ q lt m. grind (arith, f.before q, stands_where_whole) }

-- if it stands nowhere, it may stand only from `first` on, since before that it would be whole; at `last`, where the
-- buffer ends or no later place is left, there is nothing more to try
module _ (b text : List ℕ) (start end first last : ℕ) (none : (q : ℕ) → ¬ IsWithin OccursAt b text start end q) (some : 0 < length text)
    (room : start + length text ≤ end) (is_first : first ≡ max start (length b + 1 - length text))
    (is_last : last ≡ min (max start (length b)) (end - length text)) where
  before_first : (q : ℕ) → q < first → ¬ IsWithin AgreesAt b text start end q
  before_first q lt m = grind (arith, none q, stands_where_whole)

  first_open_found : (n : ℕ) → first ≤ n → n ≤ last → ((k : ℕ) → first ≤ k → k < n → ¬ AgreesAt b text k)
      → AgreesAt b text n → IsFirstPlace AgreesAt b text start end n
  first_open_found n low high passed a = grind (arith, before_first)

  none_open_found : ((k : ℕ) → first ≤ k → k < last + 1 → ¬ AgreesAt b text k) → (p : ℕ) → ¬ IsWithin AgreesAt b text start end p
  none_open_found passed p m = grind (arith, before_first p, passed p, passed last, agrees_past b text last, m.stands)

  -- what `find` found of the places from `first` to `last`
  pub first_open_of_find : (found : Option ℕ)
      → MatchOption found ((k : ℕ) → first ≤ k → k < last + 1 → ¬ AgreesAt b text k)
      (λ p. (first ≤ p) × (p < last + 1) × AgreesAt b text p × ((k : ℕ) → first ≤ k → k < p → ¬ AgreesAt b text k))
      → IsFirstWithin AgreesAt b text start end found
  first_open_of_find None none = none_open_found none
  first_open_of_find (Some p) (low, high, here, before) = first_open_found p low (omega (arith, high)) before here

-- ---- least places

-- put at the least place at which it may stand, a text stands there first
pub first_stands : (b more text : List ℕ) (start end p : ℕ) → IsFirstPlace AgreesAt b text start end p → OccursAt (b ++ more) text p
    → IsFirstPlace OccursAt (b ++ more) text start end p
first_stands b more text start end p f o = record { here = grind arith; before = λ q lt w. grind (arith, f.before q, grown_agrees b more) }

-- if it is whole there, it stands there first whatever follows
pub first_where_whole : (b more text : List ℕ) (start end p q : ℕ) → p + length text ≤ length b
    → IsFirstPlace AgreesAt b text start end p → IsFirstPlace OccursAt (b ++ more) text start end q → q ≡ p
first_where_whole b more text start end p q whole f g =
    grind (arith, f.before q, g.before p, grown_agrees b more text q, OccursAt-append b more text p, stands_where_whole b text p)

-- of the n numbers from `start` on one is the least that has a property that can be told, or none has it
least : (P : ℕ → Type 0) → ((p : ℕ) → P p ⊎ (P p → ⊥)) → (start n : ℕ) → ((q : ℕ) → start ≤ q → q < start + n → ¬ P q)
    ⊎ ((p : ℕ) × (start ≤ p) × (p < start + n) × P p × ((q : ℕ) → start ≤ q → q < p → ¬ P q))
least P tell start zero = inl (λ q low l h. omega arith)
least P tell start (suc n) =
    elim (least P tell start n) [
      | inr (p, low, l, here, before) ↦ inr (p, low, omega (arith, l), here, before)
      | inl none ↦ elim (tell (start + n)) [
        | inl here ↦ inr (start + n, omega arith, omega arith, here, none)
        | inr absent ↦ inl (λ q low l h. elim (cases_lt q (start + n)) [ inl before ↦ none q low before h | inr at ↦ absent (subst P (omega arith) h) ])
      ]
    ]

-- whether a text may stand at a place is told by whether it does once its missing bytes follow
tell_agrees : (b text : List ℕ) (p : ℕ) → AgreesAt b text p ⊎ (AgreesAt b text p → ⊥)
tell_agrees b text p =
    let c = b ++ missing p text (length b) in
    elim (cases_Bool (starts_with nat_eq (take (length c - p) (drop p c)) text)) [
      | inl is ↦ inl (grown_agrees b _ text p (occurs_from_starts c text p _ refl (grind (arith, length-append, missing_is)) is))
      | inr is_not ↦ inr (λ a. false≢true (sym is_not ∙ starts_from_occurs c text p _ refl (missing_stands b text p a)))
    ]

-- so if there is such a place there is a least one
pub first_open : (b text : List ℕ) (start end q : ℕ) → IsWithin AgreesAt b text start end q → (p : ℕ) × IsFirstPlace AgreesAt b text start end p
first_open b text start end q m =
    elim (least (AgreesAt b text) (tell_agrees b text) start (q + 1 - start)) [
      | inl none ↦ absurd (none q m.low (omega (arith, m.low)) m.stands)
      | inr (p, low, l, here, before) ↦
          (p, record { here = record { stands = here; low = low; high = omega (arith, l, m.low, m.high) }; before = λ u lt w. before u w.low lt w.stands })
    ]
