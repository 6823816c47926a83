-- A version after ".so": parts of digits, each after a dot, after the last "o" of a stem.
use Rattle.std.proofs.Common.{◌≡◌, ◌+◌, ◌-◌, ◌<◌, ◌∙◌, ◌==◌, ◌&&◌, ◌||◌, ℕ, zero, suc, Bool, true, false, List, Option, None, Some, ap, arith, [], ◌∷◌, codes, drop, get_or, inl, inr, length, not, refl, subst, sym, take}
use Rattle.std.proofs.lemmas.Bool.{and_parts, cases_Bool, cases_lt, eqb-true, false_from_ne_true}
use Rattle.std.proofs.lemmas.List.{drop_all, get_or-drop, get_or-take, length-drop, length-take-le}
use Rattle.std.proofs.Math.Seq.{drop-cons}
use Rattle.std.specs.Char.{to_ascii_lowercase}
use Rattle.memchr.specs.Find.{IsLastByte, is_byte2}
use Rattle.infer_named.proofs.CopyLemmas.{last_is}
use Rattle.infer_named.proofs.ReachLemmas.{below_last}
use Rattle.infer_named.specs.Laws.{edge_of}
use Rattle.infer_named.specs.Names.{IsVersioned, are_parts, ends_in, is_digit, is_version, is_version_byte}
use Rattle.infer_named.specs.Parts.{are_parts_from}

-- ---- parts of digits

-- whether a byte is a digit, or a dot after one
abbrev is_passed : ℕ → ℕ → Bool
is_passed before x = is_digit x || (x == 0x2E && is_digit before)

one_part : (before x : ℕ) (rest : List ℕ) → are_parts (not (is_digit before)) (x ∷ rest) ≡ (is_passed before x && are_parts (not (is_digit x)) rest)
one_part before x rest = elim (cases_Bool (is_digit x)) [
  | inl on ↦ rw on refl
  | inr off ↦ elim (cases_Bool (x == 0x2E)) [
    | inl dot ↦ elim (cases_Bool (is_digit before)) [
      | inl follows ↦ rw off (rw dot (rw follows refl))
      | inr first ↦ rw off (rw dot (rw first refl))
    ]
    | inr other ↦ elim (cases_Bool (is_digit before)) [
      | inl follows ↦ rw off (rw other (rw follows refl))
      | inr first ↦ rw off (rw other (rw first refl))
    ]
  ]
]

-- what stands from a place on are parts if the byte there is passed, and what stands after it are
step : (text : List ℕ) (from : ℕ) → 0 < from → from < length text
    → are_parts_from text from ≡ (is_passed (get_or text (from - 1) 0) (get_or text from 0) && are_parts_from text (from + 1))
step text from some lt =
    let same : from + 1 - 1 ≡ from = omega arith in
    let next : suc from ≡ from + 1 = omega arith in
    ap (are_parts (not (is_digit (get_or text (from - 1) 0)))) (drop-cons text from 0 lt)
    ∙ one_part (get_or text (from - 1) 0) (get_or text from 0) (drop (suc from) text)
    ∙ ap (λ i. is_passed (get_or text (from - 1) 0) (get_or text from 0) && are_parts (not (is_digit (get_or text i 0))) (drop (suc from) text)) (sym same)
    ∙ ap (λ i. is_passed (get_or text (from - 1) 0) (get_or text from 0) && are_parts (not (is_digit (get_or text (from + 1 - 1) 0))) (drop i text)) next

pub passed_by : (text : List ℕ) (from : ℕ) (all : Bool) → 0 < from → from < length text → (all && are_parts_from text from) ≡ are_parts_from text 1
    → ((all && (is_digit (get_or text from 0) || (get_or text from 0 == 0x2E && is_digit (get_or text (from - 1) 0)))) && are_parts_from text (from + 1)) ≡ are_parts_from text 1
passed_by text from true some lt before = sym (step text from some lt) ∙ before
passed_by text from false some lt before = before

ended : (d : Bool) → not (not d) ≡ d
ended true = refl
ended false = refl

pub parts_ended : (text : List ℕ) (end : ℕ) (all : Bool) → end ≡ length text → (all && are_parts_from text end) ≡ are_parts_from text 1
    → (all && is_digit (get_or text (length text - 1) 0)) ≡ are_parts_from text 1
parts_ended text end all same before =
    let rest : drop end text ≡ [] = drop_all end text (omega (arith, same)) in
    let last : are_parts_from text end ≡ is_digit (get_or text (end - 1) 0) =
    ap (are_parts (not (is_digit (get_or text (end - 1) 0)))) rest ∙ ended (is_digit (get_or text (end - 1) 0)) in
    ap (λ i. all && is_digit (get_or text (i - 1) 0)) (sym same) ∙ ap (λ d. all && d) (sym last) ∙ before

-- after a dot a digit is due
pub version_by_parts : (text : List ℕ) → 0 < length text → get_or text 0 0 ≡ 0x2E → is_version text ≡ are_parts_from text 1
version_by_parts [] some dot = absurd (omega arith)
version_by_parts (x ∷ rest) some dot = rw dot refl

-- ---- where a version begins

-- each byte of a version is a digit or a dot
of_parts : (due : Bool) (text : List ℕ) → are_parts due text ≡ true → (k : ℕ) → k < length text → is_version_byte (get_or text k 0) ≡ true
of_parts due [] is k lt = absurd (omega arith)
of_parts due (x ∷ rest) is k lt = elim (cases_Bool (is_digit x)) [
  | inl on ↦ at k lt (rw on refl) (λ i less. of_parts false rest (rw on at is) i less)
  | inr off ↦ (
      let parts = and_parts (not due && x == 0x2E) (are_parts true rest) (rw off at is) in
      let dot = and_parts (not due) (x == 0x2E) parts.0 in
      at k lt (rw off (rw dot.1 refl)) (λ i less. of_parts true rest parts.1 i less))
]
  where
    at : (k : ℕ) → k < suc (length rest) → is_version_byte x ≡ true → ((i : ℕ) → i < length rest → is_version_byte (get_or rest i 0) ≡ true)
        → is_version_byte (get_or (x ∷ rest) k 0) ≡ true
    at zero lt here later = here
    at (suc k) lt here later = later k (omega arith)

of_version : (text : List ℕ) → is_version text ≡ true → (k : ℕ) → k < length text → is_version_byte (get_or text k 0) ≡ true
of_version [] is k lt = absurd (omega arith)
of_version (x ∷ rest) is zero lt = let dot = and_parts (x == 0x2E) (are_parts true rest) is in rw (eqb-true x 0x2E dot.0) refl
of_version (x ∷ rest) is (suc k) lt = let parts = and_parts (x == 0x2E) (are_parts true rest) is in of_parts true rest parts.1 k (omega arith)

abbrev is_letter : ℕ → Bool
is_letter = is_byte2 0x6F 0x4F

abbrev is_other : ℕ → Bool
is_other x = not (is_version_byte x)

letter_small : (x : ℕ) → to_ascii_lowercase x ≡ 0x6F → is_letter x ≡ true
letter_small x small = elim (cases_Bool (x == 0x6F)) [
  | inl on ↦ rw on refl
  | inr off ↦ elim (cases_Bool (x == 0x4F)) [
    | inl capital ↦ rw off (rw capital refl)
    | inr other ↦ absurd (grind (arith, small, off, other))
  ]
]

letter_other : (x : ℕ) → is_letter x ≡ true → is_other x ≡ true
letter_other x is = elim (cases_Bool (x == 0x6F)) [
  | inl on ↦ rw (eqb-true x 0x6F on) refl
  | inr off ↦ (let capital : (x == 0x4F) ≡ true = rw off at is in rw (eqb-true x 0x4F capital) refl)
]

and_false : (b : Bool) → (b && false) ≡ false
and_false true = refl
and_false false = refl

module _ (stem : List ℕ) where
  -- what ends in ".so" ends in that letter
  ends_letter : (p : ℕ) → p < length stem → ends_in (take (p + 1) stem) (codes ".so") ≡ true → is_letter (get_or stem p 0) ≡ true
  ends_letter p lt is =
      let long : length (take (p + 1) stem) ≡ p + 1 = length-take-le (p + 1) stem (omega arith) in
      let place : length (take (p + 1) stem) - 1 ≡ p = omega (arith, long) in
      let last = last_is (take (p + 1) stem) (codes ".so") (omega arith) is in
      letter_small (get_or stem p 0) (ap to_ascii_lowercase (sym (ap (λ i. get_or (take (p + 1) stem) i 0) place ∙ get_or-take (p + 1) stem p 0 (omega arith))) ∙ last)

  pub no_letter : IsLastByte is_letter stem None → IsVersioned stem false
  no_letter none = of_edge (edge_of stem) (below_last is_other stem 0 (length stem))
    where
      of_edge : (edge : Option ℕ) → IsLastByte is_other stem edge → IsVersioned stem false
      of_edge None is = (None, is, sym (and_false _))
      of_edge (Some p) (there, on) =
          (Some p, (there, on), sym (ap (λ e. is_version (drop (p + 1) stem) && e) (false_from_ne_true _ (λ e. none p (omega arith) there.high (ends_letter p there.high e))) ∙ and_false _))

  pub by_letter : (end : ℕ) → IsLastByte is_letter stem (Some end)
      → IsVersioned stem (ends_in (take (end + 1) stem) (codes ".so") && is_version (drop (end + 1) stem))
  by_letter end (there, on) = of_edge (edge_of stem) (below_last is_other stem 0 (length stem))
    where
      other_end : is_other (get_or stem end 0) ≡ true
      other_end = letter_other (get_or stem end 0) on

      swapped : (a b : Bool) → (a && b) ≡ (b && a)
      swapped true true = refl
      swapped true false = refl
      swapped false true = refl
      swapped false false = refl

      of_edge : (edge : Option ℕ) → IsLastByte is_other stem edge → IsVersioned stem (ends_in (take (end + 1) stem) (codes ".so") && is_version (drop (end + 1) stem))
      of_edge None is = absurd (is end (omega arith) there.high other_end)
      of_edge (Some p) (last, other) = elim (cases_lt p end) [
        | inl before ↦ absurd (last.after end (omega arith) there.high other_end)
        | inr at ↦ elim (cases_lt end p) [
          | inr le ↦ (
              let same : p ≡ end = omega arith in (
                Some p,
                (last, other),
                subst (λ q. (ends_in (take (end + 1) stem) (codes ".so") && is_version (drop (end + 1) stem)) ≡ (is_version (drop (q + 1) stem) && ends_in (take (q + 1) stem) (codes ".so"))) (sym same)
                    (swapped (ends_in (take (end + 1) stem) (codes ".so")) (is_version (drop (end + 1) stem))),
              ))
          | inl follows ↦ (
              let unlike : is_version (drop (end + 1) stem) ≡ false = false_from_ne_true _ (λ v. no_version p follows last.high other v) in
              let unended : ends_in (take (p + 1) stem) (codes ".so") ≡ false = false_from_ne_true _ (λ e. there.after p (omega arith) last.high (ends_letter p last.high e)) in
              (Some p, (last, other), rw unlike (rw unended (swapped (ends_in (take (end + 1) stem) (codes ".so")) false ∙ swapped false (is_version (drop (p + 1) stem))))))
        ]
      ]
        where
          no_version : (p : ℕ) → end < p → p < length stem → is_other (get_or stem p 0) ≡ true → is_version (drop (end + 1) stem) ≡ true → ⊥
          no_version p follows high other v =
              let place = p - (end + 1) in
              let long : length (drop (end + 1) stem) ≡ length stem - (end + 1) = length-drop (end + 1) stem in
              let at : end + 1 + place ≡ p = omega arith in
              let digit = of_version (drop (end + 1) stem) v place (omega (arith, long)) in
              let here : is_version_byte (get_or stem p 0) ≡ true = subst (λ x. is_version_byte x ≡ true) (get_or-drop (end + 1) stem place 0 ∙ ap (λ i. get_or stem i 0) at) digit in
              let wrong : not true ≡ true = subst (λ b. not b ≡ true) here other in cc
