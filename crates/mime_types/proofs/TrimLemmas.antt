-- White space at the ends of a value says nothing.
use Rattle.std.proofs.Common.{◌≡◌, ◌↔◌, ◌∙◌, ◌==◌, ◌&&◌, ◌++◌, ◌∷◌, [], ℕ, suc, ◌+◌, ◌-◌, List, Bool, Option, None, Some, not, true, false, inl, inr, ap, arith, cond, drop, if◌then◌else◌, length, length-append, option_to_list, refl, reverse, subst, sym, take}
use Rattle.std.proofs.lemmas.Bool.{eqb-true, false≢true, or_cases}
use Rattle.std.proofs.lemmas.List.{reverse-append, reverse-reverse, take-append-le, take_all}
use Rattle.std.specs.List.{prefix_len, suffix_len}
use Rattle.mime_types.specs.Bytes.{is_white}
use Rattle.mime_types.specs.Extracted.{EndsInRun, IsExtracted, is_any, said, usable}
use Rattle.mime_types.specs.Mime.{Mime}
use Rattle.mime_types.specs.Nosniff.{ends_piece, is_blank, next_place, trim_blanks}
use Rattle.mime_types.specs.Pieces.{pieces, pieces_from}
use Rattle.mime_types.specs.Parameters.{parameters}
use Rattle.mime_types.specs.Parse.{subtype_before}
use Rattle.mime_types.specs.Seen.{mime_of}
use Rattle.mime_types.specs.Text.{after, front, is_a_token, is_semicolon, is_slash, lower, trim, trim_end, trim_start}
use Rattle.mime_types.specs.declared.extraction.Extracted.{Extracted}
use Rattle.mime_types.specs.declared.nosniff.Place.{Place}
use Rattle.mime_types.specs.declared.nosniff.Place.TheVariants.{Escaped, Outside, Quoted}

drop_step : (n x : ℕ) (s : List ℕ) → drop (1 + n) (x ∷ s) ≡ drop n s
drop_step n x s = let next : 1 + n ≡ suc n = omega arith in ap (λ k. drop k (x ∷ s)) next

-- what a byte changes nothing of, at the start or at the end, the run of such bytes there changes nothing of
module _ {X : Type 0} (q : ℕ → Bool) (f : List ℕ → X) where
  front_gone : ((x : ℕ) (s : List ℕ) → q x ≡ true → f (x ∷ s) ≡ f s) → (s : List ℕ) → f (drop (prefix_len q s) s) ≡ f s
  front_gone one [] = refl
  front_gone one (x ∷ s) = cases (q x) refl (front_gone one s)
    where
      cases : (b : Bool) → q x ≡ b → f (drop (prefix_len q s) s) ≡ f s → f (drop (cond b (1 + prefix_len q s) 0) (x ∷ s)) ≡ f (x ∷ s)
      cases true is rest = ap f (drop_step (prefix_len q s) x s) ∙ (rest ∙ sym (one x s is))
      cases false is rest = refl

  abbrev without_end : List ℕ → List ℕ
  without_end s = take (length s - suffix_len q s) s

  module _ (s : List ℕ) (x : ℕ) where
    suffix_of : (b : Bool) → q x ≡ b → suffix_len q (s ++ x ∷ []) ≡ cond b (1 + suffix_len q s) 0
    suffix_of b is = simp reverse-append (ap (λ c. cond c (1 + prefix_len q (reverse s)) 0) is)

    long : length (s ++ x ∷ []) ≡ length s + 1
    long = length-append s (x ∷ [])

    shorter : q x ≡ true → without_end (s ++ x ∷ []) ≡ without_end s
    shorter is =
        let less : length (s ++ x ∷ []) - suffix_len q (s ++ x ∷ []) ≡ length s - suffix_len q s = omega (arith, long, suffix_of true is) in
        ap (λ n. take n (s ++ x ∷ [])) less ∙ take-append-le (length s - suffix_len q s) s (x ∷ []) (omega arith)

    whole : q x ≡ false → without_end (s ++ x ∷ []) ≡ s ++ x ∷ []
    whole is = take_all (length (s ++ x ∷ []) - suffix_len q (s ++ x ∷ [])) (s ++ x ∷ []) (omega (arith, suffix_of false is))

    end_at : (q x ≡ true → f (s ++ x ∷ []) ≡ f s) → f (without_end s) ≡ f s → f (without_end (s ++ x ∷ [])) ≡ f (s ++ x ∷ [])
    end_at one rest = cases (q x) refl
      where
        cases : (b : Bool) → q x ≡ b → f (without_end (s ++ x ∷ [])) ≡ f (s ++ x ∷ [])
        cases true is = ap f (shorter is) ∙ (rest ∙ sym (one is))
        cases false is = ap f (whole is)

  end_reversed : ((s : List ℕ) (x : ℕ) → q x ≡ true → f (s ++ x ∷ []) ≡ f s) → (r : List ℕ) → f (without_end (reverse r)) ≡ f (reverse r)
  end_reversed one [] = refl
  end_reversed one (x ∷ r) =
      subst (λ s. f (without_end s) ≡ f s) (sym (reverse-append (x ∷ []) r)) (end_at (reverse r) x (one (reverse r) x) (end_reversed one r))

  end_gone : ((s : List ℕ) (x : ℕ) → q x ≡ true → f (s ++ x ∷ []) ≡ f s) → (s : List ℕ) → f (without_end s) ≡ f s
  end_gone one s = subst (λ t. f (without_end t) ≡ f t) (reverse-reverse s) (end_reversed one (reverse s))

-- a byte of white space at the start or at the end of a text goes as the text is trimmed
trim_front : (x : ℕ) (s : List ℕ) → is_white x ≡ true → trim (x ∷ s) ≡ trim s
trim_front x s is =
    ap (λ b. trim_end (drop (cond b (1 + prefix_len is_white s) 0) (x ∷ s))) is ∙ ap trim_end (drop_step (prefix_len is_white s) x s)

trim_back : (s : List ℕ) (x : ℕ) → is_white x ≡ true → trim (s ++ x ∷ []) ≡ trim s
trim_back [] x is = trim_front x [] is
trim_back (y ∷ s) x is = cases (is_white y) refl (trim_back s x is)
  where
    cases : (b : Bool) → is_white y ≡ b → trim (s ++ x ∷ []) ≡ trim s → trim (y ∷ s ++ x ∷ []) ≡ trim (y ∷ s)
    cases true white rest = trim_front y (s ++ x ∷ []) white ∙ (rest ∙ sym (trim_front y s white))
    cases false dark rest =
        ap (λ b. trim_end (drop (cond b (1 + prefix_len is_white (s ++ x ∷ [])) 0) (y ∷ s ++ x ∷ []))) dark
        ∙ (shorter is_white trim_end (y ∷ s) x is ∙ sym (ap (λ b. trim_end (drop (cond b (1 + prefix_len is_white s) 0) (y ∷ s))) dark))

blank_white : (x : ℕ) → is_blank x ≡ true → is_white x ≡ true
blank_white x is = elim (or_cases (x == 0x09) (x == 0x20) is) as (λ _. is_white x ≡ true) [
  | inl tab ↦ subst (λ y. is_white y ≡ true) (sym (eqb-true x 0x09 tab)) refl
  | inr blank ↦ subst (λ y. is_white y ≡ true) (sym (eqb-true x 0x20 blank)) refl
]

-- what a trimmed piece says
abbrev said_of : List ℕ → Mime
said_of t = record {
  kind = record { type_name = lower (front is_slash t); subtype = lower (subtype_before (after is_slash t)) };
  parameters = parameters (after is_semicolon (after is_slash t));
}

abbrev usable_of : List ℕ → Option Mime
usable_of t =
    if (is_a_token (front is_slash t) && is_a_token (subtype_before (after is_slash t))) && not (is_any (said_of t).kind) then Some (said_of t) else None

same_usable : (a b : List ℕ) → trim a ≡ trim b → usable a ≡ usable b
same_usable a b same = ap usable_of same

usable_trimmed : (p : List ℕ) → usable (trim_blanks p) ≡ usable p
usable_trimmed p =
    same_usable (trim_blanks p) p
    (end_gone is_blank trim (λ s x is. trim_back s x (blank_white x is)) (drop (prefix_len is_blank p) p)
    ∙ front_gone is_blank trim (λ x s is. trim_front x s (blank_white x is)) p)

-- white space ends no piece, and opens no quotes
white_not : (c : ℕ) → is_white c ≡ false → (x : ℕ) → is_white x ≡ true → (x == c) ≡ false
white_not c dark x is = cases (x == c) refl
  where
    cases : (b : Bool) → (x == c) ≡ b → b ≡ false
    cases false e = refl
    cases true e = absurd (false≢true (sym dark ∙ (ap is_white (sym (eqb-true x c e)) ∙ is)))

ends_none : (place : Place) (x : ℕ) → is_white x ≡ true → ends_piece place x ≡ false
ends_none Outside x is = white_not 0x2C refl x is
ends_none Quoted x is = refl
ends_none Escaped x is = refl

abbrev said_from : Place → List ℕ → List ℕ → List Mime
said_from place piece s = said (pieces_from place piece s)

module _ (x : ℕ) (is : is_white x ≡ true) where
  piece_front : (piece : List ℕ) → usable (trim_blanks (x ∷ piece)) ≡ usable (trim_blanks piece)
  piece_front piece = usable_trimmed (x ∷ piece) ∙ (same_usable (x ∷ piece) piece (trim_front x piece is) ∙ sym (usable_trimmed piece))

  piece_back : (piece : List ℕ) → usable (trim_blanks (piece ++ x ∷ [])) ≡ usable (trim_blanks piece)
  piece_back piece =
      usable_trimmed (piece ++ x ∷ []) ∙ (same_usable (piece ++ x ∷ []) piece (trim_back piece x is) ∙ sym (usable_trimmed piece))

  from_front : (place : Place) (piece s : List ℕ) → said_from place (x ∷ piece) s ≡ said_from place piece s
  from_front place piece [] = ap (λ m. option_to_list m ++ []) (piece_front piece)
  from_front place piece (y ∷ s) = cases (ends_piece place y) (from_front (next_place place y) (piece ++ y ∷ []) s)
    where
      cases : (b : Bool) → said_from (next_place place y) (x ∷ piece ++ y ∷ []) s ≡ said_from (next_place place y) (piece ++ y ∷ []) s
          → said (if b then trim_blanks (x ∷ piece) ∷ pieces_from Outside [] s else pieces_from (next_place place y) (x ∷ piece ++ y ∷ []) s)
          ≡ said (if b then trim_blanks piece ∷ pieces_from Outside [] s else pieces_from (next_place place y) (piece ++ y ∷ []) s)
      cases true rest = ap (λ m. option_to_list m ++ said_from Outside [] s) (piece_front piece)
      cases false rest = rest

  last_back : (place : Place) (piece : List ℕ) → said_from place piece (x ∷ []) ≡ said_from place piece []
  last_back place piece =
      ap (λ b. said (if b then trim_blanks piece ∷ pieces_from Outside [] [] else pieces_from (next_place place x) (piece ++ x ∷ []) [])) (ends_none place x is)
      ∙ ap (λ m. option_to_list m ++ []) (piece_back piece)

  from_back : (place : Place) (piece s : List ℕ) → said_from place piece (s ++ x ∷ []) ≡ said_from place piece s
  from_back place piece [] = last_back place piece
  from_back place piece (y ∷ s) = cases (ends_piece place y) (from_back Outside [] s) (from_back (next_place place y) (piece ++ y ∷ []) s)
    where
      cases : (b : Bool) → said_from Outside [] (s ++ x ∷ []) ≡ said_from Outside [] s
          → said_from (next_place place y) (piece ++ y ∷ []) (s ++ x ∷ []) ≡ said_from (next_place place y) (piece ++ y ∷ []) s
          → said (if b then trim_blanks piece ∷ pieces_from Outside [] (s ++ x ∷ []) else pieces_from (next_place place y) (piece ++ y ∷ []) (s ++ x ∷ []))
          ≡ said (if b then trim_blanks piece ∷ pieces_from Outside [] s else pieces_from (next_place place y) (piece ++ y ∷ []) s)
      cases true outside inside = ap (λ ms. option_to_list (usable (trim_blanks piece)) ++ ms) outside
      cases false outside inside = inside

  value_front : (s : List ℕ) → said_from Outside [] (x ∷ s) ≡ said_from Outside [] s
  value_front s =
      ap (λ b. said (if b then trim_blanks [] ∷ pieces_from Outside [] s else pieces_from (next_place Outside x) (x ∷ []) s)) (ends_none Outside x is)
      ∙ (ap (λ b. said_from (if b then Quoted else Outside) (x ∷ []) s) (white_not 0x22 refl x is) ∙ from_front Outside [] s)

pub said_trimmed : (value : List ℕ) → said (pieces (trim value)) ≡ said (pieces value)
unfolding pieces
said_trimmed value =
    end_gone is_white (said_from Outside []) (λ s x is. from_back x is Outside [] s) (trim_start value)
    ∙ front_gone is_white (said_from Outside []) (λ x s is. value_front x is s) value

pub ends_say_nothing : (value : List ℕ) (found : Option Extracted) → IsExtracted (trim value) found ↔ IsExtracted value found
ends_say_nothing value None = (λ none. sym (said_trimmed value) ∙ none, λ none. said_trimmed value ∙ none)
ends_say_nothing value (Some e) = (
  λ (charset, run, told). (charset, subst (λ ms. EndsInRun ms (mime_of e.mime_type) charset) (said_trimmed value) run, told),
  λ (charset, run, told). (charset, subst (λ ms. EndsInRun ms (mime_of e.mime_type) charset) (sym (said_trimmed value)) run, told),
)
