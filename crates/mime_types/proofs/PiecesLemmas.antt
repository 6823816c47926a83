-- The first piece, and those after its comma.
use Rattle.std.proofs.Common.{◌≡◌, ◌↔◌, ◌⊎◌, ◌≤◌, inl, inr, codes, ◌∙◌, ◌++◌, ◌∷◌, [], ℕ, zero, suc, ◌+◌, ◌<◌, List, Bool, Bor, Option, None, Some, true, false, ap, append_assoc, arith, drop, if◌then◌else◌, length, refl, sym, take}
use Rattle.std.proofs.lemmas.Bool.{cases_lt}
use Rattle.std.proofs.lemmas.List.{append-nil, take_all}
use Rattle.mime_types.specs.Laws.{BeginsNosniff, commas}
use Rattle.mime_types.specs.Nosniff.{IsNosniff, ends_piece, next_place, piece_len, trim_blanks}
use Rattle.mime_types.specs.Pieces.{IsAfter, pieces, pieces_from, pieces_of}
use Rattle.mime_types.specs.Text.{lower}
use Rattle.mime_types.specs.declared.nosniff.Place.{Place}
use Rattle.mime_types.specs.declared.nosniff.Place.TheVariants.{Outside}

module _ (place : Place) (piece : List ℕ) (x : ℕ) (s : List ℕ) where
  -- the last piece, and one after which another comes, by the first byte
  last_step : (b : Bool) → ends_piece place x ≡ b → piece_len place (x ∷ s) ≡ length (x ∷ s)
      → (piece_len (next_place place x) s ≡ length s → pieces_from (next_place place x) (piece ++ x ∷ []) s ≡ trim_blanks ((piece ++ x ∷ []) ++ s) ∷ [])
      → pieces_from place piece (x ∷ s) ≡ trim_blanks (piece ++ x ∷ s) ∷ []
  last_step true ends is more =
      let none : piece_len place (x ∷ s) ≡ 0 = ap (λ b. if b then 0 else 1 + piece_len (next_place place x) s) ends in
      absurd (omega (arith, none, is))
  last_step false ends is more =
      let one : piece_len place (x ∷ s) ≡ 1 + piece_len (next_place place x) s = ap (λ b. if b then 0 else 1 + piece_len (next_place place x) s) ends in
      ap (λ b. if b then trim_blanks piece ∷ pieces_from Outside [] s else pieces_from (next_place place x) (piece ++ x ∷ []) s) ends
      ∙ (more (omega (arith, one, is)) ∙ ap (λ p. trim_blanks p ∷ []) (append_assoc piece (x ∷ []) s))

  next_step : (b : Bool) → ends_piece place x ≡ b → (n : ℕ) → n ≡ piece_len place (x ∷ s) → n < length (x ∷ s)
      → ((m : ℕ) → m ≡ piece_len (next_place place x) s → m < length s
      → pieces_from (next_place place x) (piece ++ x ∷ []) s ≡ trim_blanks ((piece ++ x ∷ []) ++ take m s) ∷ pieces_from Outside [] (drop (m + 1) s))
      → pieces_from place piece (x ∷ s) ≡ trim_blanks (piece ++ take n (x ∷ s)) ∷ pieces_from Outside [] (drop (n + 1) (x ∷ s))
  next_step true ends n is within more =
      let none : n ≡ 0 = is ∙ ap (λ b. if b then 0 else 1 + piece_len (next_place place x) s) ends in
      ap (λ b. if b then trim_blanks piece ∷ pieces_from Outside [] s else pieces_from (next_place place x) (piece ++ x ∷ []) s) ends
      ∙ (ap (λ p. trim_blanks p ∷ pieces_from Outside [] s) (sym (append-nil piece))
      ∙ ap (λ k. trim_blanks (piece ++ take k (x ∷ s)) ∷ pieces_from Outside [] (drop (k + 1) (x ∷ s))) (sym none))
  next_step false ends zero is within more =
      let one : 0 ≡ 1 + piece_len (next_place place x) s = is ∙ ap (λ b. if b then 0 else 1 + piece_len (next_place place x) s) ends in
      absurd (omega (arith, one))
  next_step false ends (suc m) is within more =
      let further : suc (m + 1) ≡ suc m + 1 = omega arith in
      let one : suc m ≡ 1 + piece_len (next_place place x) s = is ∙ ap (λ b. if b then 0 else 1 + piece_len (next_place place x) s) ends in
      ap (λ b. if b then trim_blanks piece ∷ pieces_from Outside [] s else pieces_from (next_place place x) (piece ++ x ∷ []) s) ends
      ∙ (more m (omega (arith, one)) (omega (arith, within))
      ∙ (ap (λ p. trim_blanks p ∷ pieces_from Outside [] (drop (m + 1) s)) (append_assoc piece (x ∷ []) (take m s))
      ∙ ap (λ k. trim_blanks (piece ++ x ∷ take m s) ∷ pieces_from Outside [] (drop k (x ∷ s))) further))

last_from : (place : Place) (piece s : List ℕ) → piece_len place s ≡ length s → pieces_from place piece s ≡ trim_blanks (piece ++ s) ∷ []
last_from place piece [] is = ap (λ p. trim_blanks p ∷ []) (sym (append-nil piece))
last_from place piece (x ∷ s) is =
    last_step place piece x s (ends_piece place x) refl is (λ more. last_from (next_place place x) (piece ++ x ∷ []) s more)

next_from : (place : Place) (piece s : List ℕ) (n : ℕ) → n ≡ piece_len place s → n < length s
    → pieces_from place piece s ≡ trim_blanks (piece ++ take n s) ∷ pieces_from Outside [] (drop (n + 1) s)
next_from place piece [] n is within = absurd (omega (arith, within))
next_from place piece (x ∷ s) n is within =
    next_step place piece x s (ends_piece place x) refl n is within (λ m e l. next_from (next_place place x) (piece ++ x ∷ []) s m e l)

pub last_piece : (s : List ℕ) → piece_len Outside s ≡ length s → pieces s ≡ trim_blanks s ∷ []
unfolding pieces
last_piece s is = last_from Outside [] s is

pub next_piece : (s : List ℕ) (n : ℕ) → n ≡ piece_len Outside s → n < length s → pieces s ≡ trim_blanks (take n s) ∷ pieces (drop (n + 1) s)
unfolding pieces
next_piece s n is within = next_from Outside [] s n is within

pub piece_after : (value : List ℕ) (n : ℕ) (rest : Option (Bor (List ℕ))) → n ≡ piece_len Outside value → IsAfter value n rest
    → pieces value ≡ trim_blanks (take n value) ∷ pieces_of rest
piece_after value n None is end =
    last_piece value (sym is ∙ end) ∙ ap (λ p. trim_blanks p ∷ []) (sym (take_all n value (omega (arith, end))))
piece_after value n (Some r) is (within, e) =
    next_piece value n is within ∙ ap (λ l. trim_blanks (take n value) ∷ pieces l) (sym e)

-- there is a first piece, and one piece more than commas
piece_within : (place : Place) (s : List ℕ) → piece_len place s ≤ length s
piece_within place [] = omega arith
piece_within place (x ∷ s) = cases (ends_piece place x) (piece_within (next_place place x) s)
  where
    cases : (b : Bool) → piece_len (next_place place x) s ≤ length s → (if b then 0 else 1 + piece_len (next_place place x) s) ≤ length (x ∷ s)
    cases true less = omega arith
    cases false less = omega (arith, less)

pub begins : (value : List ℕ) → (rest : List (List ℕ)) × (pieces value ≡ trim_blanks (take (piece_len Outside value) value) ∷ rest)
begins value = cases (cases_lt (piece_len Outside value) (length value))
  where
    cases : (piece_len Outside value < length value) ⊎ (length value ≤ piece_len Outside value)
        → (rest : List (List ℕ)) × (pieces value ≡ trim_blanks (take (piece_len Outside value) value) ∷ rest)
    cases (inl within) = (pieces (drop (piece_len Outside value + 1) value), next_piece value (piece_len Outside value) refl within)
    cases (inr end) =
        let all : piece_len Outside value ≡ length value = omega (arith, end, piece_within Outside value) in
        ([], last_piece value all ∙ ap (λ p. trim_blanks p ∷ []) (sym (take_all (piece_len Outside value) value end)))

counted_from : (place : Place) (piece s : List ℕ) → length (pieces_from place piece s) ≡ commas place s + 1
counted_from place piece [] = omega arith
counted_from place piece (x ∷ s) =
    cases (ends_piece place x) (counted_from Outside [] s) (counted_from (next_place place x) (piece ++ x ∷ []) s)
  where
    cases : (b : Bool) → length (pieces_from Outside [] s) ≡ commas Outside s + 1
        → length (pieces_from (next_place place x) (piece ++ x ∷ []) s) ≡ commas (next_place place x) s + 1
        → length (if b then trim_blanks piece ∷ pieces_from Outside [] s else pieces_from (next_place place x) (piece ++ x ∷ []) s)
        ≡ (if b then 1 + commas Outside s else commas (next_place place x) s) + 1
    cases true outside inside = omega (arith, outside)
    cases false outside inside = inside

pub counted : (value : List ℕ) → length (pieces value) ≡ commas Outside value + 1
unfolding pieces
counted value = counted_from Outside [] value

empty_forbids : lower [] ≡ codes "nosniff" → ⊥
empty_forbids e = cc

-- the first piece forbids, also where an empty last one is left out
pub forbids : (value : List ℕ) (ps : List (List ℕ)) → pieces value ≡ ps ++ [] ∷ [] → IsNosniff value ↔ BeginsNosniff ps
forbids value ps is = cases ps is (begins value)
  where
    cases : (ps : List (List ℕ)) → pieces value ≡ ps ++ [] ∷ []
        → (rest : List (List ℕ)) × (pieces value ≡ trim_blanks (take (piece_len Outside value) value) ∷ rest) → IsNosniff value ↔ BeginsNosniff ps
    cases [] is (rest, first) =
        let none : trim_blanks (take (piece_len Outside value) value) ≡ [] = cc in (λ forbidden. empty_forbids (sym (ap lower none) ∙ forbidden), λ never. absurd never)
    cases (p ∷ ps) is (rest, first) =
        let same : trim_blanks (take (piece_len Outside value) value) ≡ p = cc in (λ forbidden. sym (ap lower same) ∙ forbidden, λ forbidden. ap lower same ∙ forbidden)
