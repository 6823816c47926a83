-- Texts in small letters, and their slots.
use Rattle.std.proofs.Common.{◌≡◌, ◌≢◌, ◌+◌, ◌-◌, ◌*◌, ◌/◌, ◌%◌, ◌<◌, ◌∙◌, ℕ, true, false, List, [], ◌∷◌, ap, sym, arith, length, get_or}
use Rattle.std.proofs.lemmas.Bool.{false_from_ne_true}
use Rattle.std.proofs.lemmas.List.{ext_get_or, get_or-map, length-map}
use Rattle.std.proofs.lemmas.Slice.Eq.{bytes_eq-Decides}
use Rattle.std.specs.Char.{to_ascii_lowercase}
use Rattle.std.specs.Str.{bytes_eq}
use Rattle.infer_named.specs.Names.{slot_of, small}

pub not_as_long : (xs ys : List ℕ) → length xs ≢ length ys → bytes_eq (small xs) ys ≡ false
not_as_long xs ys other = false_from_ne_true _ (λ e. other (sym (length-map xs to_ascii_lowercase) ∙ ap length ((bytes_eq-Decides (small xs) ys).0 e)))

pub unlike : (xs ys : List ℕ) (i : ℕ) → i < length xs → to_ascii_lowercase (get_or xs i 0) ≢ get_or ys i 0 → bytes_eq (small xs) ys ≡ false
unlike xs ys i lt other =
    false_from_ne_true _ (λ e. other (sym (get_or-map to_ascii_lowercase xs i 0 0 lt) ∙ ap (λ l. get_or l i 0) ((bytes_eq-Decides (small xs) ys).0 e)))

pub alike : (xs ys : List ℕ) → length xs ≡ length ys → ((k : ℕ) → k < length xs → to_ascii_lowercase (get_or xs k 0) ≡ get_or ys k 0) → bytes_eq (small xs) ys ≡ true
alike xs ys long same =
    (bytes_eq-Decides (small xs) ys).1 (ext_get_or 0 (small xs) ys (length-map xs to_ascii_lowercase ∙ long)
    (λ i lt. let within : i < length xs = omega (arith, length-map xs to_ascii_lowercase) in get_or-map to_ascii_lowercase xs i 0 0 within ∙ same i within))

-- the slot of a text in small letters, by its own bytes
pub slot_small : (xs : List ℕ) → 0 < length xs
    → (length xs + 118 * to_ascii_lowercase (get_or xs 0 0) + 203 * to_ascii_lowercase (get_or xs (length xs / 2) 0) + 36 * to_ascii_lowercase (get_or xs (length xs - 1) 0)) % 512
    ≡ slot_of (small xs)
slot_small [] lt = absurd (omega arith)
slot_small (c ∷ xs) lt =
    let many : length (small (c ∷ xs)) ≡ length (c ∷ xs) = length-map (c ∷ xs) to_ascii_lowercase in
    let middle = get_or-map to_ascii_lowercase (c ∷ xs) (length (c ∷ xs) / 2) 0 0 (omega arith) in
    let last = get_or-map to_ascii_lowercase (c ∷ xs) (length xs) 0 0 (omega arith) in
    grind (arith, many, middle, last)
