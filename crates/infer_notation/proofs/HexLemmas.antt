-- Bytes in hexadecimal digits, read one after the other.
use Rattle.infer_notation.proofs.Common.{◌≡◌, ◌+◌, ◌&&◌, ◌||◌, ◌==◌, ℕ, suc, Bool, true, false, List, [], ◌∷◌, Option, None, Some, length, drop, option_map, nat_eq, refl, sym, ap, ◌∙◌, arith, list_any, starts_with, allows, any_of, nat_tests, bytes_after, bytes_of, byte_with, first_passes, hex_joined, hex_seen, is_blank, Hex}
use Rattle.std.proofs.Math.Bool.{and-true, and_assoc, or-false, or_assoc}

starts_next : (b : ℕ) (left xs : List ℕ) → starts_with nat_eq left (b ∷ xs) ≡ (first_passes (λ x. b == x) left && starts_with nat_eq (drop 1 left) xs)
starts_next b [] xs = refl
starts_next b (y ∷ ys) xs = refl

pub same_test : (a b : ℕ) → (a == b) ≡ (b == a)
same_test a b = grind (arith, nat_tests)

has_next : (b : ℕ) (buf xs : List ℕ) → first_passes (allows (any_of (b ∷ xs))) buf ≡ (first_passes (λ x. b == x) buf || first_passes (allows (any_of xs)) buf)
has_next b [] xs = refl
has_next b (y ∷ ys) xs = ap (λ t. t || list_any (λ z. y == z) xs) (same_test y b)

-- one byte more is read
pub joined_next : (read : Hex) (left buf : List ℕ) (b : ℕ) (xs : List ℕ) (n : ℕ) (s h : Bool)
    → n ≡ read.count + 1 → s ≡ (read.stands && first_passes (λ x. b == x) left) → h ≡ (read.has || first_passes (λ x. b == x) buf)
    → hex_joined (record { count = n; stands = s; has = h }) (drop 1 left) buf xs ≡ hex_joined read left buf (b ∷ xs)
joined_next read left buf b xs n s h is-n is-s is-h =
    let count : n + length xs ≡ read.count + suc (length xs) = omega arith in
    let stands = ap (λ t. read.stands && t) (starts_next b left xs) ∙ sym (and_assoc read.stands _ (starts_with nat_eq (drop 1 left) xs)) in
    let has = ap (λ t. read.has || t) (has_next b buf xs) ∙ sym (or_assoc read.has _ (first_passes (allows (any_of xs)) buf)) in
    cc

-- what is given in the end, from here on
abbrev pub gives : Hex → List ℕ → List ℕ → Option ℕ → List ℕ → Option Hex
gives read left buf first text = option_map (hex_joined read left buf) (bytes_after first text)

pub gives_start : (buf text : List ℕ) → gives (record { count = 0; stands = true; has = false }) buf buf None text ≡ option_map (hex_seen buf) (bytes_of text)
gives_start buf text = starts buf (bytes_of text)
  where
    starts : (buf : List ℕ) (r : Option (List ℕ)) → option_map (hex_joined (record { count = 0; stands = true; has = false }) buf buf) r ≡ option_map (hex_seen buf) r
    starts buf None = refl
    starts buf (Some xs) = ap (λ (n : ℕ). Some (record { count = n; stands = starts_with nat_eq buf xs; has = first_passes (allows (any_of xs)) buf })) (omega arith)

pub gives_blank : (read : Hex) (left buf : List ℕ) (x : ℕ) (xs : List ℕ) → is_blank x ≡ true → gives read left buf None (x ∷ xs) ≡ gives read left buf None xs
gives_blank read left buf x xs h = rw h refl

pub gives_first : (read : Hex) (left buf : List ℕ) (x : ℕ) (xs : List ℕ) → is_blank x ≡ false → gives read left buf None (x ∷ xs) ≡ gives read left buf (Some x) xs
gives_first read left buf x xs h = rw h refl

map_byte : (read more : Hex) (left after buf : List ℕ) (b : ℕ) (r : Option (List ℕ))
    → ((zs : List ℕ) → hex_joined more after buf zs ≡ hex_joined read left buf (b ∷ zs))
    → option_map (hex_joined read left buf) (option_map (λ bytes. b ∷ bytes) r) ≡ option_map (hex_joined more after buf) r
map_byte read more left after buf b None h = refl
map_byte read more left after buf b (Some xs) h = ap (λ (r : Hex). Some r) (sym (h xs))

pub gives_byte : (read more : Hex) (left after buf : List ℕ) (x y b : ℕ) (xs : List ℕ) → byte_with x y ≡ Some b
    → ((zs : List ℕ) → hex_joined more after buf zs ≡ hex_joined read left buf (b ∷ zs))
    → gives read left buf (Some x) (y ∷ xs) ≡ gives more after buf None xs
gives_byte read more left after buf x y b xs is h = rw is (map_byte read more left after buf b (bytes_after None xs) h)

abbrev hex : ℕ → Bool → Bool → Hex
hex count stands has = record { count = count; stands = stands; has = has }

pub gives_end : (read : Hex) (left buf : List ℕ) → gives read left buf None [] ≡ Some read
gives_end read left buf = ap (λ (r : Hex). Some r) (ended read refl)
  where
    none_among : (buf : List ℕ) → first_passes (allows (any_of [])) buf ≡ false
    none_among [] = refl
    none_among (y ∷ ys) = refl

    ended : (read : Hex) → starts_with nat_eq left [] ≡ true → hex_joined read left buf [] ≡ read
    ended read h =
        let n : read.count + 0 ≡ read.count = omega arith in
        let s : (read.stands && starts_with nat_eq left []) ≡ read.stands = ap (λ t. read.stands && t) h ∙ and-true read.stands in
        let e : (read.has || first_passes (allows (any_of [])) buf) ≡ read.has = ap (λ t. read.has || t) (none_among buf) ∙ or-false read.has in
        ap (λ (k : ℕ). hex k (read.stands && starts_with nat_eq left []) (read.has || first_passes (allows (any_of [])) buf)) n
        ∙ (ap (λ (t : Bool). hex read.count t (read.has || first_passes (allows (any_of [])) buf)) s ∙ ap (λ (t : Bool). hex read.count read.stands t) e)
