-- Names are ASCII.
use Rattle.infer_more.proofs.Common.{◌≡◌, ◌<◌, ◌&&◌, ◌==◌, ℕ, suc, true, List, [], ◌∷◌, codes, length, take, drop, inl, inr, refl, subst, nat_le, arith, cases_Bool, and_parts, eqb-true, nat_tests, list_all, list_any, is_alphanumeric, is_mime_type, is_name, is_name_byte, slash_place}
use Rattle.std.proofs.lemmas.Bool.{or_cases}
use Rattle.std.proofs.lemmas.Str.Ascii.{IsAscii-cons, IsAscii-nil}
use Rattle.std.specs.Str.{IsAscii}

alphanumeric_ascii : (x : ℕ) → is_alphanumeric x ≡ true → x < 128
alphanumeric_ascii x e = grind (arith, nat_tests)

mark_ascii : (x : ℕ) → list_any (λ y. x == y) (codes "!#$&-^_.+") ≡ true → x < 128
mark_ascii x e = grind (arith, nat_tests)

byte_ascii : (x : ℕ) → is_name_byte x ≡ true → x < 128
byte_ascii x e = elim (or_cases _ _ e) [ inl letter ↦ alphanumeric_ascii x letter | inr mark ↦ mark_ascii x mark ]

all_ascii : (xs : List ℕ) → list_all is_name_byte xs ≡ true → IsAscii xs
all_ascii [] e = IsAscii-nil
all_ascii (x ∷ xs) e = let both = and_parts (is_name_byte x) (list_all is_name_byte xs) e in IsAscii-cons x xs (byte_ascii x both.0) (all_ascii xs both.1)

pub name_ascii : (xs : List ℕ) → is_name xs ≡ true → IsAscii xs
name_ascii [] e = IsAscii-nil
name_ascii (x ∷ xs) e =
    let both = and_parts (is_alphanumeric x && nat_le (length xs) 126) (list_all is_name_byte xs) e in
    IsAscii-cons x xs (alphanumeric_ascii x (and_parts (is_alphanumeric x) (nat_le (length xs) 126) both.0).0) (all_ascii xs both.1)

-- a text whose parts before and after its first "/" are ASCII
parted : (xs : List ℕ) → IsAscii (take (slash_place xs) xs) → IsAscii (drop 1 (drop (slash_place xs) xs)) → IsAscii xs
parted [] a b = IsAscii-nil
parted (x ∷ xs) a b = elim (cases_Bool (x == 0x2F)) [
  | inl slash ↦
      let none : slash_place (x ∷ xs) ≡ 0 = rw slash refl in
      let x-is = eqb-true x 0x2F slash in
      IsAscii-cons x xs (omega arith) (subst (λ n. IsAscii (drop 1 (drop n (x ∷ xs)))) none b)
  | inr other ↦
      let more : slash_place (x ∷ xs) ≡ suc (slash_place xs) = rw other (omega arith) in
      let front = subst (λ n. IsAscii (take n (x ∷ xs))) more a in
      IsAscii-cons x xs (front 0) (parted xs (λ i. front (suc i)) (subst (λ n. IsAscii (drop 1 (drop n (x ∷ xs)))) more b))
]

pub mime_type_ascii : (xs : List ℕ) → is_mime_type xs ≡ true → IsAscii xs
unfolding is_mime_type
mime_type_ascii xs e =
    let both = and_parts (is_name (take (slash_place xs) xs)) (is_name (drop 1 (drop (slash_place xs) xs))) e in
    parted xs (name_ascii _ both.0) (name_ascii _ both.1)
