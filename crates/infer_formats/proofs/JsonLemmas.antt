-- The grammar, byte by byte.
use Rattle.infer_formats.proofs.Common.{◌≡◌, ℕ, zero, suc, ◌≤◌, ◌⊎◌, inl, inr, ◌↔◌, codes, List, [], ◌∷◌, ◌++◌, refl, subst, arith, Symbol, range, blanks, value, items, members, chars, escape, hex, integer, fraction, exponent, power, digits, exact, IsAmong, Stands, one, by_rule, rules, ◌==◌, ◌||◌, Bool, IsTrue, nat_tests, not, sym, CanBe, IsJson, IsJsonLines}
use Rattle.std.specs.List.{list_any}
use Rattle.infer_formats.specs.Json as Json
use Rattle.infer_formats.specs.Laws.{HasBracket, Leads, Single}
use Rattle.infer_formats.proofs.TestLemmas.{neither}
use Rattle.infer_sig.proofs.KnownLemmas.{Known, proved, refuted, refuted_if, same_text, takes, ◌>>=◌, ◌>>◌}

abbrev AnyOf : (List Symbol → Type 0) → List (List Symbol) → Type 0
AnyOf P [] = ⊥
AnyOf P (r ∷ rs) = P r ⊎ AnyOf P rs

-- the symbol is a range with x in it, and A
abbrev IsByte : Symbol → ℕ → Type 0 → Type 0
IsByte (range low high) x A = (low ≤ x) × (x ≤ high) × A
IsByte _ x A = ⊥

-- x and v by the first symbol, and by its rules k deep
abbrev Begins : ℕ → ℕ → List ℕ → List Symbol → Type 0
Begins zero x v ss = Stands ss (x ∷ v)
Begins (suc k) x v [] = ⊥
Begins (suc k) x v (a ∷ ss) = IsByte a x (Stands ss v) ⊎ AnyOf (λ r. Begins k x v (r ++ ss)) (rules a)

any_among : (P : List Symbol → Type 0) (rs : List (List Symbol)) (r : List Symbol) → IsAmong r rs → P r → AnyOf P rs
any_among P [] r m p = elim m [ ]
any_among P (s ∷ rs) r (inl e) p = inl (subst P e p)
any_among P (s ∷ rs) r (inr m) p = inr (any_among P rs r m p)

among_any : (P : List Symbol → Type 0) (rs : List (List Symbol)) → AnyOf P rs → (r : List Symbol) × IsAmong r rs × P r
among_any P [] h = elim h [ ]
among_any P (r ∷ rs) (inl p) = (r, inl refl, p)
among_any P (r ∷ rs) (inr h) = let f = among_any P rs h in (f.0, inr f.1, f.2)

any_map : (P Q : List Symbol → Type 0) (rs : List (List Symbol)) → ((r : List Symbol) → P r → Q r) → AnyOf P rs
    → AnyOf Q rs
any_map P Q [] f h = h
any_map P Q (r ∷ rs) f (inl p) = inl (f r p)
any_map P Q (r ∷ rs) f (inr h) = inr (any_map P Q rs f h)

splits : {a : Symbol} {ss : List Symbol} {x : ℕ} {v : List ℕ} → Stands (a ∷ ss) (x ∷ v)
    → IsByte a x (Stands ss v) ⊎ AnyOf (λ r. Stands (r ++ ss) (x ∷ v)) (rules a)
splits (one l h d) = inl (l, h, d)
splits {a} {ss} {x} {v} (by_rule r m d) = inr (any_among (λ r. Stands (r ++ ss) (x ∷ v)) (rules a) r m d)

by_byte : (a : Symbol) (ss : List Symbol) (x : ℕ) (v : List ℕ) → IsByte a x (Stands ss v) → Stands (a ∷ ss) (x ∷ v)
by_byte (range low high) ss x v (l, h, d) = one l h d
by_byte _ ss x v h = elim h [ ]

pub begins : (k x : ℕ) (v : List ℕ) (ss : List Symbol) → Stands ss (x ∷ v) ↔ Begins k x v ss
begins zero x v ss = (λ d. d, λ d. d)
begins (suc k) x v [] = (λ d. elim d [ ], λ d. elim d [ ])
begins (suc k) x v (a ∷ ss) = (
  λ d. elim (splits d) [
    | inl b ↦ inl b
    | inr h ↦ inr (any_map (λ r. Stands (r ++ ss) (x ∷ v)) (λ r. Begins k x v (r ++ ss)) (rules a)
        (λ r p. (begins k x v (r ++ ss)).0 p) h)
  ],
  λ d. elim d [
    | inl b ↦ by_byte a ss x v b
    | inr h ↦ let f =
        among_any (λ r. Begins k x v (r ++ ss)) (rules a) h in by_rule f.0 f.1 ((begins k x v (f.0 ++ ss)).1 f.2)
  ],
)

-- of the first symbol of each token
pub range_begins : (low high x : ℕ) (ss : List Symbol) (v : List ℕ) → Stands (range low high ∷ ss) (x ∷ v) ↔ Begins 1 x v (range low high ∷ ss)
range_begins low high x ss v = begins 1 x v (range low high ∷ ss)

module _ (x : ℕ) (ss : List Symbol) (v : List ℕ) where
  pub chars_begin : Stands (chars ∷ ss) (x ∷ v) ↔ Begins 3 x v (chars ∷ ss)
  chars_begin = begins 3 x v (chars ∷ ss)

  pub escape_begins : Stands (escape ∷ ss) (x ∷ v) ↔ Begins 2 x v (escape ∷ ss)
  escape_begins = begins 2 x v (escape ∷ ss)

  pub hex_begins : Stands (hex ∷ ss) (x ∷ v) ↔ Begins 2 x v (hex ∷ ss)
  hex_begins = begins 2 x v (hex ∷ ss)

  pub integer_begins : Stands (integer ∷ ss) (x ∷ v) ↔ Begins 2 x v (integer ∷ ss)
  integer_begins = begins 2 x v (integer ∷ ss)

  pub power_begins : Stands (power ∷ ss) (x ∷ v) ↔ Begins 2 x v (power ∷ ss)
  power_begins = begins 2 x v (power ∷ ss)

  -- of those that may stand for nothing
  pub fraction_begins : Stands (fraction ∷ ss) (x ∷ v) ↔ Begins 1 x v (fraction ∷ ss)
  fraction_begins = begins 1 x v (fraction ∷ ss)

  pub exponent_begins : Stands (exponent ∷ ss) (x ∷ v) ↔ Begins 1 x v (exponent ∷ ss)
  exponent_begins = begins 1 x v (exponent ∷ ss)

  pub digits_begin : Stands (digits ∷ ss) (x ∷ v) ↔ Begins 1 x v (digits ∷ ss)
  digits_begin = begins 1 x v (digits ∷ ss)

-- of values
abbrev pub ValueBegins : ℕ → List ℕ → List Symbol → Type 0
ValueBegins x v ss =
    ((x ≡ 0x74) × Stands (exact (codes "rue") ++ ss) v) ⊎ ((x ≡ 0x66) × Stands (exact (codes "alse") ++ ss) v)
    ⊎ ((x ≡ 0x6E) × Stands (exact (codes "ull") ++ ss) v) ⊎ ((x ≡ 0x22) × Stands (chars ∷ ss) v)
    ⊎ ((x ≡ 0x2D) × Stands (integer ∷ fraction ∷ exponent ∷ ss) v) ⊎ ((x ≡ 0x30) × Stands (fraction ∷ exponent ∷ ss) v)
    ⊎ ((0x31 ≤ x) × (x ≤ 0x39) × Stands (digits ∷ fraction ∷ exponent ∷ ss) v)

pub value_begins : (n x : ℕ) (ss : List Symbol) (v : List ℕ) → ¬ (x ≡ 0x5B) → ¬ (x ≡ 0x7B)
    → Stands (value n ∷ ss) (x ∷ v) ↔ ValueBegins x v ss
value_begins zero x ss v p q =
    let b = begins 4 x v (value 0 ∷ ss) in (λ d. let e = b.0 d in grind arith, λ d. b.1 (grind arith))
value_begins (suc n) x ss v p q =
    let b = begins 4 x v (value (suc n) ∷ ss) in (λ d. let e = b.0 d in grind arith, λ d. b.1 (grind arith))

pub array_begins : (n : ℕ) (ss : List Symbol) (v : List ℕ) → Stands (value (suc n) ∷ ss) (0x5B ∷ v)
    ↔ Stands (blanks ∷ items n ∷ ss) v
array_begins n ss v =
    let b = begins 4 0x5B v (value (suc n) ∷ ss) in (λ d. let e = b.0 d in grind arith, λ d. b.1 (grind arith))

pub object_begins : (n : ℕ) (ss : List Symbol) (v : List ℕ) → Stands (value (suc n) ∷ ss) (0x7B ∷ v)
    ↔ Stands (blanks ∷ members n ∷ ss) v
object_begins n ss v =
    let b = begins 4 0x7B v (value (suc n) ∷ ss) in (λ d. let e = b.0 d in grind arith, λ d. b.1 (grind arith))

pub none_nested : (x : ℕ) (ss : List Symbol) (v : List ℕ) → (x ≡ 0x5B) ⊎ (x ≡ 0x7B) → ¬ Stands (value 0 ∷ ss) (x ∷ v)
none_nested x ss v h d = let e = (begins 4 x v (value 0 ∷ ss)).0 d in grind arith

-- ---- what a computation says of JSON

abbrev is_bracket : ℕ → Bool
is_bracket x = x == 0x5B || x == 0x7B

pub no_bracket : (b : List ℕ) → IsTrue (not (list_any is_bracket b)) → ¬ HasBracket b
no_bracket [] h (k, is) = grind arith
no_bracket (x ∷ b) h (zero, is) = let none = (neither (is_bracket x) (list_any is_bracket b) h).0 in grind (arith, nat_tests)
no_bracket (x ∷ b) h (suc k, is) = no_bracket b (neither (is_bracket x) (list_any is_bracket b) h).1 (k, is)

-- an array, and one with the next on a new line, which has begun
abbrev array : List ℕ
array = 0x5B ∷ 0x5D ∷ []

abbrev two_lines : List ℕ
two_lines = 0x5B ∷ 0x5D ∷ 0x0A ∷ 0x5B ∷ []

array_stands : {ss : List Symbol} {v : List ℕ} → Stands ss v → Stands (Json.text ∷ ss) (0x5B ∷ 0x5D ∷ v)
array_stands rest =
    Json.by_rule (Json.byte 0x5B ∷ Json.blanks ∷ Json.items 127 ∷ []) (inl refl)
    (Json.one (omega arith) (omega arith)
    (Json.by_rule [] (inl refl) (Json.by_rule (Json.byte 0x5D ∷ []) (inl refl) (Json.one (omega arith) (omega arith) rest))))

array_can_be : CanBe (Json.blanks ∷ Json.text ∷ Json.blanks ∷ []) array
array_can_be = ([], Json.by_rule [] (inl refl) (array_stands (Json.by_rule [] (inl refl) Json.nothing)))

pub array_is_json : IsJson array
array_is_json = inl (inl (inl refl, inl (inl (inr (inl refl)))), array_can_be)

pub array_is_no_lines : ¬ IsJsonLines array
array_is_no_lines (inl lines) = lines.1 array_can_be
array_is_no_lines (inr (w, e, lines)) = absurd (cc)

pub are_lines : Single → IsJsonLines two_lines
are_lines single = inl (
  (
    codes "]",
    Json.by_rule [] (inl refl)
        (array_stands
        (Json.by_rule (Json.byte 0x0A ∷ Json.next_line ∷ []) (inr (inr (inr (inr (inl refl)))))
        (Json.one (omega arith) (omega arith)
        (Json.by_rule (Json.text ∷ Json.same_line ∷ []) (inr (inr (inr (inr (inr (inl refl))))))
        (array_stands (Json.by_rule [] (inl refl) Json.nothing)))))),
  ),
  single.json (0x5B ∷ []) [],
)

module _ (inside : Leads) (single : Single) (b : List ℕ) where
  abbrev pub known_json_lines : Known (IsJsonLines b)
  known_json_lines = do
    refuted_if (not (list_any is_bracket b)) (λ none h. no_bracket b none (inside.json_lines b h).1)
    (do equal ← takes (same_text b two_lines); proved (subst IsJsonLines (sym equal) (are_lines single)))
    (do equal ← takes (same_text b array); refuted (subst (λ u. ¬ IsJsonLines u) (sym equal) array_is_no_lines))

  abbrev pub known_json : Known (IsJson b)
  known_json = do
    refuted_if (not (list_any is_bracket b)) (λ none h. no_bracket b none (inside.json b h).1)
    (do equal ← takes (same_text b array); proved (subst IsJson (sym equal) array_is_json))
