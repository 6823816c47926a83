-- How the buffers of a further row begin, as far as its first parts tell: so a buffer's parent and first byte rule out most
-- rows before anything else is computed of them.
use Rattle.std.specs.List.{AllWithin}
use Rattle.std.proofs.lemmas.Bool.{or_cases, or_left, or_right}
use Rattle.std.proofs.lemmas.List.Folds.{list_any-append}
use Rattle.infer_formats.specs.Laws as Inside
use Rattle.infer_sig.specs.Signature as fixed
use Rattle.infer_sig.specs.Signature.{any_of, at_least, byte, text}
use Rattle.infer_sig.proofs.KnownLemmas.{is_proved, negated, proof_of}
use Rattle.infer_sig.proofs.OccurrenceLemmas.{not_both}
use Rattle.infer_more.proofs.Common.{◌≡◌, ◌<◌, ◌==◌, ◌&&◌, ◌||◌, ℕ, zero, suc, Bool, ByPlace, false, true, not, IsTrue, List, [], ◌∷◌, ◌++◌, Option, None, Some, inl, inr, refl, sym, subst, arith, get_or, length, eq-eqb, has_part, list_any, nat_le, nat_lt, if◌then◌else◌, stands, accepts, fits, Known, Accepted, Fits, Further, Widens, is_plain, lines}
use Rattle.infer_notation.specs.Alternative.{Alternative}
use Rattle.infer_more.proofs.IndexLemmas as test
use Rattle.infer_more.proofs.OutlineLemmas.{has_lines}

-- the bytes with one of which what has the line begins, and none where it may be any
abbrev pub line_start : fixed.Alternative → Option (List ℕ)
line_start (at_least n (text zero (x ∷ t) ∷ parts)) = Some (x ∷ [])
line_start (at_least n (byte zero (any_of xs) ∷ parts)) = Some xs
line_start other = None

abbrev pub together : Option (List ℕ) → Option (List ℕ) → Option (List ℕ)
together (Some xs) (Some ys) = Some (xs ++ ys)
together o p = None

abbrev pub lines_start : List fixed.Alternative → Option (List ℕ)
lines_start [] = Some []
lines_start (l ∷ ls) = together (line_start l) (lines_start ls)

abbrev pub alternative_start : Alternative → Option (List ℕ)
alternative_start a = if is_plain a then None else lines_start (lines a)

abbrev pub signature_start : List Alternative → Option (List ℕ)
signature_start [] = Some []
signature_start (a ∷ others) = together (alternative_start a) (signature_start others)

-- a row's parent, and how its buffers begin
abbrev pub Start : Type 0
Start = Option ℕ × Option (List ℕ)

abbrev pub start_of : Further → Start
start_of r = (r.parent, signature_start r.signature)

abbrev pub is_same : Option ℕ → Option ℕ → Bool
is_same None None = true
is_same (Some i) (Some j) = i == j
is_same o p = false

-- the buffer begins with one of the bytes
abbrev pub begins : List ℕ → List ℕ → Bool
begins [] xs = false
begins (y ∷ b) xs = list_any (λ x. y == x) xs

abbrev pub may_begin : List ℕ → Option (List ℕ) → Bool
may_begin b None = true
may_begin b (Some xs) = begins b xs

begins_left : (b xs ys : List ℕ) → IsTrue (begins b xs) → IsTrue (begins b (xs ++ ys))
begins_left [] xs ys h = absurd (cc)
begins_left (y ∷ b) xs ys h = subst IsTrue (sym (list_any-append (λ x. y == x) xs ys)) (or_left (list_any (λ x. y == x) xs) _ h)

begins_right : (b xs ys : List ℕ) → IsTrue (begins b ys) → IsTrue (begins b (xs ++ ys))
begins_right [] xs ys h = absurd (cc)
begins_right (y ∷ b) xs ys h = subst IsTrue (sym (list_any-append (λ x. y == x) xs ys)) (or_right (list_any (λ x. y == x) xs) _ h)

may_left : (b : List ℕ) (o p : Option (List ℕ)) → IsTrue (may_begin b o) → IsTrue (may_begin b (together o p))
may_left b None p h = refl
may_left b (Some xs) None h = refl
may_left b (Some xs) (Some ys) h = begins_left b xs ys h

may_right : (b : List ℕ) (o p : Option (List ℕ)) → IsTrue (may_begin b p) → IsTrue (may_begin b (together o p))
may_right b None p h = refl
may_right b (Some xs) None h = refl
may_right b (Some xs) (Some ys) h = begins_right b xs ys h

text_begins : ByPlace → (b : List ℕ) (x : ℕ) (t : List ℕ) → IsTrue (stands zero (x ∷ t) b) → IsTrue (begins b (x ∷ []))
text_begins by_place [] x t h = let at = (by_place zero (x ∷ t) []).0 h zero (omega arith) in absurd (omega (arith, at.0))
text_begins by_place (y ∷ b) x t h = let at = (by_place zero (x ∷ t) (y ∷ b)).0 h zero (omega arith) in or_left (y == x) false (eq-eqb y x at.1)

byte_begins : (b xs : List ℕ) → IsTrue (has_part b (byte zero (any_of xs))) → IsTrue (begins b xs)
byte_begins [] xs h = absurd (cc)
byte_begins (y ∷ b) xs h = test.both_right (nat_lt zero (length (y ∷ b))) _ h

line_begins : ByPlace → (b : List ℕ) (l : fixed.Alternative) → IsTrue (fits b l) → IsTrue (may_begin b (line_start l))
line_begins by_place b (at_least n (text zero (x ∷ t) ∷ parts)) h =
    text_begins by_place b x t (test.both_left (has_part b (text zero (x ∷ t))) _ (test.both_right (nat_le n (length b)) _ h))
line_begins by_place b (at_least n (byte zero (any_of xs) ∷ parts)) h =
    byte_begins b xs (test.both_left (has_part b (byte zero (any_of xs))) _ (test.both_right (nat_le n (length b)) _ h))
line_begins by_place b l h = refl

lines_begin : ByPlace → (b : List ℕ) (ls : List fixed.Alternative) → IsTrue (accepts ls b) → IsTrue (may_begin b (lines_start ls))
lines_begin by_place b [] h = absurd (cc)
lines_begin by_place b (l ∷ ls) h = elim (or_cases (fits b l) _ h) [
  | inl own ↦ may_left b (line_start l) (lines_start ls) (line_begins by_place b l own)
  | inr later ↦ may_right b (line_start l) (lines_start ls) (lines_begin by_place b ls later)
]

module _ (by_place : ByPlace) (inside : Inside.Leads) (b : List ℕ) where
  plain_or_lines : (a : Alternative) (plain : Bool) → is_plain a ≡ plain → Fits a b → IsTrue (may_begin b (if plain then None else lines_start (lines a)))
  plain_or_lines a true is h = refl
  plain_or_lines a false is h = lines_begin by_place b (lines a) (has_lines inside b a (λ plain. absurd (cc)) h)

  signature_begins : (signature : List Alternative) → Accepted signature b → IsTrue (may_begin b (signature_start signature))
  signature_begins [] h = absurd h
  signature_begins (a ∷ others) (inl own) = may_left b (alternative_start a) (signature_start others) (plain_or_lines a (is_plain a) refl own)
  signature_begins (a ∷ others) (inr later) = may_right b (alternative_start a) (signature_start others) (signature_begins others later)

  module _ (parent : Option ℕ) where
    -- a row that starts so has another parent, or the buffer begins otherwise
    abbrev pub is_out : Start → Bool
    is_out (p, start) = not (is_same p parent) || not (may_begin b start)

    same_passes : (p : Option ℕ) → p ≡ parent → IsTrue (is_same p parent)
    same_passes None e = subst (λ q. IsTrue (is_same None q)) e refl
    same_passes (Some i) e = subst (λ q. IsTrue (is_same (Some i) q)) e (eq-eqb i i refl)

    out_so : (r : Further) → IsTrue (is_out (start_of r)) → ¬ Widens parent b r
    out_so r e h = elim (or_cases (not (is_same r.parent parent)) _ e) [
      | inl other ↦ not_both (is_same r.parent parent) (same_passes r.parent h.0) other
      | inr otherwise ↦ not_both (may_begin b (signature_start r.signature)) (signature_begins r.signature h.1) otherwise
    ]

    module _ (known : (r : Further) → Known (Widens parent b r)) where
      -- each of the first n rows is out, or is computed not to widen the answer
      abbrev pub none_widens : List Further → ℕ → Bool
      none_widens rows zero = true
      none_widens (r ∷ rows) (suc n) = (is_out (start_of r) || is_proved (negated (known r))) && none_widens rows n
      none_widens [] (suc n) = false

      each_out : (rows : List Further) (n : ℕ) → IsTrue (none_widens rows n) → (i : ℕ) (d : Further) → i < n → ¬ Widens parent b (get_or rows i d)
      each_out rows zero e i d lt = absurd (omega arith)
      each_out [] (suc n) e i d lt = absurd (cc)
      each_out (r ∷ rows) (suc n) e zero d lt = elim (or_cases (is_out (start_of r)) _ (test.both_left (is_out (start_of r) || is_proved (negated (known r))) _ e)) [
        | inl out ↦ out_so r out
        | inr refused ↦ proof_of (negated (known r)) refused
      ]
      each_out (r ∷ rows) (suc n) e (suc i) d lt = each_out rows n (test.both_right (is_out (start_of r) || is_proved (negated (known r))) _ e) i d (omega arith)

      pub none_before : (rows : List Further) (n : ℕ) → IsTrue (none_widens rows n) → AllWithin (λ r. ¬ Widens parent b r) rows 0 n
      none_before rows n e = λ i d low lt. each_out rows n e i d lt
