-- Which parameters count.
use Rattle.std.proofs.Common.{◌≡◌, ◌↔◌, ◌==◌, ◌&&◌, ◌||◌, ◌∙◌, ◌∷◌, ◌++◌, [], ℕ, List, Bool, IsTrue, true, false, ap, arith, if◌then◌else◌, length, nat_lt, refl, sym}
use Rattle.std.proofs.lemmas.Bool.{eqb-true}
use Rattle.std.proofs.lemmas.Bool.Decides.{nat_tests}
use Rattle.std.proofs.lemmas.List.{append-nil, length-map}
use Rattle.std.proofs.lemmas.Slice.Eq.{bytes_eq-Decides}
use Rattle.std.specs.Char.{to_ascii_lowercase}
use Rattle.std.specs.List.{list_all}
use Rattle.std.specs.Str.{bytes_eq}
use Rattle.mime_types.specs.Bytes.{is_quotable, is_token}
use Rattle.mime_types.specs.Mime.{Parameter}
use Rattle.mime_types.specs.Parameters.{is_first, kept}
use Rattle.mime_types.specs.Segment.{unquoted}
use Rattle.mime_types.specs.Text.{is_a_token, lower}

token_lower : (x : ℕ) → is_token (to_ascii_lowercase x) ≡ is_token x
token_lower x = grind (arith, nat_tests)

tokens_lower : (s : List ℕ) → list_all is_token (lower s) ≡ list_all is_token s
tokens_lower [] = refl
tokens_lower (x ∷ s) = ap (λ b. b && list_all is_token (lower s)) (token_lower x) ∙ ap (λ b. is_token x && b) (tokens_lower s)

-- a token is one in lower case
pub token_in_lower : (s : List ℕ) → is_a_token (lower s) ≡ is_a_token s
token_in_lower s =
    ap (λ n. nat_lt 0 n && list_all is_token (lower s)) (length-map s to_ascii_lowercase)
    ∙ ap (λ b. nat_lt 0 (length s) && b) (tokens_lower s)

quotable_pair : (x y : ℕ) (s : List ℕ) → list_all is_quotable (unquoted s) ≡ list_all is_quotable s
    → list_all is_quotable (unquoted (y ∷ s)) ≡ list_all is_quotable (y ∷ s) → (b : Bool) → (x == 0x5C) ≡ b
    → list_all is_quotable (if b then y ∷ unquoted s else x ∷ unquoted (y ∷ s)) ≡ list_all is_quotable (x ∷ y ∷ s)
quotable_pair x y s less more true is =
    let e : x ≡ 0x5C = eqb-true x 0x5C is in
    ap (λ b. is_quotable y && b) less ∙ ap (λ z. is_quotable z && (is_quotable y && list_all is_quotable s)) (sym e)
quotable_pair x y s less more false is = ap (λ b. is_quotable x && b) more

-- a backslash may stand in quotes, as what it takes with it may
pub quotable_unquoted : (s : List ℕ) → list_all is_quotable (unquoted s) ≡ list_all is_quotable s
quotable_unquoted [] = refl
quotable_unquoted (x ∷ []) = refl
quotable_unquoted (x ∷ y ∷ s) = quotable_pair x y s (quotable_unquoted s) (quotable_unquoted (y ∷ s)) (x == 0x5C) refl

pub quotable_seen : (quoted : Bool) (s : List ℕ) → list_all is_quotable (if quoted then unquoted s else s) ≡ list_all is_quotable s
quotable_seen true s = quotable_unquoted s
quotable_seen false s = refl

-- a test of two texts
pub same_test : (r : Bool) (a b : List ℕ) → IsTrue r ↔ (a ≡ b) → r ≡ bytes_eq a b
same_test true a b h = sym ((bytes_eq-Decides a b).1 (h.0 refl))
same_test false a b h = cases (bytes_eq a b) refl
  where
    cases : (t : Bool) → bytes_eq a b ≡ t → false ≡ t
    cases true is = h.1 ((bytes_eq-Decides a b).0 is)
    cases false is = refl

pub and_swapped : (a b : Bool) → (a && b) ≡ (b && a)
and_swapped true true = refl
and_swapped true false = refl
and_swapped false true = refl
and_swapped false false = refl

pub kept_case : (e : List Parameter) (p : Parameter) (ps : List Parameter) (b : Bool) → is_first e p ≡ b
    → kept e (p ∷ ps) ≡ (if b then p ∷ kept (e ++ p ∷ []) ps else kept (e ++ p ∷ []) ps)
unfolding kept
kept_case e p ps b is = ap (λ b. if b then p ∷ kept (e ++ p ∷ []) ps else kept (e ++ p ∷ []) ps) is

-- what counts after those of e, if w is what is written and w' what is left of it
module _ (e f w v : List Parameter) where
  pub none_counts : w ≡ [] → kept e w ≡ []
  unfolding kept
  none_counts is = ap (kept e) is

  pub step_none : w ≡ v → f ≡ e ++ [] → kept e w ≡ kept f v
  step_none later earlier = ap (kept e) later ∙ ap (λ x. kept x v) (sym (earlier ∙ append-nil e))

  module _ (p : Parameter) (later : w ≡ p ∷ v) (earlier : f ≡ e ++ p ∷ []) where
    pub step_counts : is_first e p ≡ true → kept e w ≡ p ∷ kept f v
    step_counts is = ap (kept e) later ∙ (kept_case e p v true is ∙ ap (λ x. p ∷ kept x v) (sym earlier))

    pub step_skips : is_first e p ≡ false → kept e w ≡ kept f v
    step_skips is = ap (kept e) later ∙ (kept_case e p v false is ∙ ap (λ x. kept x v) (sym earlier))

pub or_true : (b : Bool) → (b || true) ≡ true
or_true true = refl
or_true false = refl
