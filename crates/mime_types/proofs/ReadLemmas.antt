-- What a text says, by its parts.
use Rattle.std.proofs.Common.{◌≡◌, ◌↔◌, ◌∙◌, ◌==◌, ◌&&◌, ◌⊎◌, inl, inr, ℕ, Bool, List, [], ◌∷◌, Option, None, Some, IsTrue, true, false, ap, arith, length, refl, subst, sym}
use Rattle.std.proofs.lemmas.Bool.{eqb-true, false≢true, lt-ltb}
use Rattle.std.specs.List.{list_all}
use Rattle.std.specs.Prelude.{cond, nat_lt}
use Rattle.mime_types.specs.Bytes.{is_token}
use Rattle.mime_types.specs.Mime.{Mime, Parameter}
use Rattle.mime_types.specs.Parameters.{parameters}
use Rattle.mime_types.specs.Parse.{Parsed, after_slash_first, if_token, subtype_before, subtype_text, tail_text, type_text}
use Rattle.mime_types.specs.Text.{after, after_tokens, is_a_token, is_semicolon, lower, tokens_before, trim}
use Rattle.mime_types.proofs.TokenLemmas.{SlashTold, all_before, slash_told}

abbrev mime : List ℕ → List ℕ → List Parameter → Mime
mime a b ps = record { kind = record { type_name = a; subtype = b }; parameters = ps }

abbrev shown : List ℕ → List ℕ → List ℕ → Mime
shown a b tail = mime (lower a) (lower b) (parameters tail)

abbrev nothing : Option Mime
nothing = None

no_mime : (m : Mime) → nothing ≡ Some m → ⊥
no_mime m e = cc

one_mime : (x y : Mime) → Some x ≡ Some y → x ≡ y
one_mime x y e = cc

same_mime : (a b : List ℕ) (ps : List Parameter) (m : Mime) → a ≡ m.kind.type_name → b ≡ m.kind.subtype → ps ≡ m.parameters → Some (mime a b ps) ≡ Some m
same_mime a b ps m e f g =
    ap (λ x. Some (mime x b ps)) e ∙ (ap (λ y. Some (mime m.kind.type_name y ps)) f ∙ ap (λ z. Some (mime m.kind.type_name m.kind.subtype z)) g)

module _ (t a b tail : List ℕ) (type_is : a ≡ type_text t) (subtype_is : b ≡ subtype_text t) (tail_is : tail ≡ tail_text t) where
  says : is_a_token a ≡ true → is_a_token b ≡ true → (m : Mime) → shown a b tail ≡ m → Parsed t m
  says ta tb m same = record {
    type_token = ap is_a_token (sym type_is) ∙ ta;
    subtype_token = ap is_a_token (sym subtype_is) ∙ tb;
    type_name = ap (λ m. m.kind.type_name) (sym same) ∙ ap lower type_is;
    subtype = ap (λ m. m.kind.subtype) (sym same) ∙ ap lower subtype_is;
    all = ap (λ m. m.parameters) (sym same) ∙ ap parameters tail_is;
  }

  pub parsed : is_a_token a ≡ true → is_a_token b ≡ true → (m : Mime) → (Some (shown a b tail) ≡ Some m) ↔ Parsed t m
  parsed ta tb m = (
    λ e. says ta tb m (one_mime (shown a b tail) m e),
    λ p. same_mime (lower a) (lower b) (parameters tail) m (ap lower type_is ∙ sym p.type_name) (ap lower subtype_is ∙ sym p.subtype)
        (ap parameters tail_is ∙ sym p.all),
  )

-- type or subtype is no token
pub not_said : (t : List ℕ) → (is_a_token (type_text t) && is_a_token (subtype_text t)) ≡ false → (m : Mime) → (nothing ≡ Some m) ↔ Parsed t m
not_said t bad m = (
  λ e. absurd (no_mime m e),
  λ p. absurd (false≢true (sym bad ∙ (ap (λ b. b && is_a_token (subtype_text t)) p.type_token ∙ p.subtype_token))),
)

both_or_none : (n a b : Bool) → (a && b) ≡ false → ((n && a) && b) ≡ false
both_or_none true a b bad = bad
both_or_none false a b bad = refl

and_not : (a b : Bool) → b ≡ false → (a && b) ≡ false
and_not true b bad = bad
and_not false b bad = refl

no_length : (s : List ℕ) → (length s == 0) ≡ true → s ≡ []
no_length [] none = refl
no_length (x ∷ s) none = absurd (let e = eqb-true (length (x ∷ s)) 0 none in omega (arith, e))

some_length : (s : List ℕ) → (length s == 0) ≡ false → nat_lt 0 (length s) ≡ true
some_length [] some = absurd (false≢true (sym some))
some_length (x ∷ s) some = lt-ltb 0 (length (x ∷ s)) (omega arith)

-- what is left of a part that is no token is nothing
if_nothing : (s : List ℕ) → if_token s ≡ [] → is_a_token s ≡ false
if_nothing s none = cases (is_a_token s) refl none
  where
    cases : (b : Bool) → is_a_token s ≡ b → cond b s [] ≡ [] → is_a_token s ≡ false
    cases true is e = ap is_a_token e
    cases false is e = is

if_something : (s : List ℕ) → (length (if_token s) == 0) ≡ false → is_a_token s ≡ true
if_something s some = cases (is_a_token s) refl some
  where
    cases : (b : Bool) → is_a_token s ≡ b → (length (cond b s []) == 0) ≡ false → is_a_token s ≡ true
    cases true is e = is
    cases false is e = absurd (false≢true (sym e))

-- a type, what stands after its "/", and a subtype, as they are cut
module _ (t a b s : List ℕ) (type_cut : a ≡ tokens_before (trim t)) (after_cut : b ≡ after_slash_first (after_tokens (trim t)))
    (subtype_cut : s ≡ if_token (subtype_before b)) where
  told : SlashTold (trim t) b
  told = subst (SlashTold (trim t)) (sym after_cut) (slash_told (trim t))

  pub no_tokens : ((length a == 0) ≡ true) ⊎ ((length s == 0) ≡ true) → (is_a_token (type_text t) && is_a_token (subtype_text t)) ≡ false
  no_tokens none = cases told none
    where
      cases : SlashTold (trim t) b → ((length a == 0) ≡ true) ⊎ ((length s == 0) ≡ true) → (is_a_token (type_text t) && is_a_token (subtype_text t)) ≡ false
      cases (inl (f, g)) (inl no_type) =
          ap (λ x. is_a_token x && is_a_token (subtype_text t)) (f ∙ (sym type_cut ∙ no_length a no_type))
      cases (inl (f, g)) (inr no_subtype) =
          and_not (is_a_token (type_text t)) (is_a_token (subtype_text t))
          (ap (λ x. is_a_token (subtype_before x)) g ∙ if_nothing (subtype_before b) (sym subtype_cut ∙ no_length s no_subtype))
      cases (inr (none, bad)) some =
          both_or_none (nat_lt 0 (length (type_text t))) (list_all is_token (type_text t)) (is_a_token (subtype_text t)) bad

  -- what is read of them
  pub record Said (tail : List ℕ) : Type 0 where
    pub type_is : a ≡ type_text t
    pub subtype_is : s ≡ subtype_text t
    pub tail_is : tail ≡ tail_text t
    pub type_token : is_a_token a ≡ true
    pub subtype_token : is_a_token s ≡ true

  pub said : (tail : List ℕ) → (IsTrue (is_a_token (subtype_before b)) → tail ≡ after is_semicolon b) → (length a == 0) ≡ false → (length s == 0) ≡ false → Said tail
  said tail tail_cut some_type some_subtype = cases told
    where
      token : is_a_token (subtype_before b) ≡ true
      token = if_something (subtype_before b) (ap (λ x. length x == 0) (sym subtype_cut) ∙ some_subtype)

      itself : s ≡ subtype_before b
      itself = subtype_cut ∙ ap (λ y. cond y (subtype_before b) []) token

      cases : SlashTold (trim t) b → Said tail
      cases (inl (f, g)) = record {
        type_is = type_cut ∙ sym f;
        subtype_is = itself ∙ ap subtype_before (sym g);
        tail_is = tail_cut token ∙ ap (after is_semicolon) (sym g);
        type_token =
            ap (λ n. n && list_all is_token a) (some_length a some_type) ∙ (ap (list_all is_token) type_cut ∙ all_before is_token (trim t));
        subtype_token = ap is_a_token itself ∙ token;
      }
      cases (inr (none, bad)) = absurd (false≢true (sym (ap (λ x. is_a_token (subtype_before x)) none) ∙ token))

pub equal_mime : (m n : Mime) → m.kind.type_name ≡ n.kind.type_name → m.kind.subtype ≡ n.kind.subtype → m.parameters ≡ n.parameters → m ≡ n
equal_mime m n e f g = one_mime m n (same_mime m.kind.type_name m.kind.subtype m.parameters n e f g)
