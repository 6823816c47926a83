-- What pieces say together.
use Rattle.std.proofs.Common.{◌≡◌, ◌∙◌, ◌++◌, ◌&&◌, ◌∷◌, [], ℕ, List, Bool, Option, None, Some, true, false, ap, append_assoc, codes, if◌then◌else◌, not, option_to_list, refl, subst, sym}
use Rattle.std.proofs.lemmas.Bool.{and_parts, false≢true}
use Rattle.std.proofs.lemmas.List.{append-nil}
use Rattle.std.proofs.lemmas.List.Elements.{All-append, All-cons, All-nil}
use Rattle.std.proofs.lemmas.Slice.Eq.{bytes_eq-Decides}
use Rattle.std.specs.List.{All}
use Rattle.std.specs.Str.{bytes_eq}
use Rattle.mime_types.specs.Extracted.{IsLastRun, IsLastView, is_any, is_said, mime_said, said, texts, usable, usable_text}
use Rattle.mime_types.specs.Groups.{Is}
use Rattle.mime_types.specs.Mime.{Kind, Mime, Parameter}
use Rattle.mime_types.specs.Parse.{Parsed, subtype_text, tail_text, type_text}
use Rattle.mime_types.specs.Text.{is_a_token, lower}
use Rattle.mime_types.specs.Parameters.{parameters}
use Rattle.mime_types.specs.declared.extraction.Run.{Run}

any_cases : (k : Kind) (b : Bool) → is_any k ≡ b → (¬ Is (codes "*") (codes "*") k) → b ≡ false
any_cases k true is not =
    let parts = and_parts (bytes_eq k.type_name (codes "*")) (bytes_eq k.subtype (codes "*")) is in
    absurd (not ((bytes_eq-Decides k.type_name (codes "*")).0 parts.0, (bytes_eq-Decides k.subtype (codes "*")).0 parts.1))
any_cases k false is not = refl

any_is : (k : Kind) → Is (codes "*") (codes "*") k → is_any k ≡ true
any_is k (a, b) =
    ap (λ x. x && bytes_eq k.subtype (codes "*")) ((bytes_eq-Decides k.type_name (codes "*")).1 a) ∙ (bytes_eq-Decides k.subtype (codes "*")).1 b

abbrev mime_of_parts : List ℕ → List ℕ → List Parameter → Mime
mime_of_parts a b c = record { kind = record { type_name = a; subtype = b }; parameters = c }

module _ (t : List ℕ) where
  -- what is parsed is what the piece says
  same_said : (m : Mime) → Parsed t m → mime_said t ≡ m
  same_said m p =
      ap (λ a. mime_of_parts a (lower (subtype_text t)) (parameters (tail_text t))) (sym p.type_name)
      ∙ (ap (λ b. mime_of_parts m.kind.type_name b (parameters (tail_text t))) (sym p.subtype)
      ∙ ap (λ c. mime_of_parts m.kind.type_name m.kind.subtype c) (sym p.all))

  is_parsed : (m : Mime) → Parsed t m → is_said t ≡ true
  is_parsed m p = ap (λ x. x && is_a_token (subtype_text t)) p.type_token ∙ p.subtype_token

  pub usable_any : (m : Mime) → Parsed t m → Is (codes "*") (codes "*") m.kind → None ≡ usable t
  usable_any m p any =
      let is : is_any (mime_said t).kind ≡ true = ap (λ x. is_any x.kind) (same_said m p) ∙ any_is m.kind any in
      sym (ap (λ x. if x && not (is_any (mime_said t).kind) then Some (mime_said t) else None) (is_parsed m p)
      ∙ ap (λ x. if not x then Some (mime_said t) else None) is)

  pub usable_other : (m : Mime) → Parsed t m → (¬ Is (codes "*") (codes "*") m.kind) → Some m ≡ usable t
  usable_other m p other =
      let e : is_any (mime_said t).kind ≡ false = ap (λ x. is_any x.kind) (same_said m p) ∙ not_any m other in
      sym (ap (λ x. if x && not (is_any (mime_said t).kind) then Some (mime_said t) else None) (is_parsed m p)
      ∙ (ap (λ x. if not x then Some (mime_said t) else None) e ∙ ap Some (same_said m p)))
    where
      not_any : (m : Mime) → (¬ Is (codes "*") (codes "*") m.kind) → is_any m.kind ≡ false
      not_any m other = cases (is_any m.kind) refl
        where
          cases : (b : Bool) → is_any m.kind ≡ b → b ≡ false
          cases b e = any_cases m.kind b e other

  pub text_any : (m : Mime) → Parsed t m → Is (codes "*") (codes "*") m.kind → None ≡ usable_text t
  text_any m p any =
      let is : is_any (mime_said t).kind ≡ true = ap (λ x. is_any x.kind) (same_said m p) ∙ any_is m.kind any in
      sym (ap (λ x. if x && not (is_any (mime_said t).kind) then Some t else None) (is_parsed m p)
      ∙ ap (λ x. if not x then Some t else None) is)

  pub text_other : (m : Mime) → Parsed t m → (¬ Is (codes "*") (codes "*") m.kind) → Some t ≡ usable_text t
  text_other m p other =
      let e : is_any (mime_said t).kind ≡ false = ap (λ x. is_any x.kind) (same_said m p) ∙ any_cases m.kind (is_any m.kind) refl other in
      sym (ap (λ x. if x && not (is_any (mime_said t).kind) then Some t else None) (is_parsed m p)
      ∙ ap (λ x. if not x then Some t else None) e)

  text_cases : (a b : Bool) → is_a_token (type_text t) ≡ a → is_a_token (subtype_text t) ≡ b → ((m : Mime) → ¬ Parsed t m)
      → None ≡ (if (a && b) && not (is_any (mime_said t).kind) then Some t else None)
  text_cases true true x y none =
      absurd (none (mime_said t) (record { type_token = x; subtype_token = y; type_name = refl; subtype = refl; all = refl }))
  text_cases true false x y none = refl
  text_cases false b x y none = refl

  pub text_none : ((m : Mime) → ¬ Parsed t m) → None ≡ usable_text t
  text_none none = text_cases (is_a_token (type_text t)) (is_a_token (subtype_text t)) refl refl none

  none_cases : (a b : Bool) → is_a_token (type_text t) ≡ a → is_a_token (subtype_text t) ≡ b → ((m : Mime) → ¬ Parsed t m)
      → None ≡ (if (a && b) && not (is_any (mime_said t).kind) then Some (mime_said t) else None)
  none_cases true true x y none =
      absurd (none (mime_said t) (record { type_token = x; subtype_token = y; type_name = refl; subtype = refl; all = refl }))
  none_cases true false x y none = refl
  none_cases false b x y none = refl

  pub usable_none : ((m : Mime) → ¬ Parsed t m) → None ≡ usable t
  usable_none none = none_cases (is_a_token (type_text t)) (is_a_token (subtype_text t)) refl refl none

-- what pieces and those after them say
pub said_append : (ps qs : List (List ℕ)) → said (ps ++ qs) ≡ said ps ++ said qs
said_append [] qs = refl
said_append (p ∷ ps) qs = ap (λ ms. option_to_list (usable p) ++ ms) (said_append ps qs) ∙ sym (append_assoc (option_to_list (usable p)) (said ps) (said qs))

texts_append : (ps qs : List (List ℕ)) → texts (ps ++ qs) ≡ texts ps ++ texts qs
texts_append [] qs = refl
texts_append (p ∷ ps) qs =
    ap (λ ts. option_to_list (usable_text p) ++ ts) (texts_append ps qs) ∙ sym (append_assoc (option_to_list (usable_text p)) (texts ps) (texts qs))

pub view_more : (done : List (List ℕ)) (p : List ℕ) (run next : Option Run)
    → ((ts : List (List ℕ)) → IsLastView ts run → IsLastView (ts ++ option_to_list (usable_text p)) next) → IsLastView (texts done) run
    → IsLastView (texts (done ++ p ∷ [])) next
view_more done p run next step is =
    let e : texts done ++ option_to_list (usable_text p) ≡ texts (done ++ p ∷ []) =
    ap (λ l. texts done ++ l) (sym (append-nil (option_to_list (usable_text p)))) ∙ sym (texts_append done (p ∷ [])) in
    subst (λ ts. IsLastView ts next) e (step (texts done) is)

-- one piece more
pub run_more : (done : List (List ℕ)) (p : List ℕ) (run next : Option Run)
    → ((ms : List Mime) → IsLastRun ms run → IsLastRun (ms ++ option_to_list (usable p)) next) → IsLastRun (said done) run → IsLastRun (said (done ++ p ∷ [])) next
run_more done p run next step is =
    let e : said done ++ option_to_list (usable p) ≡ said (done ++ p ∷ []) =
    ap (λ l. said done ++ l) (sym (append-nil (option_to_list (usable p)))) ∙ sym (said_append done (p ∷ [])) in
    subst (λ ms. IsLastRun ms next) e (step (said done) is)

abbrev IsOther : Mime → Type 0
IsOther m = ¬ Is (codes "*") (codes "*") m.kind

-- what is said without an empty last piece, and that no piece says "*/*"
pub said_without_last : (ps : List (List ℕ)) → said ps ≡ said (ps ++ [] ∷ [])
said_without_last ps = sym (said_append ps ([] ∷ []) ∙ append-nil (said ps))

no_stars : (p : List ℕ) → All IsOther (option_to_list (usable p))
no_stars p = cases (is_said p) (is_any (mime_said p).kind) refl
  where
    cases : (a b : Bool) → is_any (mime_said p).kind ≡ b
        → All IsOther (option_to_list (if a && not b then Some (mime_said p) else None))
    cases true true e = All-nil IsOther
    cases true false e = All-cons IsOther (mime_said p) [] (λ any. absurd (false≢true (sym e ∙ any_is (mime_said p).kind any))) (All-nil IsOther)
    cases false b e = All-nil IsOther

pub says_no_stars : (ps : List (List ℕ)) → All IsOther (said ps)
says_no_stars [] = All-nil IsOther
says_no_stars (p ∷ ps) = All-append IsOther (option_to_list (usable p)) (said ps) (no_stars p) (says_no_stars ps)
