-- The parameters that count all count again.
use Rattle.std.proofs.Common.{◌≡◌, ◌||◌, ◌&&◌, ◌∙◌, ◌++◌, ◌∷◌, [], ℕ, zero, suc, List, Bool, Option, None, Some, true, false, ap, not, option_map, option_to_list, refl, subst, sym}
use Rattle.std.proofs.lemmas.Bool.{and_parts, false≢true}
use Rattle.std.proofs.lemmas.List.Folds.{list_any-append}
use Rattle.std.proofs.lemmas.Str.Ascii.{lowercase-lowercase}
use Rattle.std.specs.Char.{to_ascii_lowercase}
use Rattle.std.specs.List.{AllByRecursion, list_all, list_any}
use Rattle.mime_types.specs.Bytes.{is_quotable}
use Rattle.mime_types.specs.Mime.{Parameter}
use Rattle.mime_types.specs.Parameters.{is_first, is_named, is_valid, kept}
use Rattle.mime_types.specs.Segment.{AsWritten, parameter_said, segment, stands, written_by}
use Rattle.mime_types.specs.Text.{is_a_token, lower}
use Rattle.mime_types.proofs.FirstLemmas.{kept_case, or_true}
use Rattle.mime_types.proofs.JoinLemmas.{Clean}

pub lower_again : (s : List ℕ) → lower (lower s) ≡ lower s
lower_again [] = refl
lower_again (x ∷ s) = ap (λ y. y ∷ lower (lower s)) (lowercase-lowercase x) ∙ ap (λ t. to_ascii_lowercase x ∷ t) (lower_again s)

abbrev pub IsLower : Parameter → Type 0
IsLower p = lower p.name ≡ p.name

abbrev OptionLower : Option Parameter → Type 0
OptionLower None = Unit {0}
OptionLower (Some p) = IsLower p

said_lower : (o : Option AsWritten) → OptionLower (option_map parameter_said o)
said_lower None = tt
said_lower (Some p) = lower_again p.name

segment_lower : (s : List ℕ) → OptionLower (segment s).written
unfolding segment
segment_lower s = said_lower (stands s).parameter

option_all : (o : Option Parameter) (ps : List Parameter) → OptionLower o → AllByRecursion IsLower ps → AllByRecursion IsLower (option_to_list o ++ ps)
option_all None ps here all = all
option_all (Some p) ps here all = (here, all)

pub written_lower : (n : ℕ) (s : List ℕ) → AllByRecursion IsLower (written_by n s)
unfolding written_by
written_lower zero s = tt
written_lower (suc n) s = option_all (segment s).written (written_by n (segment s).rest) (segment_lower s) (written_lower n (segment s).rest)

clean_step : (e : List Parameter) (p : Parameter) (ws : List Parameter) (b : Bool) → is_first e p ≡ b → IsLower p
    → AllByRecursion Clean (kept (e ++ p ∷ []) ws) → AllByRecursion Clean (kept e (p ∷ ws))
clean_step e p ws true is low rest =
    let valid = (and_parts (is_valid p) (not (list_any (is_named p.name) e)) is).0 in
    let token = (and_parts (is_a_token p.name) (list_all is_quotable p.value) valid).0 in
    subst (AllByRecursion Clean) (sym (kept_case e p ws true is)) (record { token = token; lowered = low }, rest)
clean_step e p ws false is low rest = subst (AllByRecursion Clean) (sym (kept_case e p ws false is)) rest

none_kept : (e : List Parameter) → kept e [] ≡ []
unfolding kept
none_kept e = refl

pub kept_clean : (e ws : List Parameter) → AllByRecursion IsLower ws → AllByRecursion Clean (kept e ws)
kept_clean e [] all = subst (AllByRecursion Clean) (sym (none_kept e)) tt
kept_clean e (p ∷ ws) all = clean_step e p ws (is_first e p) refl all.0 (kept_clean (e ++ p ∷ []) ws all.1)

or_less : (a b c : Bool) → (a ≡ true → c ≡ true) → (a || b) ≡ true → (c || b) ≡ true
or_less true b c less h = ap (λ x. x || b) (less refl)
or_less false b c less h = ap (λ x. c || x) h ∙ or_true c

less_both : (f e : List Parameter) (p : Parameter) → ((name : List ℕ) → list_any (is_named name) f ≡ true → list_any (is_named name) e ≡ true)
    → (name : List ℕ) → list_any (is_named name) (f ++ p ∷ []) ≡ true → list_any (is_named name) (e ++ p ∷ []) ≡ true
less_both f e p less name h =
    list_any-append (is_named name) e (p ∷ [])
    ∙ or_less (list_any (is_named name) f) (list_any (is_named name) (p ∷ [])) (list_any (is_named name) e) (less name)
    (sym (list_any-append (is_named name) f (p ∷ [])) ∙ h)

less_more : (f e : List Parameter) (p : Parameter) → ((name : List ℕ) → list_any (is_named name) f ≡ true → list_any (is_named name) e ≡ true)
    → (name : List ℕ) → list_any (is_named name) f ≡ true → list_any (is_named name) (e ++ p ∷ []) ≡ true
less_more f e p less name h =
    list_any-append (is_named name) e (p ∷ []) ∙ ap (λ x. x || list_any (is_named name) (p ∷ [])) (less name h)

none_less : (a c : Bool) → (a ≡ true → c ≡ true) → not c ≡ true → not a ≡ true
none_less true c less h = absurd (false≢true (ap not (sym (less refl)) ∙ h))
none_less false c less h = refl

first_less : (f e : List Parameter) (p : Parameter) → ((name : List ℕ) → list_any (is_named name) f ≡ true → list_any (is_named name) e ≡ true)
    → is_first e p ≡ true → is_first f p ≡ true
first_less f e p less is =
    let parts = and_parts (is_valid p) (not (list_any (is_named p.name) e)) is in
    ap (λ b. b && not (list_any (is_named p.name) f)) parts.0
    ∙ none_less (list_any (is_named p.name) f) (list_any (is_named p.name) e) (less p.name) parts.1

again_step : (f e : List Parameter) (p : Parameter) (ws : List Parameter) (b : Bool) → is_first e p ≡ b
    → ((name : List ℕ) → list_any (is_named name) f ≡ true → list_any (is_named name) e ≡ true)
    → kept (f ++ p ∷ []) (kept (e ++ p ∷ []) ws) ≡ kept (e ++ p ∷ []) ws → kept f (kept (e ++ p ∷ []) ws) ≡ kept (e ++ p ∷ []) ws
    → kept f (kept e (p ∷ ws)) ≡ kept e (p ∷ ws)
again_step f e p ws true is less counts skips =
    let q = kept (e ++ p ∷ []) ws in
    let now : kept f (p ∷ q) ≡ p ∷ q = kept_case f p q true (first_less f e p less is) ∙ ap (λ x. p ∷ x) counts in
    subst (λ x. kept f x ≡ x) (sym (kept_case e p ws true is)) now
again_step f e p ws false is less counts skips = subst (λ x. kept f x ≡ x) (sym (kept_case e p ws false is)) skips

pub kept_again : (f e ws : List Parameter) → ((name : List ℕ) → list_any (is_named name) f ≡ true → list_any (is_named name) e ≡ true)
    → kept f (kept e ws) ≡ kept e ws
kept_again f e [] less = ap (kept f) (none_kept e) ∙ (none_kept f ∙ sym (none_kept e))
kept_again f e (p ∷ ws) less =
    again_step f e p ws (is_first e p) refl less (kept_again (f ++ p ∷ []) (e ++ p ∷ []) ws (less_both f e p less))
    (kept_again f (e ++ p ∷ []) ws (less_more f e p less))
