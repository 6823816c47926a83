-- No type that is told is JavaScript.
use Rattle.std.proofs.Common.{◌≡◌, ◌∙◌, ◌==◌, ◌&&◌, ◌||◌, inl, inr, ℕ, ◌-◌, Bool, true, false, not, List, ◌∷◌, ◌++◌, Any, IfSome, Option, None, Some, ap, codes, get_or, length, refl, subst, sym}
use Rattle.std.proofs.lemmas.Bool.{false≢true}
use Rattle.std.proofs.lemmas.List.Sums.{AllPass-from_list_all}
use Rattle.std.specs.List.{list_all}
use Rattle.std.specs.Option.{option_or}
use Rattle.mime_types.specs.Groups.{IsJavaScript, application_scripts, essence, text_scripts}
use Rattle.mime_types.specs.Mime.{Kind}
use Rattle.mime_types.specs.Text.{lower}
use Rattle.mime_sniff.specs.Computed.{Answers, IsAsked, IsAskedOf, IsUnknown, Supply, asked_of_unknown, otherwise, rules_of}
use Rattle.mime_sniff.specs.Rule.{Accepts, Rule, FindsFirst}
use Rattle.mime_sniff.specs.Standard.{archives, documents, marks, media, scriptable, text_or_binary_rules, texts, unscripted}
use Rattle.mime_sniff.specs.Table.{images, sounds, tag_rules, xml_rules}
use Rattle.mime_sniff.specs.declared.question.Question.{Question}
use Rattle.mime_sniff.specs.declared.question.Question.TheVariants.{Anything, Images, Media, Nothing, TextOrBinary, Unscripted}
use Rattle.mime_sniff.proofs.FirstLemmas.{told_passes}

-- names of JavaScript end in "." and a digit, or in "script" with another letter than "t" in front of it
abbrev is_other_end : ℕ → ℕ → ℕ → Bool
is_other_end last before seventh = not (before == 0x2E || (last == 0x74 && not (seventh == 0x74)))

abbrev is_other : List ℕ → Bool
is_other t = is_other_end (get_or t (length t - 1) 0) (get_or t (length t - 2) 0) (get_or t (length t - 7) 0)

abbrev is_ended : List ℕ → List ℕ → Bool
is_ended v w = not (is_other (v ++ 0x2F ∷ lower w))

of_words : (v : List ℕ) (ws : List (List ℕ)) (k : Kind) → list_all (is_ended v) ws ≡ true → k.type_name ≡ v → Any (λ w. k.subtype ≡ lower w) ws
    → is_other (essence k) ≡ true → ⊥
of_words v ws k all is (n, w, within, at, same) safe =
    let whole : essence k ≡ v ++ 0x2F ∷ lower w = ap (λ x. x ++ 0x2F ∷ k.subtype) is ∙ ap (λ y. v ++ 0x2F ∷ y) same in
    let passes : is_ended v w ≡ true = sym (ap (is_ended v) at) ∙ AllPass-from_list_all (is_ended v) ws all n w within in
    false≢true (ap not (sym (ap is_other (sym whole) ∙ safe)) ∙ passes)

no_script : (k : Kind) (t : List ℕ) → is_other t ≡ true → essence k ≡ t → ¬ IsJavaScript k
no_script k t safe e (inl (is, some)) = of_words (codes "application") application_scripts k refl is some (ap is_other e ∙ safe)
no_script k t safe e (inr (is, some)) = of_words (codes "text") text_scripts k refl is some (ap is_other e ∙ safe)

abbrev is_other_rule : Rule → Bool
is_other_rule r = is_other r.mime_type

abbrev is_other_told : Option (List ℕ) → Bool
is_other_told None = true
is_other_told (Some t) = is_other t

other_first : (rules : List Rule) (b : List ℕ) (else_told first : Option (List ℕ)) → list_all is_other_rule rules ≡ true → is_other_told else_told ≡ true
    → FindsFirst (Accepts b) rules first → is_other_told (option_or first else_told) ≡ true
other_first rules b else_told None all safe h = safe
other_first rules b else_told (Some t) all safe h =
    let (rule, passes, same) = told_passes (Accepts b) is_other_rule rules t all h in ap is_other (sym same) ∙ passes

all_anything : list_all is_other_rule (scriptable ++ unscripted) ≡ true
unfolding tag_rules xml_rules documents texts images sounds archives
all_anything = refl

all_unscripted : list_all is_other_rule unscripted ≡ true
unfolding texts images sounds archives
all_unscripted = refl

all_images : list_all is_other_rule images ≡ true
unfolding images
all_images = refl

all_media : list_all is_other_rule media ≡ true
unfolding sounds
all_media = refl

all_texts : list_all is_other_rule text_or_binary_rules ≡ true
unfolding marks
all_texts = refl

module _ (s : Supply) (b : List ℕ) (told : Option (List ℕ)) where
  of_question : (q : Question) → list_all is_other_rule (rules_of q) ≡ true → is_other_told (otherwise q) ≡ true → Answers q b told → is_other_told told ≡ true
  of_question q all safe (first, h, e) = ap is_other_told e ∙ other_first (rules_of q) b (otherwise q) first all safe h

  of_unknown : (no_sniff : Bool) (q : Question) → q ≡ asked_of_unknown no_sniff → Answers q b told → is_other_told told ≡ true
  of_unknown true q e h = of_question Unscripted all_unscripted refl (subst (λ r. Answers r b told) e h)
  of_unknown false q e h = of_question Anything all_anything refl (subst (λ r. Answers r b told) e h)

  of_known : (k : Kind) (q : Question) → IsAskedOf s k q → Answers q b told → is_other_told told ≡ true
  of_known k TextOrBinary asked h = of_question TextOrBinary all_texts refl h
  of_known k Images asked h = of_question Images all_images refl h
  of_known k Media asked h = of_question Media all_media refl h
  of_known k Nothing asked h = of_question Nothing refl refl h
  of_known k other asked h = absurd asked

  of_some : (kind : Option Kind) (q : Question) → (¬ IsUnknown kind) → IfSome kind (λ k. IsAskedOf s k q) → Answers q b told → is_other_told told ≡ true
  of_some None q known asked h = absurd (known tt)
  of_some (Some k) q known asked h = of_known k q asked h

  of_asked : (q : Question) → IsAsked s q → Answers q b told → is_other_told told ≡ true
  of_asked q (inl (unknown, e)) h = of_unknown s.no_sniff q e h
  of_asked q (inr (known, asked)) h = of_some s.kind q known asked h

pub told_no_script : (s : Supply) (b t : List ℕ) (k : Kind) (q : Question) → IsAsked s q → Answers q b (Some t) → essence k ≡ t → ¬ IsJavaScript k
told_no_script s b t k q asked h e = no_script k t (of_asked s b (Some t) q asked h) e
