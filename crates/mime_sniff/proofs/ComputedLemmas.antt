-- What is asked is one question, and which answers may run scripts.
use Rattle.std.proofs.Common.{◌≡◌, ◌∙◌, ◌⊎◌, ◌==◌, ◌&&◌, ◌||◌, inl, inr, ℕ, suc, ◌+◌, ◌-◌, Bool, true, false, not, List, [], ◌∷◌, ◌++◌, Any, IfSome, IsTrue, Option, None, Some, ap, append_assoc, arith, codes, get_or, length, length-append, refl, subst, sym}
use Rattle.std.proofs.lemmas.Bool.{false≢true}
use Rattle.std.proofs.lemmas.List.{get_or-append-add}
use Rattle.std.specs.List.{list_all}
use Rattle.std.specs.Option.{option_or}
use Rattle.mime_types.specs.Groups.{IsAudioOrVideo, IsImage, essence}
use Rattle.mime_types.specs.Mime.{Kind}
use Rattle.mime_sniff.specs.Computed.{Answers, IsAsked, IsAskedOf, IsComputed, IsFinal, IsOther, IsScriptableText, IsSuppliedScriptable, IsUnknown, Supply, GivesScriptable, asked_of_unknown, otherwise, rules_of}
use Rattle.mime_sniff.specs.Laws.{MayEscalate}
use Rattle.mime_sniff.specs.Rule.{Accepts, Rule, FindsFirst}
use Rattle.mime_sniff.specs.Standard.{archives, header, marks, media, octets, scriptable, text_or_binary_rules, texts, unscripted}
use Rattle.mime_sniff.specs.Table.{images, sounds}
use Rattle.mime_sniff.specs.declared.question.Question.{Question}
use Rattle.mime_sniff.specs.declared.question.Question.TheVariants.{Anything, Images, Media, Nothing, TextOrBinary, Unscripted}
use Rattle.mime_sniff.proofs.FirstLemmas.{one_first, finds_cases, told_passes}

-- no type is of two of these groups
text_image : (k : Kind) → k.type_name ≡ codes "text" → ¬ IsImage k
text_image k t i = let no : 0x74 ≡ 0x69 = ap (λ l. get_or l 0 0) (sym t ∙ i) in absurd (omega (arith, no))

text_media : (k : Kind) → k.type_name ≡ codes "text" → ¬ IsAudioOrVideo k
text_media k t (inl a) = let no : 0x74 ≡ 0x61 = ap (λ l. get_or l 0 0) (sym t ∙ a) in absurd (omega (arith, no))
text_media k t (inr (inl v)) = let no : 0x74 ≡ 0x76 = ap (λ l. get_or l 0 0) (sym t ∙ v) in absurd (omega (arith, no))
text_media k t (inr (inr o)) = let no : 0x74 ≡ 0x61 = ap (λ l. get_or l 0 0) (sym t ∙ o.0) in absurd (omega (arith, no))

image_media : (k : Kind) → IsImage k → ¬ IsAudioOrVideo k
image_media k i (inl a) = let no : 0x69 ≡ 0x61 = ap (λ l. get_or l 0 0) (sym i ∙ a) in absurd (omega (arith, no))
image_media k i (inr (inl v)) = let no : 0x69 ≡ 0x76 = ap (λ l. get_or l 0 0) (sym i ∙ v) in absurd (omega (arith, no))
image_media k i (inr (inr o)) = let no : 0x69 ≡ 0x61 = ap (λ l. get_or l 0 0) (sym i ∙ o.0) in absurd (omega (arith, no))

-- of a known type one question is asked
module _ (s : Supply) (k : Kind) where
  not_nothing : (q : Question) → ((¬ IsFinal s k) × (¬ IsOther s k)) → ¬ IsAskedOf s k Nothing
  not_nothing q not (inl final) = not.0 final
  not_nothing q not (inr other) = not.1 other

  one_of_known : (q r : Question) → IsAskedOf s k q → IsAskedOf s k r → q ≡ r
  one_of_known TextOrBinary TextOrBinary h g = refl
  one_of_known TextOrBinary Images h g = absurd (text_image k h.1.0.0 g.1)
  one_of_known TextOrBinary Media h g = absurd (text_media k h.1.0.0 g.1)
  one_of_known TextOrBinary Nothing h g = absurd (not_nothing TextOrBinary (h.0, λ other. other.0 h.1) g)
  one_of_known TextOrBinary other h g = absurd g
  one_of_known Images TextOrBinary h g = absurd (text_image k g.1.0.0 h.1)
  one_of_known Images Images h g = refl
  one_of_known Images Media h g = absurd (image_media k h.1 g.1)
  one_of_known Images Nothing h g = absurd (not_nothing Images (h.0, λ other. other.1 h.1) g)
  one_of_known Images other h g = absurd g
  one_of_known Media TextOrBinary h g = absurd (text_media k g.1.0.0 h.1)
  one_of_known Media Images h g = absurd (image_media k g.1 h.1)
  one_of_known Media Media h g = refl
  one_of_known Media Nothing h g = absurd (not_nothing Media (h.0, λ other. other.2 h.1) g)
  one_of_known Media other h g = absurd g
  one_of_known Nothing TextOrBinary h g = absurd (not_nothing TextOrBinary (g.0, λ other. other.0 g.1) h)
  one_of_known Nothing Images h g = absurd (not_nothing Images (g.0, λ other. other.1 g.1) h)
  one_of_known Nothing Media h g = absurd (not_nothing Media (g.0, λ other. other.2 g.1) h)
  one_of_known Nothing Nothing h g = refl
  one_of_known Nothing other h g = absurd g
  one_of_known other r h g = absurd h

one_if_some : (s : Supply) (q r : Question) (kind : Option Kind) → (¬ IsUnknown kind) → IfSome kind (λ k. IsAskedOf s k q) → IfSome kind (λ k. IsAskedOf s k r) → q ≡ r
one_if_some s q r None known h g = absurd (known tt)
one_if_some s q r (Some k) known h g = one_of_known s k q r h g

pub one_question : (s : Supply) (q r : Question) → IsAsked s q → IsAsked s r → q ≡ r
one_question s q r (inl (unknown, h)) (inl (also, g)) = h ∙ sym g
one_question s q r (inl (unknown, h)) (inr (known, g)) = absurd (known unknown)
one_question s q r (inr (known, h)) (inl (unknown, g)) = absurd (known unknown)
one_question s q r (inr (known, h)) (inr (also, g)) = one_if_some s q r s.kind known h g

-- and it has one answer
pub one_answer : (q : Question) (b : List ℕ) (t u : Option (List ℕ)) → Answers q b t → Answers q b u → t ≡ u
one_answer q b t u (first, h, e) (other, g, f) = e ∙ (ap (λ o. option_or o (otherwise q)) (one_first (Accepts b) (rules_of q) first other h g) ∙ sym f)

-- a text that, by its last two bytes, is that of no type that may run scripts
abbrev is_safe_end : ℕ → ℕ → Bool
is_safe_end last before = not (last == 0x6C || (last == 0x66 && before == 0x64))

abbrev pub is_safe : List ℕ → Bool
is_safe t = is_safe_end (get_or t (length t - 1) 0) (get_or t (length t - 2) 0)

not_is : (k : Kind) (v w t : List ℕ) → k.type_name ≡ v → k.subtype ≡ w → essence k ≡ t → is_safe (v ++ 0x2F ∷ w) ≡ false → is_safe t ≡ true → ⊥
not_is k v w t a b e unsafe safe =
    let whole : v ++ 0x2F ∷ w ≡ t = ap (λ x. x ++ 0x2F ∷ w) (sym a) ∙ (ap (λ y. k.type_name ++ 0x2F ∷ y) (sym b) ∙ e) in
    false≢true (sym unsafe ∙ (ap is_safe whole ∙ safe))

not_xml_ending : (front t : List ℕ) → front ++ codes "+xml" ≡ t → is_safe t ≡ true → ⊥
not_xml_ending front t e safe =
    let long : length t ≡ length front + 4 = ap length (sym e) ∙ length-append front (codes "+xml") in
    let at : length front + 3 ≡ length t - 1 = omega (arith, long) in
    let last : get_or t (length t - 1) 0 ≡ 0x6C =
    ap (λ i. get_or t i 0) (sym at) ∙ (ap (λ l. get_or l (length front + 3) 0) (sym e) ∙ get_or-append-add front (codes "+xml") 3 0) in
    false≢true (subst (λ x. is_safe_end x (get_or t (length t - 2) 0) ≡ true) last safe)

pub not_scriptable : (t : List ℕ) → is_safe t ≡ true → ¬ IsScriptableText t
not_scriptable t safe (k, e, inl (inl (start, ending))) =
    let whole : (k.type_name ++ 0x2F ∷ start) ++ codes "+xml" ≡ t =
    append_assoc k.type_name (0x2F ∷ start) (codes "+xml") ∙ (ap (λ y. k.type_name ++ 0x2F ∷ y) (sym ending) ∙ e) in
    not_xml_ending (k.type_name ++ 0x2F ∷ start) t whole safe
not_scriptable t safe (k, e, inl (inr (inl (a, b)))) = not_is k (codes "text") (codes "xml") t a b e refl safe
not_scriptable t safe (k, e, inl (inr (inr (a, b)))) = not_is k (codes "application") (codes "xml") t a b e refl safe
not_scriptable t safe (k, e, inr (inl (a, b))) = not_is k (codes "text") (codes "html") t a b e refl safe
not_scriptable t safe (k, e, inr (inr (a, b))) = not_is k (codes "application") (codes "pdf") t a b e refl safe

abbrev is_safe_rule : Rule → Bool
is_safe_rule r = is_safe r.mime_type

abbrev is_safe_told : Option (List ℕ) → Bool
is_safe_told None = true
is_safe_told (Some t) = is_safe t

-- where no rule tells a type that may run scripts, only the supplied type may
module _ (s : Supply) where
  safe_told : (told : Option (List ℕ)) → is_safe_told told ≡ true → GivesScriptable s told → IsSuppliedScriptable s
  safe_told None safe is = is
  safe_told (Some t) safe is = absurd (not_scriptable t safe is)

  safe_first : (rules : List Rule) (b : List ℕ) (else_told first told : Option (List ℕ)) → list_all is_safe_rule rules ≡ true → is_safe_told else_told ≡ true
      → FindsFirst (Accepts b) rules first → told ≡ option_or first else_told → GivesScriptable s told → IsSuppliedScriptable s
  safe_first rules b else_told None told safe else_safe h e is = safe_told else_told else_safe (subst (λ o. GivesScriptable s o) e is)
  safe_first rules b else_told (Some t) told safe else_safe h e is =
      let (rule, passes, same) = told_passes (Accepts b) is_safe_rule rules t safe h in
      safe_told (Some t) (ap is_safe (sym same) ∙ passes) (subst (λ o. GivesScriptable s o) e is)

  pub safe_answer : (q : Question) (b : List ℕ) (told : Option (List ℕ)) → list_all is_safe_rule (rules_of q) ≡ true → is_safe_told (otherwise q) ≡ true
      → Answers q b told → GivesScriptable s told → IsSuppliedScriptable s
  safe_answer q b told safe else_safe (first, h, e) is = safe_first (rules_of q) b (otherwise q) first told safe else_safe h e is

-- the first of some rules is one of the first of them, or of the others
split_first : (P : Rule → Type 0) (xs ys : List Rule) (t : List ℕ) → FindsFirst P (xs ++ ys) (Some t) → Any P xs ⊎ FindsFirst P ys (Some t)
split_first P [] ys t h = inr h
split_first P (x ∷ xs) ys t h =
    elim (finds_cases P x (xs ++ ys) (Some t) h) [
      | inl (p, is) ↦ inl (0, x, omega arith, refl, p)
      | inr (not, rest) ↦ elim (split_first P xs ys t rest) [
        | inl (n, y, within, at, p) ↦ inl (suc n, y, omega (arith, within), at, p)
        | inr later ↦ inr later
      ]
    ]

all_unscripted : list_all is_safe_rule unscripted ≡ true
unfolding texts images sounds archives
all_unscripted = refl

all_images : list_all is_safe_rule images ≡ true
unfolding images
all_images = refl

all_media : list_all is_safe_rule media ≡ true
unfolding sounds
all_media = refl

all_texts : list_all is_safe_rule text_or_binary_rules ≡ true
unfolding marks
all_texts = refl

module _ (s : Supply) (b : List ℕ) (told : Option (List ℕ)) (is : GivesScriptable s told) where
  -- of nothing that is known
  of_anything : IsUnknown s.kind → (¬ IsTrue s.no_sniff) → Answers Anything (header b) told → IsSuppliedScriptable s ⊎ MayEscalate s b
  of_anything unknown may (None, h, e) = inl (safe_told s (Some octets) refl (subst (λ o. GivesScriptable s o) e is))
  of_anything unknown may (Some t, h, e) =
      elim (split_first (Accepts (header b)) scriptable unscripted t h) [
        | inl some ↦ inr (unknown, may, some)
        | inr later ↦ inl (safe_answer s Unscripted (header b) told all_unscripted refl (Some t, later, e) is)
      ]

  of_unknown : (no_sniff : Bool) → s.no_sniff ≡ no_sniff → (q : Question) → IsUnknown s.kind → q ≡ asked_of_unknown no_sniff → Answers q (header b) told
      → IsSuppliedScriptable s ⊎ MayEscalate s b
  of_unknown true forbidden q unknown e h =
      inl (safe_answer s Unscripted (header b) told all_unscripted refl (subst (λ r. Answers r (header b) told) e h) is)
  of_unknown false allowed q unknown e h =
      of_anything unknown (λ t. false≢true (sym allowed ∙ t)) (subst (λ r. Answers r (header b) told) e h)

  of_known : (k : Kind) (q : Question) → IsAskedOf s k q → Answers q (header b) told → IsSuppliedScriptable s
  of_known k TextOrBinary asked h = safe_answer s TextOrBinary (header b) told all_texts refl h is
  of_known k Images asked h = safe_answer s Images (header b) told all_images refl h is
  of_known k Media asked h = safe_answer s Media (header b) told all_media refl h is
  of_known k Nothing asked h = safe_answer s Nothing (header b) told refl refl h is
  of_known k other asked h = absurd asked

  of_some : (kind : Option Kind) (q : Question) → (¬ IsUnknown kind) → IfSome kind (λ k. IsAskedOf s k q) → Answers q (header b) told → IsSuppliedScriptable s
  of_some None q known asked h = absurd (known tt)
  of_some (Some k) q known asked h = of_known k q asked h

  pub escalates : (q : Question) → IsAsked s q → Answers q (header b) told → IsSuppliedScriptable s ⊎ MayEscalate s b
  escalates q (inl (unknown, e)) h = of_unknown s.no_sniff refl q unknown e h
  escalates q (inr (known, asked)) h = inl (of_some s.kind q known asked h)

-- the type that is told is that of a rule
any_told : (P : Rule → Type 0) (rules : List Rule) (t : List ℕ) → FindsFirst P rules (Some t) → Any (λ r. Some t ≡ Some r.mime_type) rules
any_told P [] t h = let (rule, passes, is) = told_passes P (λ r. false) [] t refl h in absurd (false≢true passes)
any_told P (x ∷ rules) t h =
    elim (finds_cases P x rules (Some t) h) [
      | inl (p, is) ↦ (0, x, omega arith, refl, is)
      | inr (not, rest) ↦ let (n, y, within, at, is) = any_told P rules t rest in (suc n, y, omega (arith, within), at, is)
    ]

told_of : (q : Question) (b : List ℕ) (told : Option (List ℕ)) → Answers q b told
    → (told ≡ otherwise q) ⊎ Any (λ r. told ≡ Some r.mime_type) (rules_of q)
told_of q b told (None, h, e) = inl e
told_of q b told (Some t, h, e) = inr (subst (λ o. Any (λ r. o ≡ Some r.mime_type) (rules_of q)) (sym e) (any_told (Accepts b) (rules_of q) t h))

pub stays_of_kind : (s : Supply) (k : Kind) (q : Question) (b : List ℕ) (told : Option (List ℕ)) → s.kind ≡ Some k → (¬ IsUnknown s.kind) → IsAskedOf s k q
    → IsComputed s b told → (told ≡ otherwise q) ⊎ Any (λ r. told ≡ Some r.mime_type) (rules_of q)
stays_of_kind s k q b told is known asked (r, also, h) =
    let this : IsAsked s q = inr (known, subst (λ kind. IfSome kind (λ k. IsAskedOf s k q)) (sym is) asked) in
    told_of q (header b) told (subst (λ x. Answers x (header b) told) (one_question s r q also this) h)
