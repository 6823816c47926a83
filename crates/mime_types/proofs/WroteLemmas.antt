-- Texts that are written one after the other.
use Rattle.std.proofs.Common.{◌≡◌, ◌==◌, ◌||◌, ◌∙◌, ◌++◌, ◌∷◌, [], ℕ, ◌+◌, ◌-◌, ◌≤◌, Bool, true, false, List, Option, None, Some, ap, append_assoc, arith, drop, if◌then◌else◌, length, length-append, option_map, subst, sym, take, refl}
use Rattle.std.proofs.Math.Seq.{take-append-add}
use Rattle.std.proofs.lemmas.List.{append-nil, drop_all, length-take-le, take-append-drop, take-append-le, take_all, take_at}
use Rattle.std.proofs.lemmas.Slice.{drop-append-drop}
use Rattle.mime_types.specs.Extracted.{carried, charset_of, mime_together}
use Rattle.mime_types.specs.Groups.{essence}
use Rattle.mime_types.specs.Mime.{Parameter}
use Rattle.mime_types.specs.Seen.{kind_of, mime_of, value_seen}
use Rattle.mime_types.specs.Serialize.{escaped, parameter_text, parameters_text, serialize}
use Rattle.mime_types.specs.Wrote.{Wrote, overlaid}
use Rattle.mime_types.specs.declared.extraction.Extracted.{Extracted}

-- three parts of a buffer
abbrev parts : List ℕ → List ℕ → List ℕ → List ℕ
parts x y z = x ++ (y ++ z)

pub wrote_nothing : (a : List ℕ) (at : ℕ) → at ≤ length a → Wrote a a at [] (Some at)
wrote_nothing a at within =
    let same : at ≡ at + 0 = omega arith in
    (omega arith, within, sym (ap (λ t. parts (take at a) t (drop (at + 0) a)) (take_all (length a - at) [] (omega arith)) ∙ (ap (λ n. take at a ++ drop n a) (sym same) ∙ take-append-drop at a)))

-- no room for x, and so none for more
pub no_room : (a b : List ℕ) (at : ℕ) (x y : List ℕ) → Wrote a b at x None → Wrote a b at (x ++ y) None
no_room a b at x y (short, is) =
    let many = length-append x y in
    let end : drop (at + length x) a ≡ drop (at + length (x ++ y)) a = drop_all (at + length x) a (omega (arith, short)) ∙ sym (drop_all (at + length (x ++ y)) a (omega (arith, short, many))) in (
      omega (arith, short, many),
      is ∙ (ap (λ z. parts (take at a) (take (length a - at) x) z) end
          ∙ ap (λ t. parts (take at a) t (drop (at + length (x ++ y)) a)) (sym (take-append-le (length a - at) x y (omega (arith, short))))),
    )

-- a buffer with x and then y
overlaid_both : (a b : List ℕ) (at end : ℕ) (x y : List ℕ) → length b ≡ length a → end ≡ at + length x → end ≤ length a → b ≡ overlaid a at x
    → overlaid b end y ≡ overlaid a at (x ++ y)
overlaid_both a b at end x y same ends within is =
    let front = take at a ++ x in
    let room = length b - end in
    let many = length-append x y in
    let start : length (take at a) ≡ at = length-take-le at a (omega (arith, ends, within)) in
    let long : length front ≡ end = omega (arith, length-append (take at a) x, start, ends) in
    let whole : b ≡ front ++ drop end a =
    is ∙ (ap (λ t. parts (take at a) t (drop (at + length x) a)) (take_all (length a - at) x (omega (arith, ends, within)))
    ∙ (sym (append_assoc (take at a) x (drop (at + length x) a)) ∙ ap (λ n. front ++ drop n a) (sym ends))) in
    let before : take end b ≡ front = ap (take end) whole ∙ take_at front (drop end a) end long in
    let more : length a - at ≡ length x + room = omega (arith, same, ends, within) in
    let middle : x ++ take room y ≡ take (length a - at) (x ++ y) = sym (ap (λ n. take n (x ++ y)) more ∙ take-append-add x y room) in
    let number : end + length y ≡ at + length (x ++ y) = omega (arith, ends, many) in
    let after : drop (end + length y) b ≡ drop (at + length (x ++ y)) a =
    ap (drop (end + length y)) whole ∙ (drop-append-drop end a front (end + length y) (omega arith) long ∙ ap (λ n. drop n a) number) in
    ap (λ s. parts s (take room y) (drop (end + length y) b)) before
    ∙ (ap (λ z. parts front (take room y) z) after
    ∙ (append_assoc (take at a) x (take room y ++ drop (at + length (x ++ y)) a)
    ∙ (ap (λ s. take at a ++ s) (sym (append_assoc x (take room y) (drop (at + length (x ++ y)) a)))
    ∙ ap (λ t. parts (take at a) t (drop (at + length (x ++ y)) a)) middle)))

-- y after x
pub wrote_both : (a b c : List ℕ) (at end : ℕ) (x y : List ℕ) (o : Option ℕ) → length b ≡ length a → Wrote a b at x (Some end) → Wrote b c end y o → Wrote a c at (x ++ y) o
wrote_both a b c at end x y None same (ends, within, is) (short, also) =
    (omega (arith, same, ends, short, length-append x y), also ∙ overlaid_both a b at end x y same ends within is)
wrote_both a b c at end x y (Some last) same (ends, within, is) (stops, fits, also) =
    (omega (arith, ends, stops, length-append x y), omega (arith, same, fits), also ∙ overlaid_both a b at end x y same ends within is)

-- what is asked of a place does not depend on how the text is said
pub wrote_same : (a b : List ℕ) (at : ℕ) (x y : List ℕ) (o : Option ℕ) → x ≡ y → Wrote a b at x o → Wrote a b at y o
wrote_same a b at x y o e h = rw (← e) h

-- w is x and y after it. A result tells the end of x, or that there is no room for it
module _ (x y w : List ℕ) (whole : x ++ y ≡ w) (r : Option ℕ) where
  pub then_wrote : (a b c : List ℕ) (at end : ℕ) (o : Option ℕ) → length b ≡ length a → r ≡ Some end → Wrote a b at x r → Wrote b c end y o → Wrote a c at w o
  then_wrote a b c at end o same is here after =
      wrote_same a c at (x ++ y) w o whole (wrote_both a b c at end x y o same (subst (λ q. Wrote a b at x q) is here) after)

  pub then_none : (a b : List ℕ) (at : ℕ) (o : Option ℕ) → r ≡ None → o ≡ None → Wrote a b at x r → Wrote a b at w o
  then_none a b at o is none here =
      wrote_same a b at (x ++ y) w o whole (subst (λ q. Wrote a b at (x ++ y) q) (sym none) (no_room a b at x y (subst (λ q. Wrote a b at x q) is here)))

-- nothing is left to write
pub wrote_rest : (a : List ℕ) (at : ℕ) (x : List ℕ) → at ≤ length a → x ≡ [] → Wrote a a at x (Some at)
wrote_rest a at x within none = rw none (wrote_nothing a at within)

pub text_more : (p : Parameter) (ps : List Parameter) → parameters_text (p ∷ ps) ≡ parameter_text p ++ parameters_text ps
unfolding parameters_text
text_more p ps = refl

pub text_none : parameters_text [] ≡ []
unfolding parameters_text
text_none = refl

pub text_joined : (ps qs : List Parameter) → parameters_text (ps ++ qs) ≡ parameters_text ps ++ parameters_text qs
text_joined [] qs = sym (ap (λ s. s ++ parameters_text qs) text_none)
text_joined (p ∷ ps) qs =
    text_more p (ps ++ qs)
    ∙ (ap (λ s. parameter_text p ++ s) (text_joined ps qs)
    ∙ (sym (append_assoc (parameter_text p) (parameters_text ps) (parameters_text qs)) ∙ ap (λ s. s ++ parameters_text qs) (sym (text_more p ps))))

pub text_one : (p : Parameter) → parameters_text (p ∷ []) ≡ parameter_text p
text_one p = text_more p [] ∙ (ap (λ s. parameter_text p ++ s) text_none ∙ append-nil (parameter_text p))

-- the charset stands after the parameters
pub text_together : (e : Extracted) (ps : List Parameter) → ps ≡ carried (charset_of (mime_of e.mime_type)) (option_map value_seen e.charset)
    → serialize (mime_of e.mime_type) ++ parameters_text ps ≡ serialize (mime_together e)
text_together e ps is =
    let own = (mime_of e.mime_type).parameters in
    let kind = essence (kind_of e.mime_type) in
    append_assoc kind (parameters_text own) (parameters_text ps)
    ∙ (ap (λ s. kind ++ s) (sym (text_joined own ps)) ∙ ap (λ cs. kind ++ parameters_text (own ++ cs)) is)

-- the parameters of w are p and those of v
pub text_first : (w v : List Parameter) (p : Parameter) → w ≡ p ∷ v → parameter_text p ++ parameters_text v ≡ parameters_text w
text_first w v p more = sym (text_more p v) ∙ ap parameters_text (sym more)

pub escaped_one : (x : ℕ) (s : List ℕ) → escaped (x ∷ []) ++ escaped s ≡ escaped (x ∷ s)
escaped_one x s = cases (x == 0x22 || x == 0x5C)
  where
    cases : (b : Bool) → (if b then 0x5C ∷ x ∷ [] else x ∷ []) ++ escaped s ≡ (if b then 0x5C ∷ x ∷ escaped s else x ∷ escaped s)
    cases true = refl
    cases false = refl

pub within_room : (a b : List ℕ) (at end : ℕ) (x : List ℕ) (r : Option ℕ) → length b ≡ length a → r ≡ Some end → Wrote a b at x r → end ≤ length b
within_room a b at end x r same is here = let fits = (subst (λ q. Wrote a b at x q) is here).1 in omega arith
