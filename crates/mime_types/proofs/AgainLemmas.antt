-- The text of a MIME type, read again.
use Rattle.std.proofs.Common.{◌≡◌, ◌∙◌, ◌++◌, ◌∷◌, [], ℕ, List, Bool, true, false, ap, append_assoc, if◌then◌else◌, length, not, refl, subst, sym}
use Rattle.std.proofs.lemmas.Bool.{and_parts, false≢true}
use Rattle.std.proofs.lemmas.List.{append-nil}
use Rattle.std.specs.List.{list_all}
use Rattle.mime_types.specs.Bytes.{is_token}
use Rattle.mime_types.specs.Mime.{Mime, Parameter}
use Rattle.mime_types.specs.Parameters.{kept, parameters}
use Rattle.mime_types.specs.Parse.{Parsed, after_slash, subtype_text, tail_text, type_text}
use Rattle.mime_types.specs.Segment.{written}
use Rattle.mime_types.specs.Serialize.{escaped, in_quotes, parameter_text, parameters_text, serialize, value_text}
use Rattle.mime_types.specs.Text.{after, front, is_a_token, is_semicolon, is_slash, lower, trim, trim_end, trim_start}
use Rattle.mime_types.proofs.CutLemmas.{EndsDark, after_cut, after_dark, front_cut, no_end, other_byte, token_bytes, token_dark, token_not_white, token_some, trimmed_end, trimmed_start}
use Rattle.mime_types.proofs.FirstLemmas.{token_in_lower}
use Rattle.mime_types.proofs.JoinLemmas.{after_joined, front_joined, not_semicolon, text_stops, written_again}
use Rattle.mime_types.proofs.KeptLemmas.{kept_again, kept_clean, lower_again, written_lower}
use Rattle.mime_types.proofs.WroteLemmas.{text_more, text_none}

value_dark : (v : List ℕ) (b : Bool) → is_a_token v ≡ b → EndsDark (if b then v else in_quotes v)
value_dark v true is = token_dark v (token_some v is) (token_bytes v is)
value_dark v false is = record { start = 0x22 ∷ escaped v; last = 0x22; whole = refl; dark = refl }

parameter_dark : (p : Parameter) → EndsDark (parameter_text p)
parameter_dark p =
    after_dark (0x3B ∷ []) (p.name ++ 0x3D ∷ value_text p.value)
    (after_dark p.name (0x3D ∷ value_text p.value) (after_dark (0x3D ∷ []) (value_text p.value) (value_dark p.value (is_a_token p.value) refl)))

parameters_dark : (p : Parameter) (ps : List Parameter) → EndsDark (parameters_text (p ∷ ps))
parameters_dark p [] = subst EndsDark (sym (text_more p [] ∙ (ap (λ s. parameter_text p ++ s) text_none ∙ append-nil (parameter_text p)))) (parameter_dark p)
parameters_dark p (q ∷ ps) = subst EndsDark (sym (text_more p (q ∷ ps))) (after_dark (parameter_text p) (parameters_text (q ∷ ps)) (parameters_dark q ps))

subtype_dark : (s : List ℕ) (ps : List Parameter) → is_a_token s ≡ true → EndsDark (s ++ parameters_text ps)
subtype_dark s [] token = subst EndsDark (sym (ap (λ r. s ++ r) text_none ∙ append-nil s)) (token_dark s (token_some s token) (token_bytes s token))
subtype_dark s (p ∷ ps) token = after_dark s (parameters_text (p ∷ ps)) (parameters_dark p ps)

start_dark : (a r : List ℕ) → is_a_token a ≡ true → trim_start (a ++ r) ≡ a ++ r
start_dark [] r token = absurd (false≢true token)
start_dark (x ∷ a) r token =
    trimmed_start x (a ++ r) (token_not_white x (and_parts (is_token x) (list_all is_token a) (token_bytes (x ∷ a) token)).0)

not_slash : (x : ℕ) → is_token x ≡ true → is_slash x ≡ false
not_slash x is = other_byte 0x2F refl x is

module _ (a b : List ℕ) (ps : List Parameter) (a_token : is_a_token a ≡ true) (b_token : is_a_token b ≡ true) where
  abbrev p : List ℕ
  p = parameters_text ps

  abbrev x : List ℕ
  x = (a ++ 0x2F ∷ b) ++ parameters_text ps

  abbrev y : List ℕ
  y = a ++ 0x2F ∷ (b ++ parameters_text ps)

  regrouped : x ≡ y
  regrouped = append_assoc a (0x2F ∷ b) p

  dark : EndsDark y
  dark = after_dark a (0x2F ∷ (b ++ p)) (after_dark (0x2F ∷ []) (b ++ p) (subtype_dark b ps b_token))

  trimmed : trim x ≡ y
  trimmed = ap trim regrouped ∙ (ap trim_end (start_dark a (0x2F ∷ (b ++ p)) a_token) ∙ trimmed_end y dark)

  pub trimmed_again : trim x ≡ x
  trimmed_again = trimmed ∙ sym regrouped

  no_slash : list_all (λ z. not (is_slash z)) a ≡ true
  no_slash = no_end is_slash not_slash a (token_bytes a a_token)

  no_semicolon : list_all (λ z. not (is_semicolon z)) b ≡ true
  no_semicolon = no_end is_semicolon not_semicolon b (token_bytes b b_token)

  pub type_again : type_text x ≡ a
  type_again = ap (front is_slash) trimmed ∙ front_cut is_slash a no_slash 0x2F (b ++ p) refl

  after_again : after_slash x ≡ b ++ p
  after_again = ap (after is_slash) trimmed ∙ after_cut is_slash a no_slash 0x2F (b ++ p) refl

  pub subtype_again : subtype_text x ≡ b
  subtype_again =
      ap (λ s. trim_end (front is_semicolon s)) after_again
      ∙ (ap trim_end (front_joined is_semicolon b no_semicolon p (text_stops ps))
      ∙ trimmed_end b (token_dark b (token_some b b_token) (token_bytes b b_token)))

  pub tail_again : tail_text x ≡ after is_semicolon p
  tail_again = ap (after is_semicolon) after_again ∙ after_joined is_semicolon b no_semicolon p (text_stops ps)

pub kept_all : (s : List ℕ) → parameters (after is_semicolon (parameters_text (parameters s))) ≡ parameters s
kept_all s =
    ap (kept []) (written_again (parameters s) (kept_clean [] (written s) (written_lower (length s) s)))
    ∙ kept_again [] [] (written s) (λ name h. h)

module _ (t : List ℕ) (m : Mime) (is : Parsed t m) where
  type_token_again : is_a_token m.kind.type_name ≡ true
  type_token_again = ap is_a_token is.type_name ∙ (token_in_lower (type_text t) ∙ is.type_token)

  subtype_token_again : is_a_token m.kind.subtype ≡ true
  subtype_token_again = ap is_a_token is.subtype ∙ (token_in_lower (subtype_text t) ∙ is.subtype_token)

pub serialize_trimmed : (t : List ℕ) (m : Mime) → Parsed t m → trim (serialize m) ≡ serialize m
serialize_trimmed t m is = trimmed_again m.kind.type_name m.kind.subtype m.parameters (type_token_again t m is) (subtype_token_again t m is)

pub again : (t : List ℕ) (m : Mime) → Parsed t m → Parsed (serialize m) m
again t m is =
    let a = m.kind.type_name in
    let b = m.kind.subtype in
    let a_token = type_token_again t m is in
    let b_token = subtype_token_again t m is in
    let one = type_again a b m.parameters a_token b_token in
    let two = subtype_again a b m.parameters a_token b_token in
    let three = tail_again a b m.parameters a_token b_token in
    let kept_is : parameters (after is_semicolon (parameters_text m.parameters)) ≡ m.parameters
    = subst (λ ps. parameters (after is_semicolon (parameters_text ps)) ≡ ps) (sym is.all) (kept_all (tail_text t)) in
    record {
      type_token = ap is_a_token one ∙ a_token;
      subtype_token = ap is_a_token two ∙ b_token;
      type_name = sym (ap lower one ∙ (ap lower is.type_name ∙ (lower_again (type_text t) ∙ sym is.type_name)));
      subtype = sym (ap lower two ∙ (ap lower is.subtype ∙ (lower_again (subtype_text t) ∙ sym is.subtype)));
      all = sym (ap parameters three ∙ kept_is);
    }
