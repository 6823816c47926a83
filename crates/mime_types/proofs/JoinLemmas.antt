-- The text of parameters, read again.
use Rattle.std.proofs.Common.{◌≡◌, ◌==◌, ◌||◌, ◌∙◌, ◌++◌, ◌∷◌, [], ℕ, ◌+◌, ◌<◌, List, Bool, Some, true, false, ap, append_assoc, arith, cond, drop, if◌then◌else◌, length, length-append, not, refl, subst, sym, take}
use Rattle.std.proofs.Math.Seq.{drop-append_seam, take-append_seam}
use Rattle.std.proofs.lemmas.Bool.{and_parts, false≢true}
use Rattle.std.proofs.lemmas.List.{append-nil}
use Rattle.std.specs.List.{AllByRecursion, list_all}
use Rattle.mime_types.specs.Bytes.{is_token}
use Rattle.mime_types.specs.Mime.{Parameter}
use Rattle.mime_types.specs.Segment.{as_written, bare, named, parameter_of, quoted, quoted_len, segment, segment_of, segment_said, some_value, standing, stands, unquoted, valued, written}
use Rattle.mime_types.specs.Serialize.{escaped, in_quotes, parameters_text, value_text}
use Rattle.mime_types.specs.Text.{before, after, ends_name, front, is_a_token, is_semicolon, lower, onward, trim_end, trim_start}
use Rattle.mime_types.proofs.CutLemmas.{after_cut, after_whole, front_cut, front_whole, no_end, onward_cut, other_byte, token_bytes, token_dark, token_not_white, trimmed_end, trimmed_start}
use Rattle.mime_types.proofs.WrittenLemmas.{first_written, none_left}
use Rattle.mime_types.proofs.WroteLemmas.{text_more, text_none}

-- quoted texts
quote_here : (r : List ℕ) → quoted_len (0x22 ∷ r) ≡ 0
quote_here [] = refl
quote_here (y ∷ r) = refl

quoted_one : (x : ℕ) (s : List ℕ) → (x == 0x22) ≡ false → (x == 0x5C) ≡ false → quoted_len (x ∷ s) ≡ 1 + quoted_len s
quoted_one x [] e f = ap (λ b. if b then 0 else 1) e
quoted_one x (y ∷ s) e f =
    ap (λ b. if b then 0 else (if x == 0x5C then 2 + quoted_len s else 1 + quoted_len (y ∷ s))) e
    ∙ ap (λ b. if b then 2 + quoted_len s else 1 + quoted_len (y ∷ s)) f

unquoted_one : (x : ℕ) (s : List ℕ) → (x == 0x5C) ≡ false → unquoted (x ∷ s) ≡ x ∷ unquoted s
unquoted_one x [] f = refl
unquoted_one x (y ∷ s) f = ap (λ b. if b then y ∷ unquoted s else x ∷ unquoted (y ∷ s)) f

neither : (a b : Bool) → (a || b) ≡ false → (a ≡ false) × (b ≡ false)
neither false false e = (refl, refl)
neither false true e = absurd (false≢true (sym e))
neither true b e = absurd (false≢true (sym e))

abbrev escape : Bool → ℕ → List ℕ → List ℕ
escape true x s = 0x5C ∷ x ∷ s
escape false x s = x ∷ s

escaped_is : (x : ℕ) (v : List ℕ) → escaped (x ∷ v) ≡ escape (x == 0x22 || x == 0x5C) x (escaped v)
escaped_is x v = cases (x == 0x22 || x == 0x5C)
  where
    cases : (b : Bool) → (if b then 0x5C ∷ x ∷ escaped v else x ∷ escaped v) ≡ escape b x (escaped v)
    cases true = refl
    cases false = refl

len_step : (x : ℕ) (s r : List ℕ) (b : Bool) → (x == 0x22 || x == 0x5C) ≡ b → quoted_len ((s ++ 0x22 ∷ []) ++ r) ≡ length s
    → quoted_len ((escape b x s ++ 0x22 ∷ []) ++ r) ≡ length (escape b x s)
len_step x s r true is h = omega (arith, h)
len_step x s r false is h =
    let parts = neither (x == 0x22) (x == 0x5C) is in
    quoted_one x ((s ++ 0x22 ∷ []) ++ r) parts.0 parts.1 ∙ omega (arith, h)

escaped_len : (v r : List ℕ) → quoted_len ((escaped v ++ 0x22 ∷ []) ++ r) ≡ length (escaped v)
escaped_len [] r = quote_here r
escaped_len (x ∷ v) r =
    subst (λ s. quoted_len ((s ++ 0x22 ∷ []) ++ r) ≡ length s) (sym (escaped_is x v))
    (len_step x (escaped v) r (x == 0x22 || x == 0x5C) refl (escaped_len v r))

say_step : (x : ℕ) (s v : List ℕ) (b : Bool) → (x == 0x22 || x == 0x5C) ≡ b → unquoted s ≡ v → unquoted (escape b x s) ≡ x ∷ v
say_step x s v true is h = ap (λ u. x ∷ u) h
say_step x s v false is h = unquoted_one x s (neither (x == 0x22) (x == 0x5C) is).1 ∙ ap (λ u. x ∷ u) h

unescaped : (v : List ℕ) → unquoted (escaped v) ≡ v
unescaped [] = refl
unescaped (x ∷ v) = ap unquoted (escaped_is x v) ∙ say_step x (escaped v) v (x == 0x22 || x == 0x5C) refl (unescaped v)

-- what stands after a part ends it, or nothing stands there
abbrev pub Stops : (ℕ → Bool) → List ℕ → Type 0
Stops ends [] = Unit {0}
Stops ends (c ∷ r) = ends c ≡ true

module _ (ends : ℕ → Bool) (a : List ℕ) (none : list_all (λ x. not (ends x)) a ≡ true) where
  pub front_joined : (r : List ℕ) → Stops ends r → front ends (a ++ r) ≡ a
  front_joined [] stops = ap (front ends) (append-nil a) ∙ front_whole ends a none
  front_joined (c ∷ r) stops = front_cut ends a none c r stops

  pub after_joined : (r : List ℕ) → Stops ends r → after ends (a ++ r) ≡ after ends r
  after_joined [] stops = ap (after ends) (append-nil a) ∙ after_whole ends a none
  after_joined (c ∷ r) stops =
      after_cut ends a none c r stops ∙ sym (ap (λ b. drop (cond (not b) (1 + before ends r) 0 + 1) (c ∷ r)) stops)

pub not_semicolon : (x : ℕ) → is_token x ≡ true → is_semicolon x ≡ false
not_semicolon x is = other_byte 0x3B refl x is

not_name_end : (x : ℕ) → is_token x ≡ true → ends_name x ≡ false
not_name_end x is = ap (λ b. b || x == 0x3D) (other_byte 0x3B refl x is) ∙ other_byte 0x3D refl x is

-- a value of a token
bare_again : (name v r : List ℕ) → is_a_token v ≡ true → Stops is_semicolon r → valued name (v ++ r) ≡ standing (Some (as_written name v false)) (after is_semicolon r)
bare_again name [] r token stops = absurd (false≢true token)
bare_again name (x ∷ v) r token stops =
    let all = token_bytes (x ∷ v) token in
    let first = and_parts (is_token x) (list_all is_token v) all in
    let none = no_end is_semicolon not_semicolon (x ∷ v) all in
    let value : trim_end (front is_semicolon ((x ∷ v) ++ r)) ≡ x ∷ v
    = ap trim_end (front_joined is_semicolon (x ∷ v) none r stops) ∙ trimmed_end (x ∷ v) (token_dark (x ∷ v) (omega arith) all) in
    ap (λ b. if b then quoted name (v ++ r) else bare name ((x ∷ v) ++ r)) (other_byte 0x22 refl x first.0)
    ∙ (ap (λ w. standing (some_value name w) (after is_semicolon ((x ∷ v) ++ r))) value
    ∙ ap (λ w. standing (Some (as_written name (x ∷ v) false)) w) (after_joined is_semicolon (x ∷ v) none r stops))

-- a value in quotes
after_quote : (r : List ℕ) → Stops is_semicolon r → after is_semicolon (0x22 ∷ r) ≡ after is_semicolon r
after_quote r stops = after_joined is_semicolon (0x22 ∷ []) refl r stops

quoted_again : (name v r : List ℕ) → Stops is_semicolon r → valued name (in_quotes v ++ r) ≡ standing (Some (as_written name (escaped v) true)) (after is_semicolon r)
quoted_again name v r stops =
    let s = escaped v in
    let t : (s ++ 0x22 ∷ []) ++ r ≡ s ++ 0x22 ∷ r = append_assoc s (0x22 ∷ []) r in
    let len : quoted_len (s ++ 0x22 ∷ r) ≡ length s = ap quoted_len (sym t) ∙ escaped_len v r in
    let text : take (quoted_len (s ++ 0x22 ∷ r)) (s ++ 0x22 ∷ r) ≡ s = ap (λ n. take n (s ++ 0x22 ∷ r)) len ∙ take-append_seam s (0x22 ∷ r) in
    let left : after is_semicolon (drop (quoted_len (s ++ 0x22 ∷ r)) (s ++ 0x22 ∷ r)) ≡ after is_semicolon r
    = ap (λ n. after is_semicolon (drop n (s ++ 0x22 ∷ r))) len ∙ (ap (after is_semicolon) (drop-append_seam s (0x22 ∷ r)) ∙ after_quote r stops) in
    ap (quoted name) t
    ∙ (ap (λ w. standing (Some (as_written name w true)) (after is_semicolon (drop (quoted_len (s ++ 0x22 ∷ r)) (s ++ 0x22 ∷ r)))) text
    ∙ ap (λ w. standing (Some (as_written name s true)) w) left)

valued_again : (name v r : List ℕ) (b : Bool) → is_a_token v ≡ b → lower name ≡ name → Stops is_semicolon r
    → segment_said (valued name ((if b then v else in_quotes v) ++ r)) ≡ segment_of (Some (parameter_of name v)) (after is_semicolon r)
valued_again name v r true is same stops =
    ap segment_said (bare_again name v r is stops) ∙ ap (λ n. segment_of (Some (parameter_of n v)) (after is_semicolon r)) same
valued_again name v r false is same stops =
    ap segment_said (quoted_again name v r stops)
    ∙ (ap (λ w. segment_of (Some (parameter_of (lower name) w)) (after is_semicolon r)) (unescaped v)
    ∙ ap (λ n. segment_of (Some (parameter_of n v)) (after is_semicolon r)) same)

-- a segment
pub segment_again : (name v r : List ℕ) → is_a_token name ≡ true → lower name ≡ name → Stops is_semicolon r
    → segment (name ++ 0x3D ∷ (value_text v ++ r)) ≡ segment_of (Some (parameter_of name v)) (after is_semicolon r)
unfolding segment stands
segment_again [] v r token same stops = absurd (false≢true token)
segment_again (x ∷ name) v r token same stops =
    let all = token_bytes (x ∷ name) token in
    let first = and_parts (is_token x) (list_all is_token name) all in
    let none = no_end ends_name not_name_end (x ∷ name) all in
    let rest = 0x3D ∷ (value_text v ++ r) in
    let start : trim_start ((x ∷ name) ++ rest) ≡ (x ∷ name) ++ rest = trimmed_start x (name ++ rest) (token_not_white x first.0) in
    let a : front ends_name (trim_start ((x ∷ name) ++ rest)) ≡ x ∷ name
    = ap (front ends_name) start ∙ front_cut ends_name (x ∷ name) none 0x3D (value_text v ++ r) refl in
    let b : onward ends_name (trim_start ((x ∷ name) ++ rest)) ≡ rest
    = ap (onward ends_name) start ∙ onward_cut ends_name (x ∷ name) none 0x3D (value_text v ++ r) refl in
    ap (λ n. segment_said (named n (onward ends_name (trim_start ((x ∷ name) ++ rest))))) a
    ∙ (ap (λ s. segment_said (named (x ∷ name) s)) b ∙ valued_again (x ∷ name) v r (is_a_token v) refl same stops)

-- names are tokens in lower case
pub record Clean (p : Parameter) : Type 0 where
  pub token : is_a_token p.name ≡ true
  pub lowered : lower p.name ≡ p.name

pub text_stops : (ps : List Parameter) → Stops is_semicolon (parameters_text ps)
unfolding parameters_text
text_stops [] = tt
text_stops (p ∷ ps) = refl

pub written_again : (ps : List Parameter) → AllByRecursion Clean ps → written (after is_semicolon (parameters_text ps)) ≡ ps
written_again [] all = ap (λ s. written (after is_semicolon s)) text_none ∙ none_left [] refl
written_again (p ∷ ps) all =
    let r = parameters_text ps in
    let text : after is_semicolon (parameters_text (p ∷ ps)) ≡ p.name ++ 0x3D ∷ (value_text p.value ++ r)
    = ap (after is_semicolon) (text_more p ps) ∙ append_assoc p.name (0x3D ∷ value_text p.value) r in
    let is = segment_again p.name p.value r all.0.token all.0.lowered (text_stops ps) in
    let some : 0 < length (p.name ++ 0x3D ∷ (value_text p.value ++ r)) = omega (arith, length-append p.name (0x3D ∷ (value_text p.value ++ r))) in
    ap written text
    ∙ (first_written (p.name ++ 0x3D ∷ (value_text p.value ++ r)) (Some p) (after is_semicolon r) (sym is) some
    ∙ ap (λ qs. p ∷ qs) (written_again ps all.1))
