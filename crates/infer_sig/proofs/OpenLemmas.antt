-- What a buffer leaves open of a signature: the bytes that are missing, put after it part by part.
use Rattle.infer_deep.proofs.Common.{take, ◌≡◌, ℕ, zero, suc, ◌+◌, ◌-◌, ◌≤◌, inl, inr, not, List, [], ◌∷◌, ◌++◌, length, max, refl, ap, arith, eqb, ltb, leb, IsTrue, AgreesAt, OccursAt, ◌↔◌, length-append, length-take, get_or-take, and_parts, and_from, or_cases, or_left, or_right, le-leb, eq-eqb, ne_eqb, leb-true, cases_lt, nat_tests, get_or_append_left, list_any, list_all, are_bytes, MayBecome}
use Rattle.infer_deep.proofs.OpenLemmas.{AllAgree, AllStand, LieApart, agrees_none, agrees_past, fills_parts, grown_agrees}
use Rattle.infer_deep.proofs.OpenLemmas as Deep
use Rattle.infer_deep.proofs.PlaceLemmas.{OccursAt-first}
use Rattle.infer_sig.proofs.ListLemmas.{list_any_among, list_any_passes, list_all_joined, list_all_passes}
use Rattle.infer_sig.proofs.PlaceLemmas.{stands_by_place}
use Rattle.infer_sig.specs.Laws.{is_part_within, text_lead, part_lead, alternative_lead}
use Rattle.infer_sig.specs.Open.{agrees, may_have, may_fit, may_become, has_byte, is_possible, place_of, are_apart, is_alternative_sound, is_sound, MayBecomeIsExact, Begins}
use Rattle.infer_sig.specs.Signature.{Alternative, at_least, Bytes, any_of, between, all_but, Part, text, any_text, byte, allows, has_part, fits, stands, accepts}

-- a text agrees with a buffer just if the buffer's bytes agree with it
pub agrees_by_place : (place : ℕ) (t buf : List ℕ) → IsTrue (agrees place t buf) ↔ AgreesAt buf t place
unfolding agrees
agrees_by_place place t buf = grind (arith, nat_tests, stands_by_place, length-take, get_or-take)

-- ---- a front of a buffer that is accepted

module _ (buf more : List ℕ) where
  agrees_front : (place : ℕ) (t : List ℕ) → IsTrue (stands place t (buf ++ more)) → IsTrue (agrees place t buf)
  agrees_front place t h = grind (arith, nat_tests, stands_by_place place t (buf ++ more), agrees_by_place place t buf, grown_agrees buf more t place)

  part_front : (part : Part) → IsTrue (has_part (buf ++ more) part) → IsTrue (may_have buf part)
  part_front h0 h = grind (arith, nat_tests, agrees_front, list_any_passes, get_or_append_left)

  alternative_front : (a : Alternative) → IsTrue (fits (buf ++ more) a) → IsTrue (may_fit buf a)
  alternative_front (at_least n parts) h = list_all_passes _ _ part_front parts (and_parts (leb n (length (buf ++ more))) _ h).1

-- ---- the missing bytes of a part

-- a text at the part's place with which the buffer, however it goes on, has what the part asks
record Filling (buf : List ℕ) (part : Part) : Type 0 where
  pub filling : List ℕ
  pub bytes : IsTrue (are_bytes filling)
  pub agrees : AgreesAt buf filling (place_of part)
  pub fills : (more : List ℕ) → OccursAt (buf ++ more) filling (place_of part) → IsTrue (has_part (buf ++ more) part)
  pub ends : (n : ℕ) → IsTrue (is_part_within n part) → place_of part + length filling ≤ n

filled_text : (buf : List ℕ) (place : ℕ) (t : List ℕ) → IsTrue (are_bytes t) → IsTrue (agrees place t buf) → Filling buf (text place t)
filled_text buf place t bytes h = grind (arith, nat_tests, agrees_by_place, stands_by_place, leb-true)

filled_any_text : (buf : List ℕ) (place : ℕ) (ts : List (List ℕ)) → IsTrue (list_all are_bytes ts)
    → IsTrue (may_have buf (any_text place ts)) → Filling buf (any_text place ts)
filled_any_text buf place [] possible h = absurd (cc)
filled_any_text buf place (t ∷ ts) possible h = grind (arith, nat_tests, and_parts (are_bytes t), or_cases (agrees place t buf), filled_text buf place t, filled_any_text buf place ts)

some_listed : (xs : List ℕ) → IsTrue (list_any (λ x. ltb x 256) xs) → (x : ℕ) × IsTrue (ltb x 256) × IsTrue (list_any (λ y. eqb x y) xs)
some_listed [] h = absurd (cc)
some_listed (x ∷ xs) h = grind (arith, nat_tests, or_cases (ltb x 256), or_left (eqb x x), eq-eqb x x refl, some_listed xs, or_right)

some_byte : (set : Bytes) → IsTrue (has_byte set) → (x : ℕ) × IsTrue (ltb x 256) × IsTrue (allows set x)
some_byte (any_of xs) h = some_listed xs h
some_byte (between low high) h = grind (arith, nat_tests, and_parts (leb low high), and_from (leb low low), le-leb low low)
some_byte (all_but zero) h = (1, refl, refl)
some_byte (all_but (suc y)) h = (0, refl, ap not (ne_eqb 0 (suc y) (λ same. omega arith)))

filled : (buf : List ℕ) (part : Part) → IsTrue (is_possible part) → IsTrue (may_have buf part) → Filling buf part
filled buf (text place t) possible h = filled_text buf place t possible h
filled buf (any_text place []) possible h = absurd (cc)
filled buf (any_text place (t ∷ ts)) possible h = filled_any_text buf place (t ∷ ts) possible h
filled buf (byte place set) possible h =
    elim (cases_lt place (length buf)) [
      | inl l ↦ record {
        filling = [];
        bytes = refl;
        agrees = agrees_none buf place;
        fills = λ more o. grind (arith, nat_tests, length-append buf more, get_or_append_left buf more 0 place l);
        ends = λ n within. grind (arith, nat_tests);
      }
      | inr l ↦ let s = some_byte set possible in record {
        filling = s.0 ∷ [];
        bytes = and_from (ltb s.0 256) _ s.1 refl;
        agrees = agrees_past buf (s.0 ∷ []) place l;
        fills = λ more o. let first = OccursAt-first (buf ++ more) (s.0 ∷ []) place (omega arith) o in let fits = o.fits in grind (arith, nat_tests, s.2);
        ends = λ n within. grind (arith, nat_tests);
      }
    ]

-- ---- the missing bytes of all parts

-- texts that lie apart from n on and end at the least length or later, with which the buffer, however it goes on, has the parts
record Fillings (least : ℕ) (buf : List ℕ) (n : ℕ) (parts : List Part) : Type 0 where
  pub texts : List Deep.Part
  pub end : ℕ
  pub long : least ≤ end
  pub apart : LieApart n texts end
  pub agree : AllAgree texts buf
  pub fill : (more : List ℕ) → AllStand texts (buf ++ more) → IsTrue (list_all (has_part (buf ++ more)) parts)

fillings : (least n : ℕ) (parts : List Part) (buf : List ℕ) → IsTrue (list_all (λ q. leb n (place_of q)) parts) → IsTrue (are_apart parts)
    → IsTrue (list_all is_possible parts) → IsTrue (list_all (may_have buf) parts) → Fillings least buf n parts
fillings least n [] buf after apart possible h =
    record { texts = []; end = max n least; long = omega arith; apart = omega arith; agree = tt; fill = λ more s. refl }
fillings least n (part ∷ parts) buf after apart possible h =
    let a = and_parts (list_all (λ later. is_part_within (place_of later) part) parts) _ apart in
    let p = and_parts (is_possible part) _ possible in
    let each = and_parts (may_have buf part) _ h in
    let f = filled buf part p.0 each.0 in
    let m = place_of part + length f.filling in
    let follows = list_all_passes _ (λ q. leb m (place_of q)) (λ q within. le-leb m (place_of q) (f.ends (place_of q) within)) parts a.0 in
    let rest = fillings least m parts buf follows a.1 p.1 each.1 in
    record {
      texts = record { place = place_of part; text = f.filling } ∷ rest.texts;
      end = rest.end;
      long = rest.long;
      apart = (leb-true n (place_of part) (and_parts (leb n (place_of part)) _ after).0, f.bytes, rest.apart);
      agree = (f.agrees, rest.agree);
      fill = λ more s. and_from (has_part (buf ++ more) part) _ (f.fills more s.0) (rest.fill more s.1);
    }

fitting : (n : ℕ) (parts : List Part) (buf : List ℕ) → IsTrue (are_apart parts) → IsTrue (list_all is_possible parts)
    → IsTrue (list_all (may_have buf) parts) → MayBecome (λ b. IsTrue (fits b (at_least n parts))) buf
fitting n parts buf apart possible h =
    let after = list_all_passes is_possible (λ q. leb 0 (place_of q)) (λ q s. le-leb 0 (place_of q) (omega arith)) parts possible in
    let f = fillings n 0 parts buf after apart possible h in
    let x = fills_parts f.texts buf 0 f.end f.apart f.agree in
    (x.more, x.bytes, and_from (leb n (length (buf ++ x.more))) _ (le-leb n (length (buf ++ x.more)) (omega (arith, x.long, f.long))) (f.fill x.more x.holds))

reached : (s : List Alternative) (buf : List ℕ) → IsTrue (is_sound s) → IsTrue (may_become s buf) → MayBecome (λ b. IsTrue (accepts s b)) buf
reached [] buf sound h = absurd (cc)
reached (at_least n parts ∷ s) buf sound h =
    let each = and_parts (is_alternative_sound (at_least n parts)) _ sound in
    let own = and_parts (are_apart parts) _ each.0 in
    elim (or_cases (may_fit buf (at_least n parts)) _ h) [
      | inl here ↦ let f = fitting n parts buf own.0 own.1 here in (f.0, f.1, or_left (fits (buf ++ f.0) (at_least n parts)) _ f.2)
      | inr later ↦ let r = reached s buf each.1 later in (r.0, r.1, or_right (fits (buf ++ r.0) (at_least n parts)) _ r.2)
    ]

pub signature_open : (s : List Alternative) → IsTrue (is_sound s) → MayBecomeIsExact s
signature_open s sound buf = (λ h. reached s buf sound h, λ (more, bytes, h). list_any_passes _ _ (alternative_front buf more) s h)

-- ---- the first byte

text_opens : (f : ℕ) (t : List ℕ) → IsTrue (text_lead t f) → IsTrue (agrees 0 t (f ∷ []))
unfolding agrees stands
text_opens f h1 h = grind (arith, nat_tests, and_from)

past : (place : ℕ) (t : List ℕ) (f : ℕ) → IsTrue (agrees (suc place) t (f ∷ []))
past place t f = (agrees_by_place (suc place) t (f ∷ [])).1 (agrees_past (f ∷ []) t (suc place) (omega arith))

part_opens : (f : ℕ) (part : Part) → IsTrue (is_possible part) → IsTrue (part_lead part f) → IsTrue (may_have (f ∷ []) part)
part_opens f (text zero t) possible h = text_opens f t h
part_opens f (any_text zero ts) possible h = list_any_passes _ _ (text_opens f) ts h
part_opens f (byte zero set) possible h = h
part_opens f (text (suc place) t) possible h = past place t f
part_opens f (any_text (suc place) []) possible h = absurd (cc)
part_opens f (any_text (suc place) (t ∷ ts)) possible h = or_left (agrees (suc place) t (f ∷ [])) _ (past place t f)
part_opens f (byte (suc place) set) possible h = or_left (leb 1 (suc place)) _ (le-leb 1 (suc place) (omega arith))

alternative_opens : (f : ℕ) (a : Alternative) → IsTrue (is_alternative_sound a) → IsTrue (alternative_lead a f) → IsTrue (may_fit (f ∷ []) a)
alternative_opens f h1 sound h = grind (arith, nat_tests, list_all_joined, part_opens, and_parts)

pub signature_begins : (s : List Alternative) → IsTrue (is_sound s) → Begins s
signature_begins s sound f h =
    reached s (f ∷ []) sound (list_any_among is_alternative_sound (λ a. alternative_lead a f) (may_fit (f ∷ [])) (alternative_opens f) s sound h)
