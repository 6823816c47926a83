-- The last byte of a name that ends in an ending.
use Rattle.std.proofs.Common.{◌≡◌, ◌+◌, ◌-◌, ◌<◌, ◌∙◌, ℕ, true, false, List, ap, arith, codes, drop, get_or, length, refl, subst, sym}
use Rattle.std.proofs.lemmas.Bool.{and_parts, false_from_ne_true, ltb-true}
use Rattle.std.proofs.lemmas.List.{get_or-drop, get_or-map, length-drop}
use Rattle.std.proofs.lemmas.Slice.Eq.{bytes_eq-Decides}
use Rattle.std.specs.Char.{to_ascii_lowercase}
use Rattle.std.specs.Prelude.{nat_lt}
use Rattle.std.specs.Str.{bytes_eq}
use Rattle.infer_named.specs.Names.{ends_in, small}

-- the last byte of a base in small letters is that of its ending
pub last_is : (base ending : List ℕ) → 0 < length ending → ends_in base ending ≡ true
    → to_ascii_lowercase (get_or base (length base - 1) 0) ≡ get_or ending (length ending - 1) 0
last_is base ending some is =
    let from = length base - length ending in
    let parts = and_parts (nat_lt (length ending) (length base)) (bytes_eq (small (drop from base)) ending) is in
    let long : length ending < length base = ltb-true _ _ parts.0 in
    let same : small (drop from base) ≡ ending = (bytes_eq-Decides (small (drop from base)) ending).0 parts.1 in
    let rest : length (drop from base) ≡ length base - from = length-drop from base in
    let place = length ending - 1 in
    let at : from + place ≡ length base - 1 = omega arith in
    ap to_ascii_lowercase (ap (λ i. get_or base i 0) (sym at) ∙ sym (get_or-drop from base place 0))
    ∙ (sym (get_or-map to_ascii_lowercase (drop from base) place 0 0 (omega (arith, rest))) ∙ ap (λ l. get_or l place 0) same)
