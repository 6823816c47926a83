-- What a buffer makes of the parts that a text writes.
use Rattle.infer_notation.proofs.Common.{◌≡◌, ◌+◌, ◌&&◌, ℕ, suc, Bool, true, false, List, [], ◌∷◌, Option, None, Some, cond, length, drop, get_or, option_map, nat_le, refl, sym, ap, ◌∙◌, arith, inl, inr, cases_lt, lt-ltb, at_drop_all, at_drop_more, Part, allows, any_of, byte, has_part, stands, text, cursor, part, set_part, step_seen, within, ◌>>=◌, first_passes, hex_seen, Has, More, Hex}
use Rattle.std.proofs.lemmas.Bool.{le-ltb}
use Rattle.infer_sig.specs.Signature.{Bytes}
use Rattle.infer_notation.specs.Fixed.{within_seen}

-- a part within the least length, as a buffer sees it
pub within_is : (least place size : ℕ) (buf : List ℕ) (p : Part) (has : Bool) → has_part buf p ≡ has
    → option_map (step_seen buf) (within least place size p) ≡ within_seen least place size has
within_is least place size buf p has is = chosen (nat_le (place + size) least)
  where
    chosen : (b : Bool) → option_map (step_seen buf) (cond b (Some (cursor More least (place + size), part p)) None) ≡ cond b (Some (cursor More least (place + size), Has has)) None
    chosen true = ap (λ (h : Bool). Some (cursor More least (place + size), Has h)) is
    chosen false = refl

-- one byte of a set at the place
pub first_at : (set : Bytes) (place : ℕ) (buf : List ℕ) → has_part buf (byte place set) ≡ first_passes (allows set) (drop place buf)
first_at set place buf =
    elim (cases_lt place (length buf)) [
      | inl lt ↦ ap (λ b. b && allows set (get_or buf place 0)) (lt-ltb place (length buf) lt) ∙ sym (at_drop_more (first_passes (allows set)) buf place 0 lt)
      | inr le ↦ ap (λ b. b && allows set (get_or buf place 0)) (le-ltb place (length buf) le) ∙ sym (at_drop_all (first_passes (allows set)) buf place le)
    ]

-- a set that was read
pub set_is : (least place : ℕ) (buf : List ℕ) (h : Hex) (r : Option (List ℕ)) → option_map (hex_seen (drop place buf)) r ≡ Some h → (h.count ≡ 0 → ⊥)
    → option_map (step_seen buf) (r >>= set_part least place) ≡ within_seen least place 1 h.has
set_is least place buf h None e some = absurd cc
set_is least place buf h (Some []) e some = absurd (some (let k : hex_seen (drop place buf) [] ≡ h = cc in sym (ap (λ (x : Hex). x.count) k)))
set_is least place buf h (Some (x ∷ xs)) e some =
    let k : hex_seen (drop place buf) (x ∷ xs) ≡ h = cc in
    within_is least place 1 buf (byte place (any_of (x ∷ xs))) h.has (first_at (any_of (x ∷ xs)) place buf ∙ ap (λ (x : Hex). x.has) k)

-- a set without a byte
pub set_empty : (least place : ℕ) (buf : List ℕ) (h : Hex) (r : Option (List ℕ)) → option_map (hex_seen (drop place buf)) r ≡ Some h → h.count ≡ 0
    → option_map (step_seen buf) (r >>= set_part least place) ≡ None
set_empty least place buf h None e none = absurd cc
set_empty least place buf h (Some []) e none = refl
set_empty least place buf h (Some (x ∷ xs)) e none =
    let k : hex_seen (drop place buf) (x ∷ xs) ≡ h = cc in
    let n : suc (length xs) ≡ h.count = ap (λ (x : Hex). x.count) k in
    absurd (omega arith)

-- nothing was read
pub none_read : {A B C D : Type 0} (f : A → C) (g : A → Option B) (v : B → D) (r : Option A) → option_map f r ≡ None → option_map v (r >>= g) ≡ None
none_read f g v None e = refl
none_read f g v (Some x) e = absurd cc

-- the bytes of a bare word that were read
pub text_is : (least place : ℕ) (buf : List ℕ) (h : Hex) (r : Option (List ℕ)) → option_map (hex_seen (drop place buf)) r ≡ Some h
    → option_map (step_seen buf) (r >>= λ xs. within least place (length xs) (text place xs)) ≡ within_seen least place h.count h.stands
unfolding stands
text_is least place buf h None e = absurd cc
text_is least place buf h (Some xs) e =
    let k : hex_seen (drop place buf) xs ≡ h = cc in
    within_is least place (length xs) buf (text place xs) _ (ap (λ (x : Hex). x.stands) k) ∙ ap (λ (x : Hex). within_seen least place x.count h.stands) k
