-- Writes one after the other.
use Rattle.std.proofs.Common.{◌≡◌, ◌<◌, ◌+◌, ◌∷◌, ℕ, List, [], ◌++◌, ap, get_or, length, refl, sym, subst, take, ◌∙◌, append_assoc, append-nil}
use Rattle.std.specs.List.{flat_map}
use Rattle.std.proofs.lemmas.Grind.{flat_map-append}
use Rattle.std.proofs.lemmas.List.{take_more}
use Rattle.infer_label.specs.Writes.{Holds, Writes}
use Rattle.infer_label.specs.declared.room.Room.{Room}

pub writes_nothing : (room : Room) → Writes room room []
writes_nothing room = record {
  more = λ start text holds. subst (Holds start room) (sym (append-nil text)) holds;
  same = refl;
}

-- what is written first, and what then
pub writes_both : {a b c : Room} {xs ys : List ℕ} → Writes a b xs → Writes b c ys → Writes a c (xs ++ ys)
writes_both {c = c} {xs = xs} {ys = ys} first then = record {
  more = λ start text holds. subst (Holds start c) (append_assoc text xs ys) (then.more start (text ++ xs) (first.more start text holds));
  same = then.same ∙ first.same;
}

-- the bytes of one more of several
pub flat_more : {X : Type 0} (f : X → List ℕ) (xs : List X) (i : ℕ) (d : X) → i < length xs → flat_map f (take (i + 1) xs) ≡ flat_map f (take i xs) ++ f (get_or xs i d)
flat_more f xs i d lt =
    ap (flat_map f) (take_more xs i d lt) ∙ flat_map-append f (take i xs) (get_or xs i d ∷ []) ∙ ap (λ l. flat_map f (take i xs) ++ l) (append-nil (f (get_or xs i d)))

pub flat_yielded : {X : Type 0} (f : X → List ℕ) (xs : List X) (x : X) → flat_map f (xs ++ (x ∷ [])) ≡ flat_map f xs ++ f x
flat_yielded f xs x = flat_map-append f xs (x ∷ []) ∙ ap (λ l. flat_map f xs ++ l) (append-nil (f x))

-- what was written by another name
pub writes_is : {a b : Room} {xs ys : List ℕ} → xs ≡ ys → Writes a b xs → Writes a b ys
writes_is {a = a} {b = b} is written = subst (Writes a b) is written
