-- The first bytes of pieces that come one after the other.
use Rattle.infer_sniff.proofs.Common.{◌≡◌, ℕ, ◌+◌, ◌-◌, ◌<◌, ◌≤◌, List, [], ◌∷◌, ◌++◌, length, get_or, map, take, min, sym, ap, ◌∙◌, arith, length-append, length-take, take-append-add, length-take-le, take-append-le, append_assoc, append-nil, map_more, take_all, take_min, concat}
use Rattle.std.proofs.lemmas.List.Folds.{concat-append}
use denote.Ref.{Bor}

-- the front of some bytes and a piece, if there are no more of the bytes than it has
pub front_of_both : (n m : ℕ) (bytes piece : List ℕ) → length bytes ≤ n → m ≡ min (length piece) (n - length bytes)
    → bytes ++ take m piece ≡ take n (bytes ++ piece)
front_of_both n m bytes piece fits is =
    let room = n - length bytes in
    let whole : length bytes + room ≡ n = omega arith in
    ap (λ k. bytes ++ take k piece) (let e : m ≡ min room (length piece) = omega arith in e)
    ∙ ap (λ u. bytes ++ u) (take_min room piece) ∙ sym (take-append-add bytes piece room) ∙ ap (λ k. take k (bytes ++ piece)) whole

-- the front of a front and what follows is that of the whole
pub front_again : (n : ℕ) (bytes piece : List ℕ) → take n (take n bytes ++ piece) ≡ take n (bytes ++ piece)
front_again n bytes piece = grind (arith, length-take-le, take-append-le, take_all)

pub front_joined : (n : ℕ) (kept a b : List ℕ) → take n (take n (kept ++ a) ++ b) ≡ take n (kept ++ (a ++ b))
front_joined n kept a b = front_again n (kept ++ a) b ∙ ap (take n) (append_assoc kept a b)

-- the pieces joined, and with one more
abbrev joined : List (Bor (List ℕ)) → List ℕ
joined pieces = concat (map (λ piece. piece.now) pieces)

joined_more : (pieces : List (Bor (List ℕ))) (i : ℕ) (d : Bor (List ℕ)) → i < length pieces
    → joined (take (i + 1) pieces) ≡ joined (take i pieces) ++ (get_or pieces i d).now
joined_more pieces i d lt =
    ap concat (map_more (λ piece. piece.now) pieces i d lt)
    ∙ concat-append (map (λ piece. piece.now) (take i pieces)) ((get_or pieces i d).now ∷ [])
    ∙ ap (λ u. joined (take i pieces) ++ u) (append-nil (get_or pieces i d).now)

pub front_more : (n i : ℕ) (bytes kept new : List ℕ) (pieces : List (Bor (List ℕ))) (d : Bor (List ℕ)) → i < length pieces
    → kept ≡ take n (bytes ++ joined (take i pieces)) → new ≡ take n (kept ++ (get_or pieces i d).now) → new ≡ take n (bytes ++ joined (take (i + 1) pieces))
front_more n i bytes kept new pieces d lt before now = grind (arith, front_joined, joined_more)

pub front_alone : (n : ℕ) (bytes : List ℕ) → length bytes ≤ n → bytes ≡ take n (bytes ++ [])
front_alone n bytes few = sym (ap (take n) (append-nil bytes) ∙ take_all n bytes few)

-- a piece leaves less room by its length
pub room_left : (n : ℕ) (new bytes piece : List ℕ) → new ≡ take n (bytes ++ piece) → n - length new ≡ n - length bytes - length piece
room_left n new bytes piece e = omega (arith, ap length e, length-take n (bytes ++ piece), length-append bytes piece)

-- what grows bytes that grow others grows these
pub grown_more : (bytes kept new : List ℕ) → (added : List ℕ) × (kept ≡ bytes ++ added) → (added : List ℕ) × (new ≡ kept ++ added)
    → (added : List ℕ) × (new ≡ bytes ++ added)
grown_more bytes kept new (added, before) (more, now) = (added ++ more, now ∙ ap (λ u. u ++ more) before ∙ append_assoc bytes added more)
