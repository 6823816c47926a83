-- Lines of a text.
use Rattle.infer_more.proofs.Common.{◌≡◌, ◌+◌, ◌<◌, ℕ, true, false, List, [], ◌∷◌, ◌++◌, length, get_or, take, drop, sym, ap, ◌∙◌, arith, drop_more, get_or-take, length-take, take-append-drop, slice_split_at, slice_split_none, is_line_end, lines_of}
use Rattle.std.specs.List.{All}
use Rattle.std.proofs.lemmas.Bool.{false_from_ne_true}
use Rattle.std.proofs.lemmas.List.Elements.{All-from_get_or}

-- a line that ends at n
pub line_ended : (text : List ℕ) (n : ℕ) → n < length text → is_line_end (get_or text n 0) ≡ true → ((k : ℕ) → k < n → is_line_end (get_or text k 0) ≡ true → ⊥)
    → lines_of text ≡ take n text ∷ lines_of (drop (n + 1) text)
line_ended text n lt ends before =
    let none : All (λ x. is_line_end x ≡ false) (take n text) =
    All-from_get_or (λ x. is_line_end x ≡ false) (take n text) 0 (λ i inside.
    let below : i < n = omega (arith, length-take n text) in
    ap is_line_end (get_or-take n text i 0 below) ∙ false_from_ne_true (is_line_end (get_or text i 0)) (before i below)) in
    let whole : text ≡ take n text ++ get_or text n 0 ∷ drop (n + 1) text = sym (take-append-drop n text) ∙ ap (λ r. take n text ++ r) (drop_more text n 0 lt) in
    ap lines_of whole ∙ slice_split_at is_line_end (take n text) (get_or text n 0) (drop (n + 1) text) none ends

-- a last line
pub line_last : (text : List ℕ) → ((k : ℕ) → k < length text → is_line_end (get_or text k 0) ≡ true → ⊥) → lines_of text ≡ text ∷ []
line_last text before = slice_split_none is_line_end text (All-from_get_or (λ x. is_line_end x ≡ false) text 0 (λ i inside. false_from_ne_true (is_line_end (get_or text i 0)) (before i inside)))
