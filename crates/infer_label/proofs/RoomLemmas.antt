-- A text that is laid into a room, and more of it after.
use Rattle.std.proofs.Common.{◌≡◌, ◌+◌, ◌-◌, ◌<◌, ◌≤◌, ℕ, List, [], ◌++◌, ap, ap₂, append-nil, append_assoc, arith, drop, length, length-append, length-drop, subst, sym, take, ◌∙◌}
use Rattle.std.proofs.Math.ListN.{drop_of_length-le}
use Rattle.std.proofs.Math.Seq.{drop-append_seam, take-append-add, take-append_seam}
use Rattle.std.proofs.lemmas.Grind.{common_steps}
use Rattle.std.proofs.lemmas.List.{drop-drop, take-append-le, take_all}
use Rattle.infer_label.specs.Writes.{laid}

-- a text that fills the room leaves none for more
pub laid_full : (text bytes start : List ℕ) → length start ≤ length text → laid text start ≡ laid (text ++ bytes) start
laid_full text bytes start full =
    ap₂ (λ a b. a ++ b) (sym (take-append-le (length start) text bytes full))
    (drop_of_length-le start full ∙ sym (drop_of_length-le start (subst (λ n. length start ≤ n) (sym (length-append text bytes)) (omega arith))))

-- of one that does not the front is the text, and after it stands what stood there
laid_short : (text start : List ℕ) → length text ≤ length start → laid text start ≡ text ++ drop (length text) start
laid_short text start short = ap (λ l. l ++ drop (length text) start) (take_all (length start) text short)

-- as many of both as there is room for
front_of : (text bytes : List ℕ) (room : ℕ) → length text ≤ room → text ++ take (room - length text) bytes ≡ take room (text ++ bytes)
front_of text bytes room short =
    let is : length text + (room - length text) ≡ room = omega arith in
    sym (take-append-add text bytes (room - length text)) ∙ ap (λ n. take n (text ++ bytes)) is

-- more bytes after a text
pub laid_more : (text bytes start : List ℕ) → length text ≤ length start
    → take (length text) (laid text start) ++ laid bytes (drop (length text) (laid text start)) ≡ laid (text ++ bytes) start
laid_more text bytes start short =
    let cells = laid_short text start short in
    let front = ap (take (length text)) cells ∙ take-append_seam text (drop (length text) start) in
    let rest = ap (drop (length text)) cells ∙ drop-append_seam text (drop (length text) start) in
    let after : drop (length bytes) (drop (length text) start) ≡ drop (length (text ++ bytes)) start =
    drop-drop (length bytes) (length text) start ∙ ap (λ n. drop n start) (sym (length-append text bytes)) in
    let room : take (length (drop (length text) start)) bytes ≡ take (length start - length text) bytes = ap (λ n. take n bytes) (length-drop (length text) start) in
    ap₂ (λ a b. a ++ laid bytes b) front rest
    ∙ ap₂ (λ a b. text ++ (a ++ b)) room after
    ∙ sym (append_assoc text (take (length start - length text) bytes) (drop (length (text ++ bytes)) start))
    ∙ ap (λ l. l ++ drop (length (text ++ bytes)) start) (front_of text bytes (length start) short)

-- what was laid into all that is after a place
laid_rest : (bytes cells new : List ℕ) (n k : ℕ) → n ≤ length cells → k ≡ length cells - n → new ≡ laid bytes (take k (drop n cells))
    → take n cells ++ (new ++ drop k (drop n cells)) ≡ take n cells ++ laid bytes (drop n cells)
laid_rest bytes cells new n k low is are =
    let all : length (drop n cells) ≤ k = subst (λ m. m ≤ k) (sym (length-drop n cells)) (omega arith) in
    let rest : drop k (drop n cells) ≡ [] = drop_of_length-le (drop n cells) all in
    let same : new ≡ laid bytes (drop n cells) = are ∙ ap (laid bytes) (take_all k (drop n cells) all) in
    ap (λ l. take n cells ++ l) (ap₂ (λ a b. a ++ b) same rest ∙ append-nil (laid bytes (drop n cells)))

-- a room that held a text, and into whose rest more was laid
pub laid_after : (text bytes start cells new : List ℕ) (n k : ℕ) → cells ≡ laid text start → n ≡ length text → n < length cells → k ≡ length cells - n
    → length cells ≡ length start → new ≡ laid bytes (take k (drop n cells)) → take n cells ++ (new ++ drop k (drop n cells)) ≡ laid (text ++ bytes) start
laid_after text bytes start cells new n k held is short rest same are =
    laid_rest bytes cells new n k (omega arith) rest are
    ∙ ap₂ (λ m c. take m c ++ laid bytes (drop m c)) is held
    ∙ laid_more text bytes start (omega arith)

pub length_laid : (text start : List ℕ) → length (laid text start) ≡ length start
length_laid text start = length-append (take (length start) text) (drop (length text) start) ∙ (grind (arith, common_steps))
