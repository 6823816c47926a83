-- What is kept of a piece.
use Rattle.std.proofs.Common.{◌≡◌, ◌∙◌, ◌⊎◌, inl, inr, ℕ, ◌+◌, ◌-◌, ◌<◌, ◌≤◌, List, [], ◌∷◌, ◌++◌, ap, append_assoc, arith, length, length-take, sym, take, take-take}
use Rattle.std.proofs.Math.Seq.{take-append-add}
use Rattle.std.proofs.lemmas.Bool.{cases_lt}
use Rattle.std.proofs.lemmas.List.{append-nil, take-append-le, take_all}
use Rattle.std.specs.List.{concat}
use Rattle.mime_sniff.specs.Laws as laws
use Rattle.mime_sniff.specs.Standard.{header}

-- as much as there is room for
pub kept_of : (old piece : List ℕ) → length old ≤ 1445 → header (old ++ piece) ≡ old ++ take (1445 - length old) piece
kept_of old piece few =
    let n = 1445 - length old in
    let whole : length old + n ≡ 1445 = omega (arith, few) in
    ap (λ k. take k (old ++ piece)) (sym whole) ∙ take-append-add old piece n

-- what is kept is kept again with what comes after it
header_again : (a b : List ℕ) → header (header a ++ b) ≡ header (a ++ b)
header_again a b = cases (cases_lt (length a) 1445)
  where
    cases : (length a < 1445) ⊎ (1445 ≤ length a) → header (header a ++ b) ≡ header (a ++ b)
    cases (inl short) = ap (λ x. header (x ++ b)) (take_all 1445 a (omega (arith, short)))
    cases (inr long) =
        take-append-le 1445 (header a) b (omega (arith, long, length-take 1445 a))
        ∙ (take-take 1445 1445 a (omega arith) ∙ sym (take-append-le 1445 a b long))

keeps_after : (a : List ℕ) (pieces : List (List ℕ)) → laws.kept_of (header a) pieces ≡ header (a ++ concat pieces)
keeps_after a [] = ap header (sym (append-nil a))
keeps_after a (p ∷ ps) =
    ap (λ k. laws.kept_of k ps) (header_again a p) ∙ (keeps_after (a ++ p) ps ∙ ap header (append_assoc a p (concat ps)))

pub keeps_header : (pieces : List (List ℕ)) → laws.kept_of [] pieces ≡ header (concat pieces)
keeps_header pieces = keeps_after [] pieces
