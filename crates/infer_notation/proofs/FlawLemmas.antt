-- What is left unread of a text, token by token.
use Rattle.std.proofs.Common.{◌≡◌, ◌<◌, ◌≤◌, ℕ, false, List, [], ◌∷◌, Option, None, Some, IfSome, length, drop, option_map, refl, sym, ap, ◌∙◌, get_or, arith}
use denote.Ref.{Bor}
use Rattle.infer_notation.specs.Flaws.{IsFlawOf}
use Rattle.infer_notation.specs.Grammar.{unread, unread_at}
use Rattle.infer_notation.specs.Relations.{left_length}
use Rattle.infer_notation.specs.Tokens.{Token, token_at}
use Rattle.infer_notation.specs.declared.reason.Flaw.{Flaw}
use Rattle.infer_notation.specs.Words.{after_blanks, is_blank}
use Rattle.infer_notation.proofs.ReadLemmas as read

-- bytes of a token that was read count no more
past_read : (n : ℕ) (xs : List ℕ) → unread_at n xs ≡ unread_at 0 (drop n xs)
past_read = read.past_read unread_at (λ n. refl) (λ n x xs. refl)

-- nor do blanks
pub past_blanks : (xs : List ℕ) → unread (after_blanks xs) ≡ unread xs
past_blanks = read.past_blanks unread (λ x xs is. rw is refl)

-- after a token, what is left unread is the same
pub past_token : (front : List ℕ) (t : Token) (n : ℕ) → 0 < length front → is_blank (get_or front 0 0) ≡ false → Some (t, n) ≡ token_at front
    → unread front ≡ unread (drop n (drop 1 front))
past_token [] t n some dark is = absurd (omega arith)
past_token (x ∷ xs) t n some dark is = rw (dark, sym is) (past_read n xs)

-- and where no token stands, that is all
pub no_token : (front : List ℕ) → 0 < length front → is_blank (get_or front 0 0) ≡ false → None ≡ token_at front → unread front ≡ front
no_token [] some dark is = absurd (omega arith)
no_token (x ∷ xs) some dark is = rw (dark, sym is) refl

-- what is wrong with what is left of a text is wrong with the text
pub flaw_after : (text rest : List ℕ) (flaw : Flaw) → length rest ≤ length text → unread text ≡ unread rest → IsFlawOf rest flaw → IsFlawOf text flaw
flaw_after text rest flaw fits same is = record {
  inside = (let inside = is.inside in omega arith);
  first = λ token. is.first token ∙ ap length (sym same);
}

-- what stands after the next alternative of a relation
pub after_next : (text more : List ℕ) (after : Option (Bor (List ℕ))) → unread text ≡ unread more → length more ≤ length text
    → IfSome after (λ t. unread more ≡ unread t.now) → left_length (option_map (λ t. t.now) after) ≤ length more
    → IfSome after (λ t. (unread text ≡ unread t.now) × (length t.now ≤ length text))
after_next text more None same fits read less = tt
after_next text more (Some t) same fits read less = (same ∙ read, omega arith)
