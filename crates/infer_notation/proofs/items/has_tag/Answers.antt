use Rattle.std.specs.Prelude.{◌-◌}
use Rattle.std.proofs.Math.Seq.{take-length}
use Rattle.infer_notation.proofs.Common.{◌≡◌, ◌∙◌, ◌<◌, ◌≤◌, ◌∷◌, ℕ, List, None, Some, [], true, arith, codes, drop, get_or, length, map, option_map, refl, sym, take, ap, token_listed}
use Rattle.infer_formats.specs.Relation.{directory_tag, directory_tag_and_make}
use Rattle.infer_formats.specs.declared.token.Token.{Token}
use Rattle.infer_notation.specs.Alternative.{related}
use Rattle.infer_notation.specs.Relations.{after_tag}
use Rattle.infer_notation.specs.Texts.{text_in}
use Rattle.infer_notation.specs.Tokens.{is_word}
use Rattle.infer_notation.proofs.items.has_tag.Goals as goal
use Rattle.infer_notation.proofs.SeenLemmas.{one_seen}

none : (n : ℕ) (ts : List Token) → length ts < 1 → Some (directory_tag n) ≡ after_tag n (map token_listed ts)
none n [] less = refl
none n (t ∷ ts) less = absurd (omega arith)

alone : (n : ℕ) (ts : List Token) → 1 ≤ length ts → length ts < 2 → after_tag n (map token_listed ts) ≡ None
alone n (t ∷ []) more less = refl
alone n [] more less = absurd (omega arith)
alone n (t ∷ u ∷ ts) more less = absurd (omega arith)

made : (n : ℕ) (d : Token) (ts : List Token) (make : List ℕ) → 2 ≤ length ts → true ≡ is_word (codes "and") (token_listed (get_or ts 0 d))
    → true ≡ is_word (codes "make") (token_listed (get_or ts 1 d)) → Some make ≡ text_in (map token_listed (take (length ts - 2) (drop 2 ts)))
    → Some (directory_tag_and_make n make) ≡ after_tag n (map token_listed ts)
made n d (t ∷ u ∷ ts) make more and is text =
    let long : length (t ∷ u ∷ ts) - 2 ≡ length ts = omega arith in
    let all : take (length (t ∷ u ∷ ts) - 2) ts ≡ ts = ap (λ k. take k ts) long ∙ take-length ts in
    let read : Some make ≡ text_in (map token_listed ts) = text ∙ ap (λ us. text_in (map token_listed us)) all in
    rw (sym and, sym is, sym read) refl
made n d [] make more and is text = absurd (omega arith)
made n d (t ∷ []) make more and is text = absurd (omega arith)

pub returns-in-empty : goal.returns-in-empty
returns-in-empty c = one_seen (after_tag c.args.tag (map token_listed c.args.tokens.now)) (directory_tag c.args.tag) c.args.buf.now _ (none c.args.tag c.args.tokens.now c.in-empty.len_below) c.fits.ensures

pub returns-in_ok-make-in-len2-up : goal.returns-in_ok-make-in-len2-up
returns-in_ok-make-in-len2-up c =
    let t = c.args.tokens.now in
    let is : Some c.read.result.now ≡ text_in (map token_listed (take (length t - 2) (drop 2 t))) = ap Some c.read.ensures ∙ c.in_ok-make-in-len2-up.ensures in
    let all = made c.args.tag _ t c.read.result.now c.in-len2-up.len_at_least c.if-is_word.ensures c.if-is_word-2.ensures is in
    one_seen (after_tag c.args.tag (map token_listed t)) (directory_tag_and_make c.args.tag c.read.result.now) c.args.buf.now _ all c.fits-in-len2-up.ensures

pub returns-in_default : goal.returns-in_default
returns-in_default c = ap (option_map (λ r. related r ∷ [])) (alone c.args.tag c.args.tokens.now c.in_default.len_at_least c.in_default.len_below)
