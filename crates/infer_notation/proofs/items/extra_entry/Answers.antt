use Rattle.infer_notation.proofs.Common.{◌≡◌, ◌<◌, ◌∷◌, List, None, [], arith, length, map, refl, extra_entry, token_listed}
use Rattle.infer_formats.specs.declared.token.Token.{Token}
use Rattle.infer_notation.proofs.items.extra_entry.Goals as goal

few : (ts : List Token) → length ts < 2 → None ≡ extra_entry (map token_listed ts)
few [] less = refl
few (t ∷ []) less = refl
few (t ∷ u ∷ ts) less = absurd (omega arith)

pub returns-in_default : goal.returns-in_default
returns-in_default c = few c.args.tokens.now c.in_default.len_below
