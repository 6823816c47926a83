use Rattle.std.proofs.Common.{◌≡◌, ◌∙◌, ◌<◌, ℕ, false, ap, arith, get_or, map, refl}
use Rattle.std.proofs.lemmas.List.{get_or_default}
use Rattle.std.proofs.lemmas.List.FromFn.{get_or-map-range_with_len}
use Rattle.std.specs.List.{range_with_len}
use Rattle.mime_types.specs.Bytes.{is_token}
use Rattle.mime_types.specs.declared.bytes.TheConstants.{TOKENS}
use Rattle.mime_types.proofs.bytes.is_token.Goals as goal

-- the chart has what each byte is
charted : TOKENS ≡ map is_token (range_with_len 0 256)
charted = refl

told : (x : ℕ) → x < 256 → get_or TOKENS x false ≡ is_token x
told x low = ap (λ l. get_or l x false) charted ∙ get_or-map-range_with_len is_token 0 256 x x false low (omega arith)

pub returns : goal.returns
returns c = get_or_default TOKENS c.from.result _ false (omega arith) ∙ told c.from.result (omega arith) ∙ ap is_token c.from.ensures
