-- whether one of the texts so far stands there
use Rattle.infer_deep.proofs.Common.{◌≡◌, take, list_any}
use Rattle.infer_sig.specs.Signature.{stands}
use Rattle.infer_sig.proofs.places.any_matches_at.Given as goal

abbrev pub invariant-loop-text : goal.invariant-loop-text
invariant-loop-text g l = l.any ≡ list_any (λ t. stands l.place t l.buf) (take l.text-index l.texts)
