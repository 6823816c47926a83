use Rattle.std.proofs.Common.{List, ℕ}
use Rattle.infer_sniff.specs.Verdicts.{IsFinal, IsSettled, IsVerdict}
use Rattle.infer_sniff.specs.declared.verdict.Verdict.{Verdict}
use Rattle.infer_sniff.specs.declared.verdict.Verdict.TheVariants.{SoFar, Final}
use Rattle.test_infer.proofs.streams.final_and_decided.Goals as goal

settled : (b : List ℕ) (v : Verdict) → IsVerdict b v → IsFinal v → IsSettled b
settled b (SoFar found) h final = absurd final
settled b (Final found) h final = h.0

pub returns : goal.returns
returns g c = λ final.
    c.is_decided.ensures.1 (c.decided.ensures _ (settled _ _ c.push-verdict.ensures.verdict (c.is_final.ensures.0 final)))
