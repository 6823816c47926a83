-- What holds of a sniffer.
use Rattle.std.specs.Prelude.{◌≤◌, ℕ, List, length}
use Rattle.infer.specs.declared.read.head.TheConstants.{FRONT}
use Rattle.infer_sniff.specs.Verdicts.{IsVerdict, StaysFinal}
use Rattle.infer_sniff.specs.declared.verdict.Verdict.{Verdict}

-- there is room for as many bytes as are ever kept, and the verdict is that of the bytes and lasts
pub record IsSniffer (room : ℕ) (bytes : List ℕ) (verdict : Verdict) : Type 0 where
  pub reserved : FRONT ≤ room
  pub few : length bytes ≤ FRONT
  pub judged : IsVerdict bytes verdict
  pub lasts : StaysFinal bytes verdict
