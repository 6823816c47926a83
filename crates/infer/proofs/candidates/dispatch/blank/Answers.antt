use Rattle.infer.proofs.Common.{[], refl, le16, le32, be32, stands, table}
use Rattle.infer_sig.proofs.KnownLemmas.{proof_of}
use Rattle.infer.proofs.OrderLemmas.{none_accepts}
use Rattle.infer.proofs.candidates.dispatch.blank.Goals as goal

pub returns : goal.returns
unfolding table stands le16 le32 be32
returns c = proof_of (none_accepts c.by_place.ensures []) refl
