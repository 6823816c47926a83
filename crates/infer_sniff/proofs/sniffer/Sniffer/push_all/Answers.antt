use Rattle.infer_sniff.proofs.Common.{◌≡◌, ◌++◌, List, ℕ, [], take, sym, subst, append-nil, IsVerdict, StaysFinal}
use Rattle.infer_sniff.proofs.KeptLemmas.{front_alone, front_more, grown_more}
use Rattle.infer_sniff.proofs.sniffer.Sniffer.push_all.Goals as goal

pub loop-piece-init : goal.loop-piece-init
loop-piece-init g c =
    subst (λ u. (u ≡ take 8192 (u ++ [])) × ((added : List ℕ) × (u ≡ u ++ added)) × IsVerdict u c.self.inside.verdict × StaysFinal u c.self.inside.verdict) c.self.view_is
    (front_alone 8192 c.self.inside.bytes.items c.self.invariant.few, ([], sym (append-nil c.self.inside.bytes.items)), c.self.invariant.judged, c.self.invariant.lasts)

pub loop-piece-preserved : goal.loop-piece-preserved
loop-piece-preserved g c = (
  front_more 8192 c.loop-piece.piece-index c.args.self.now c.loop-piece.self c.push-verdict.new.self c.args.pieces.now _ c.loop-piece-test.true
      c.loop-piece.invariant.0 c.push-verdict.ensures.kept,
  grown_more c.args.self.now c.loop-piece.self c.push-verdict.new.self c.loop-piece.invariant.1 c.push-verdict.ensures.grows,
  c.push-verdict.ensures.verdict,
  c.push-verdict.ensures.lasts,
)
