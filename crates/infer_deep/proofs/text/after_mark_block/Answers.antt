use Rattle.infer_deep.proofs.Common.{[], ◌∷◌, inl, inr, refl, IsMark}
use Rattle.infer_deep.proofs.JoinedLemmas.{leads_past_repeat}
use Rattle.infer_deep.proofs.text.after_mark_block.Goals as goal

pub returns-then-has_at-clause-leads : goal.returns-then-has_at-clause-leads
returns-then-has_at-clause-leads c =
    leads_past_repeat IsMark _ (0xFE ∷ 0xFF ∷ []) 16 (inr (inl refl)) (c.has_at.ensures.0 c.if-has_at.true)

pub returns-then-has_at-2-clause-leads : goal.returns-then-has_at-2-clause-leads
returns-then-has_at-2-clause-leads c =
    leads_past_repeat IsMark _ (0xFF ∷ 0xFE ∷ []) 16 (inr (inr refl)) (c.has_at-2.ensures.0 c.if-has_at-2.true)

pub returns-then-has_at-3-clause-leads : goal.returns-then-has_at-3-clause-leads
returns-then-has_at-3-clause-leads c =
    leads_past_repeat IsMark _ (0xEF ∷ 0xBB ∷ 0xBF ∷ []) 8 (inl refl) (c.has_at-3.ensures.0 c.if-has_at-3.true)
