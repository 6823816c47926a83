use Rattle.infer_more.proofs.Common.{◌≡◌, ◌++◌, ℕ, None, Option, parent_sample, refl, subst, sym, zeros}
use Rattle.infer_more.specs.declared.samples.TheConstants.{SAMPLE_SIZE}
use Rattle.infer_more.proofs.samples.parent.Goals as goal

after_none : (size : ℕ) (parent : Option ℕ) → parent ≡ None → zeros size ≡ parent_sample parent ++ zeros size
after_none size parent none = subst (λ p. zeros size ≡ parent_sample p ++ zeros size) (sym none) refl

pub returns-in-None-clause-written : goal.returns-in-None-clause-written
returns-in-None-clause-written c = after_none SAMPLE_SIZE c.args.parent c.in-None.is
