use Rattle.std.proofs.Common.{refl}
use Rattle.infer.specs.declared.beginnings.Beginning.TheVariants.{White}
use Rattle.test_infer.proofs.growing.begins_in_none.Goals as goal

pub returns-else-not-begins_white : goal.returns-else-not-begins_white
returns-else-not-begins_white c = (λ t. absurd (cc), λ never. absurd (never White (c.if-not-begins_white.ensures.0 refl)))
