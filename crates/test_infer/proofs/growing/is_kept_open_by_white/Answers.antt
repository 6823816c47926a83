use Rattle.test_infer.proofs.growing.is_kept_open_by_white.Goals as goal

pub returns-then-not-begins_white_alone : goal.returns-then-not-begins_white_alone
returns-then-not-begins_white_alone c =
    (λ t. absurd (cc), λ h. c.if-not-begins_white_alone.ensures.1 (h.holds, h.alone))
