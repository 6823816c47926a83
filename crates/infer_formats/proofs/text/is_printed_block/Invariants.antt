-- what is least is not above any byte so far, nor above any that many past 0B
use Rattle.infer_formats.proofs.Common.{◌+◌, ◌%◌, ◌≤◌, AllBelow}
use Rattle.infer_formats.proofs.text.is_printed_block.Given as goal

abbrev pub invariant-loop-i : goal.invariant-loop-i
invariant-loop-i l =
    AllBelow (λ x. l.least ≤ x) l.block l.i × AllBelow (λ x. l.least_past ≤ (x + 245) % 256) l.block l.i
