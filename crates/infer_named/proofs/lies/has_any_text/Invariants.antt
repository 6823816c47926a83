use Rattle.std.proofs.Common.{◌≡◌, drop, map}
use Rattle.std.specs.List.{list_any}
use Rattle.infer_named.specs.Join.{is_any_text}
use Rattle.infer_named.specs.Listed.{reading_listed}
use Rattle.infer_named.proofs.lies.has_any_text.Given as goal

-- what is left has one exactly if all has
abbrev pub invariant-loop-reading : goal.invariant-loop-reading
invariant-loop-reading l =
    list_any is_any_text (map reading_listed (drop l.reading-index l.readings)) ≡ list_any is_any_text (map reading_listed l.readings)
