-- the words so far were reported
use Rattle.infer_tool.proofs.Common.{map, outcome_after, string_bytes, take, ReportsEach, Says, IsAfter, has_failed}
use Rattle.infer_tool.proofs.run.run_paths.Given as goal

abbrev pub invariant-loop-word : goal.invariant-loop-word
invariant-loop-word g l = record {
  said : Says g.W.Write.contents g.E.Write.contents l.initial.output l.output (outcome_after (has_failed l.output.out) l.outcome)
      (ReportsEach l.n (map string_bytes (take l.word-index l.words)));
  later : IsAfter l.initial.output l.output l.outcome;
}
