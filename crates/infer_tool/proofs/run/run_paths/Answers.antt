use Rattle.infer_tool.proofs.Common.{◌∙◌, ap, refl, rules, string_bytes, no_input, has_failed, inner, Known}
use Rattle.infer_lines.proofs.SaidLemmas.{keeps_unless_failed}
use Rattle.infer_tool.proofs.RunLemmas.{each-more}
use Rattle.infer_tool.proofs.run.run_paths.Goals as goal

pub loop-word-init : goal.loop-word-init
loop-word-init g c = record {
  said = (
    Known,
    refl,
    no_input _ _ _ _ (keeps_unless_failed (has_failed c.args.output.now.out) (g.W.Write.contents (inner c.args.output.now.out)))
        (keeps_unless_failed (has_failed c.args.output.now.err) (g.E.Write.contents (inner c.args.output.now.err))),
  );
  later = ((refl, λ f. f), (refl, λ f. f), λ _. refl);
}

pub loop-word-preserved : goal.loop-word-preserved
loop-word-preserved g c = record {
  said = rw c.worse-outcome.ensures (each-more string_bytes g.W.Write.contents g.E.Write.contents c.args.n c.args.words.now c.loop-word.word-index c.word-item.result
      c.as_str.result.now c.args.output.now c.loop-word.output c.run_path_within.new.output c.loop-word.outcome c.run_path_within.result c.loop-word-test.true
      (c.as_str.ensures.value ∙ ap string_bytes c.word-item.is) c.run_path_within.ensures.later c.loop-word.invariant.said c.run_path_within.ensures.said);
  later = search rules;
}
