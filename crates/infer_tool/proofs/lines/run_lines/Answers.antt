use Rattle.infer_tool.proofs.Common.{codes, rules, ◌∙◌}
use Rattle.std.specs.Io.Buffered.{line_writer_contents, writer_contents}
use Rattle.infer_lines.specs.Halting.{halting_contents}
use Rattle.infer_lines.proofs.SaidLemmas.{refused_is_said, refuses_moves, said_through}
use Rattle.infer_tool.proofs.RunLemmas.{reader_moves, runs_moved}
use Rattle.infer_tool.proofs.lines.run_lines.Goals as goal

-- what was said of the buffers is said of the writers that they were made over
pub returns-clause-said : goal.returns-clause-said
returns-clause-said g c =
    let held = line_writer_contents (writer_contents (halting_contents g.W.Write.contents)) in
    let err_held = line_writer_contents (writer_contents (halting_contents g.E.Write.contents)) in
    let through = said_through g.W.Write.contents g.E.Write.contents held err_held c.args.out c.args.err (record { out = c.new.result; err = c.new-2.result })
    c.run_watched-outcome.new.output c.run_watched-outcome.result (c.failed_if.result, (c.writer_of.result, c.writer_of-2.result)) (search rules)
    (rw c.new.ensures.writer c.in_ok-lines.ensures.bytes) (search rules) (λ f. c.writer_of.ensures.failed (c.has_failed-out_failed.ensures ∙ f))
    (rw c.new-2.ensures.writer c.in_ok-faults.ensures.bytes) (search rules) (λ f. c.writer_of-2.ensures.failed (c.has_failed-err_failed.ensures ∙ f)) in
    runs_moved _ _ _ _ _ _ _ (λ n Lost. reader_moves g.I.Read.remaining n Lost c.args.input.now c.run_watched-outcome.new.input (codes "-")) through
    (λ n Lost said. said) (λ refusal refused. through _ (refuses_moves refusal) (refused_is_said held err_held (record { out = c.new.result; err = c.new-2.result })
    c.run_watched-outcome.new.output c.run_watched-outcome.result refusal refused)) c.run_watched-outcome.ensures.said
