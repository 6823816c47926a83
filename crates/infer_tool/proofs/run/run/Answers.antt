use Rattle.infer_tool.proofs.Common.{codes, rules}
use Rattle.infer_lines.proofs.SaidLemmas.{said_plainly}
use Rattle.infer_tool.proofs.RunLemmas.{input_of_reader, reader_moves, runs_moved}
use Rattle.infer_tool.proofs.run.run.Goals as goal

pub returns-clause-said : goal.returns-clause-said
returns-clause-said g c = runs_moved _ _ _ _ _ _ _
    (λ n Lost. reader_moves g.I.Read.remaining n Lost c.new-3.result c.run_watched.new.input (codes "-"))
    (λ This moves says fine. said_plainly g.W.Write.contents g.E.Write.contents (record { out = c.new.result; err = c.new-2.result }) c.run_watched.new.output
    c.run_watched.result _ _ _ _ (search rules) (search rules) (search rules) (search rules) (search rules) c.run_watched.ensures.later This says fine)
    (λ n Lost says fine. input_of_reader g.I.Read.remaining n Lost c.new-3.result c.run_watched.new.input c.args.input (codes "-") _ _ _ _ _ (search rules) (says fine))
    (λ refusal refused. search rules) c.run_watched.ensures.said
