use Rattle.std.proofs.Common.{◌∙◌, ◌++◌, ◌∷◌, [], ap, append_assoc, sym}
use Rattle.mime_types.specs.Pieces.{pieces_left}
use Rattle.mime_types.proofs.ExtractedLemmas.{run_more, view_more}
use Rattle.mime_types.proofs.extraction.last_run.Goals as goal

pub loop-piece-preserved : goal.loop-piece-preserved
loop-piece-preserved c =
    let (done, whole, is, view) = c.loop-piece.invariant in
    let piece = c.in-Some.piece.now in (
      done ++ piece ∷ [],
      whole ∙ (ap (λ l. done ++ l) c.in-Some.ensures ∙ sym (append_assoc done (piece ∷ []) (pieces_left c.next.new.self))),
      run_more done piece c.loop-piece.run c.extended-run.result c.extended-run.ensures.says is,
      view_more done piece c.loop-piece.run c.extended-run.result c.extended-run.ensures.view view,
    )
