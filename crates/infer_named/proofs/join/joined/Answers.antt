use Rattle.std.proofs.Common.{◌∙◌, ◌&&◌, ap, get_or, sym}
use Rattle.std.proofs.lemmas.Bool.{and_from}
use Rattle.std.specs.Prelude.{is_some}
use Rattle.infer.specs.Triple.{triple_of}
use Rattle.infer_named.specs.Bytes.{lead_of}
use Rattle.infer_named.specs.Join.{fits, joined_with, reading_of, takes}
use Rattle.infer_named.specs.Listed.{key_listed, reading_listed}
use Rattle.infer_named.proofs.SetLemmas.{found_here, found_later, off_left, off_right, takes_is}
use Rattle.infer_named.proofs.join.joined.Goals as goal
use Rattle.infer_named.proofs.join.joined.Goals.{else-is_some-via-then-is_some+else-fits, else-is_some-via-else-is_some}

pub loop-reading-preserved : goal.loop-reading-preserved
loop-reading-preserved c =
    let t = triple_of c.args.t in
    let lead = lead_of c.args.buf.now in
    let reading = reading_listed (get_or c.readings_of-readings.result.now c.loop-reading.reading-index _) in
    let later = found_later reading_listed (λ r. fits lead r && takes t r) c.readings_of-readings.result.now c.loop-reading.reading-index _ c.loop-reading-test.true in
    elim c.else-is_some.branch [
      | else-is_some-via-then-is_some+else-fits w ↦ sym (later (off_left _ _ (sym w.fits.ensures ∙ w.if-fits.false))) ∙ c.loop-reading.invariant
      | else-is_some-via-else-is_some w ↦
          sym (later (off_right _ _ (sym (takes_is t reading) ∙ ap is_some (sym c.standing_in-standing.ensures) ∙ sym c.is_some.ensures ∙ w.if-is_some.false)))
          ∙ c.loop-reading.invariant
    ]

pub returns-then-fits-clause-answer : goal.returns-then-fits-clause-answer
returns-then-fits-clause-answer c =
    let t = triple_of c.args.t in
    let lead = lead_of c.args.buf.now in
    let reading = reading_listed (get_or c.readings_of-readings.result.now c.loop-reading.reading-index _) in
    let taken = sym (takes_is t reading) ∙ ap is_some (sym c.standing_in-standing.ensures) ∙ sym c.is_some.ensures ∙ c.if-is_some.true in
    let here = found_here reading_listed (λ r. fits lead r && takes t r) c.readings_of-readings.result.now c.loop-reading.reading-index _ c.loop-reading-test.true
    (and_from _ _ (sym c.fits.ensures ∙ c.if-fits.true) taken) in
    let found = ap (λ rs. reading_of rs t lead) (sym c.readings_of-readings.ensures) ∙ sym c.loop-reading.invariant ∙ here in
    c.told_by.ensures.answer ∙ sym (ap (λ o. joined_with (key_listed c.args.key.now) t o) found)
