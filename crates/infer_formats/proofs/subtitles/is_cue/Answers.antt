use Rattle.infer_formats.proofs.Common.{◌+◌, subst, arith, EndsLine}
use Rattle.infer_formats.proofs.SubtitlesLemmas.{cue_by_count, line_after}
use Rattle.infer_formats.proofs.subtitles.is_cue.Goals as goal

pub returns-in-None : goal.returns-in-None
returns-in-None c = (
  λ is. absurd (cc),
  λ (m, t, small, others, line, span).
      let n = c.digit_count-count.ensures in
      let same = cue_by_count c.args.buf.now c.args.place c.digit_count-count.result m t n.few n.digits n.ends small.1 others line in
      let there = subst (λ k. EndsLine c.args.buf.now (c.args.place + k) t) same line in
      let near = line_after c.args.buf.now _ t there in
      absurd (c.in-None.ensures t (there, omega arith)),
)
