use Rattle.infer_more.proofs.RuledLemmas.{like_row}
use Rattle.infer_more.proofs.deciding_bytes.rule_out.Goals as goal

pub returns-then-i-asked-clause-proves : goal.returns-then-i-asked-clause-proves
returns-then-i-asked-clause-proves c = λ b bytes agrees.
    let told = c.weigh_at.ensures.proves b bytes agrees in
    (told.0, like_row c.args.asked.now.parent b c.args.asked.now.least c.args.asked.now.buf.now c.args.i c.requires.1 told.1)
