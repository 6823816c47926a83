use Rattle.std.proofs.Common.{subst}
use Rattle.infer.specs.First.{IsFirstOf}
use Rattle.infer_more.specs.Text.{LineAnswers, lines_of}
use Rattle.infer_more.proofs.types.answer_line.Goals as goal

pub returns : goal.returns
returns c = λ described.
    let (parent, answers, same) = c.built_in-extension.ensures in
    let (place, first, is) = c.find_line.ensures described in
    record {
      parent = parent;
      answers = answers;
      place = place;
      first = subst (λ e. IsFirstOf (LineAnswers e c.args.buf.now) (lines_of c.args.text.now) place) same first;
      is = is;
    }
