use Rattle.infer_more.proofs.Common.{◌∙◌, ◌<◌, arith, length, lt-ltb, sym}
use Rattle.infer_more.proofs.deciding_bytes.ask_byte.Goals as goal

pub returns-then-is_asked-clause-proves : goal.returns-then-is_asked-clause-proves
returns-then-is_asked-clause-proves c = λ b bytes agrees.
    let here = c.is_asked.ensures c.if-is_asked.true c.args.buf.now b agrees c.args.place (omega arith) (omega arith) in
    let within : c.args.place < length c.args.buf.now = omega arith in
    (agrees, (lt-ltb c.args.place (length b) here.0 ∙ sym (lt-ltb c.args.place (length c.args.buf.now) within), here.1))

pub returns-clause-proves : goal.returns-clause-proves
returns-clause-proves c = λ b bytes agrees.
    let asked = c.ask.ensures.same c.args.buf.now b agrees in
    let here = c.new.ensures.reads c.args.buf.now b asked.1 c.args.place (omega arith) (omega arith) in
    let within : c.args.place < length c.args.buf.now = omega arith in
    (asked.0, (lt-ltb c.args.place (length b) here.0 ∙ sym (lt-ltb c.args.place (length c.args.buf.now) within), here.1))
