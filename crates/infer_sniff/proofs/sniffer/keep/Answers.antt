use Rattle.infer_sniff.proofs.Common.{arith, rules, sym, ◌∙◌, append-nil}
use Rattle.infer_sniff.proofs.KeptLemmas.{front_of_both}
use Rattle.infer_sniff.proofs.sniffer.keep.Goals as goal

pub returns-then-count-eq0-clause-front : goal.returns-then-count-eq0-clause-front
returns-then-count-eq0-clause-front g c =
    sym (append-nil c.args.bytes.now.items) ∙ front_of_both 8192 0 c.args.bytes.now.items c.args.piece.now (grind arith) (grind arith)

pub returns-clause-front : goal.returns-clause-front
returns-clause-front g c =
    let fits = front_of_both 8192 c.min-count.result c.args.bytes.now.items c.args.piece.now (grind arith) (grind arith) in
    search rules
