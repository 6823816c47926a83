use Rattle.infer_more.proofs.Common.{false≢true}
use Rattle.infer_more.specs.Index.{IsFoundByName}
use Rattle.infer_more.proofs.FoundLemmas.{none_told, told_rooted}
use Rattle.infer_more.proofs.LeastLemmas.{least_none}
use Rattle.infer_more.proofs.index.search.least_by_name.Goals as goal

pub returns-then-not-may_have_name : goal.returns-then-not-may_have_name
returns-then-not-may_have_name c =
    least_none (IsFoundByName c.args.names.now c.args.buf.now) c.args.before
    (none_told c.args.names.now c.args.buf.now c.leads.ensures (λ may. false≢true (c.if-not-may_have_name.ensures may)))

pub returns-then-has_byte : goal.returns-then-has_byte
returns-then-has_byte c = told_rooted c.args.names.now c.args.buf.now _ c.args.before _ c.has_byte.ensures c.if-has_byte.true c.least_begun_markup.ensures
