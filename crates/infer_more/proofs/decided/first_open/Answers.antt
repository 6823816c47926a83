use Rattle.infer_more.proofs.Common.{◌≡◌, ℕ, MatchOption, MayWiden, further}
use Rattle.std.proofs.Common.{rules, slice_get, tests}
use Rattle.std.proofs.lemmas.Iterator.{first_from_Range}
use Rattle.infer_more.proofs.DecidedLemmas.{awaited_found}
use Rattle.infer_more.proofs.TableLemmas.{length-further}
use Rattle.infer_more.proofs.decided.first_open.Goals as goal

pub returns : goal.returns
returns c =
    let May : ℕ → Type 0 = λ i. MatchOption (slice_get further i) ⊥ (MayWiden c.args.parent c.args.buf.now) in
    let Below : ℕ → Type 0 = λ i. MatchOption (slice_get further i) ⊥ (λ r. r.parent ≡ c.args.parent) in
    awaited_found c.args.parent c.args.buf.now _ length-further c.find.result
    (first_from_Range _ _ _ c.find.result Below (λ i. ¬ May i) c.find.ensures.ran (λ i q called. search (rules, tests)) (λ i q called. search (rules, tests)))
