use Rattle.infer_more.proofs.Common.{Below, IsLeast, IsTried, candidates, inl, inr, named_row, subst, sym}
use Rattle.infer_more.specs.Index.{rows_in, rows_in_each, rows_of}
use Rattle.infer_more.proofs.LeastLemmas.{tried_more}
use Rattle.infer_more.proofs.deciding_bytes.rule_out_way.Goals as goal

pub returns-in-ClassIds-clause-proves : goal.returns-in-ClassIds-clause-proves
returns-in-ClassIds-clause-proves c = λ b bytes agrees.
    let least = c.args.asked.now.least in
    let second = c.rule_out_each-in-ClassIds-2.ensures.proves b bytes agrees in
    let first = c.rule_out_each-in-ClassIds.ensures.proves b bytes second.0 in
    let both = tried_more c.args.asked.now.parent b (candidates b c.in-ClassIds.entries.now) (rows_in named_row c.in-ClassIds.names.now) _ _ _ first.1 second.1 in (
      first.0,
      elim c.in-ClassIds.is as (λ _. IsLeast (IsTried c.args.asked.now.parent b (rows_of c.args.way.now b)) least least) [
        | inl is ↦ subst (λ (way : Below). IsLeast (IsTried c.args.asked.now.parent b (rows_of way b)) least least) (sym is) both
        | inr is ↦ subst (λ (way : Below). IsLeast (IsTried c.args.asked.now.parent b (rows_of way b)) least least) (sym is) both
      ],
    )

pub returns-in-Programs-clause-proves : goal.returns-in-Programs-clause-proves
returns-in-Programs-clause-proves c = λ b bytes agrees.
    let second = c.rule_out_lists.ensures.proves b bytes agrees in
    let first = c.rule_out_each-in-Programs.ensures.proves b bytes second.0 in (
      first.0,
      subst (λ (way : Below). IsLeast (IsTried c.args.asked.now.parent b (rows_of way b)) c.args.asked.now.least c.args.asked.now.least) (sym c.in-Programs.is)
          (tried_more c.args.asked.now.parent b (candidates b c.in-Programs.entries.now) (rows_in_each named_row c.in-Programs.names.now) _ _ _ first.1 second.1),
    )

pub returns-in-Tagged-clause-proves : goal.returns-in-Tagged-clause-proves
returns-in-Tagged-clause-proves c = λ b bytes agrees.
    let second = c.rule_out_each-in-Tagged-2.ensures.proves b bytes agrees in
    let first = c.rule_out_each-in-Tagged.ensures.proves b bytes second.0 in (
      first.0,
      subst (λ (way : Below). IsLeast (IsTried c.args.asked.now.parent b (rows_of way b)) c.args.asked.now.least c.args.asked.now.least) (sym c.in-Tagged.is)
          (tried_more c.args.asked.now.parent b (candidates b c.in-Tagged.entries.now) (candidates b c.in-Tagged.tagged.now) _ _ _ first.1 second.1),
    )
