use Rattle.infer_more.proofs.Common.{◌++◌, ◌∷◌, [], ℕ, IsLeast, IsTried, candidates, subst, tried_parentless}
use Rattle.infer_more.specs.Index.{text_rows}
use Rattle.infer_more.proofs.LeastLemmas.{tried_more}
use Rattle.infer_more.proofs.deciding_bytes.rule_out_by_lead.Goals as goal

pub returns-clause-proves : goal.returns-clause-proves
returns-clause-proves c = λ b bytes agrees.
    let parent = c.args.asked.now.parent in
    let by_lead = c.args.by_lead.now in
    let texts = by_lead.index.texts in
    let row : ℕ → Type 0 = λ i. IsLeast (IsTried parent b (i ∷ [])) c.args.asked.now.least c.args.asked.now.least in
    let plain = c.rule_out-3.ensures.proves b bytes agrees in
    let json = c.rule_out-2.ensures.proves b bytes plain.0 in
    let lines = c.rule_out.ensures.proves b bytes json.0 in
    let beside = c.rule_out_each.ensures.proves b bytes lines.0 in
    let spotted = c.rule_out_spotted.ensures.proves b bytes beside.0 in (
      spotted.0,
      tried_more parent b (tried_parentless by_lead.index b ++ candidates b by_lead.beside.now) (text_rows texts) _ _ _
          (tried_more parent b (tried_parentless by_lead.index b) (candidates b by_lead.beside.now) _ _ _ spotted.1 beside.1)
          (tried_more parent b (texts.lines ∷ []) (texts.json ∷ texts.plain ∷ []) _ _ _ (subst row c.from.ensures lines.1)
          (tried_more parent b (texts.json ∷ []) (texts.plain ∷ []) _ _ _ (subst row c.from-2.ensures json.1) (subst row c.from-3.ensures plain.1))),
    )
