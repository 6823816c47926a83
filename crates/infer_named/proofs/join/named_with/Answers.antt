use Rattle.std.proofs.Common.{◌∙◌, ap, option_map, subst, sym}
use Rattle.infer.specs.Triple.{triple_of}
use Rattle.infer_named.specs.Bytes.{lead_of}
use Rattle.infer_named.specs.Join.{join}
use Rattle.infer_named.specs.Names.{IsKey}
use Rattle.infer_named.specs.Table.{keys}
use Rattle.infer_named.proofs.join.named_with.Goals as goal

pub returns-in-Some : goal.returns-in-Some
returns-in-Some c =
    let wider = option_map triple_of c.args.found in record {
      wider = wider;
      is_key = subst (λ o. IsKey keys c.args.name.now o) (sym c.keyed.ensures.key) c.in-Some.ensures;
      is_wider = c.requires;
      is = λ kind h. c.keyed.ensures.answer kind h ∙ ap (λ k. join k wider kind (lead_of c.args.buf.now)) (sym c.keyed.ensures.key);
    }

pub returns-in-None : goal.returns-in-None
returns-in-None c =
    let wider = option_map triple_of c.args.found in record {
      wider = wider;
      is_key = subst (λ o. IsKey keys c.args.name.now o) (sym c.unnamed.ensures.key) c.in-None.ensures;
      is_wider = c.requires;
      is = λ kind h. c.unnamed.ensures.answer ∙ ap (λ k. join k wider kind (lead_of c.args.buf.now)) (sym c.unnamed.ensures.key);
    }
