use Rattle.infer_formats.proofs.Common.{Some, None, ◌∷◌, [], Decides-eqb}
use Rattle.std.proofs.lemmas.Slice.Eq.{strip_prefix_is}
use Rattle.infer_formats.proofs.FirstKeyLemmas.{closed}
use Rattle.infer_formats.proofs.json.key.past_closing.Goals as goal

pub returns-in-Some : goal.returns-in-Some
returns-in-Some c =
    let b = c.args.buf.now in
    let t = c.args.text.now in
    let rest = c.in-Some.rest in
    closed t b rest.now (strip_prefix_is Decides-eqb b t (Some rest) c.in-Some.ensures.cases) c.strip_prefix-in-Some.result
    (strip_prefix_is Decides-eqb rest.now (0x22 ∷ []) c.strip_prefix-in-Some.result c.strip_prefix-in-Some.ensures.cases)

pub returns-in-None : goal.returns-in-None
returns-in-None c = λ left. strip_prefix_is Decides-eqb c.args.buf.now c.args.text.now None c.in-None.ensures.cases (0x22 ∷ left)
