use Rattle.infer_deep.proofs.Common.{rules}
use Rattle.infer_deep.proofs.TextLemmas.{IsHtml-trimmed, IsXml-trimmed}
use Rattle.infer_deep.proofs.text.after_white_space.Goals as goal

pub returns : goal.returns
returns c = search (rules, IsHtml-trimmed, IsXml-trimmed)
