use Rattle.infer_deep.proofs.Common.{arith}
use Rattle.infer_deep.proofs.FrameLemmas.{IsFramed-lead}
use Rattle.infer_deep.proofs.TextLemmas.{IsHtml-lead, IsXml-lead}
use Rattle.infer_deep.proofs.laws.leads.Goals as goal

pub returns : goal.returns
returns c = record {
  matroska = λ doc_type b h. h.1.reads 0 (omega arith);
  framed = IsFramed-lead;
  office = λ folder b h. h.1.0.reads 0 (omega arith);
  class_id = λ id b h. h.1.header.reads 0 (omega arith);
  html = IsHtml-lead;
  xml = IsXml-lead;
}
