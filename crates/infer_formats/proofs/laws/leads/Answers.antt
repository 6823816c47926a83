use Rattle.infer_formats.proofs.LeadLemmas.{begins_markup, starts_element}
use Rattle.infer_formats.proofs.FirstKeyLemmas.{key_has, value_has}
use Rattle.infer_formats.proofs.JsonLeadLemmas.{lines_lead, text_leads}
use Rattle.infer_formats.proofs.RelationLemmas.{has_lines}
use Rattle.infer_formats.proofs.laws.leads.Goals as goal

pub returns : goal.returns
returns c = record {
  root = λ name b h. begins_markup b name h.0 h.1;
  element = λ name b h. starts_element b name h.0 h.1;
  json = text_leads;
  json_lines = lines_lead;
  key = key_has;
  value = value_has;
  root_with = λ name text b h. (h.0, h.1);
  outline = λ r b. has_lines c.by_place.ensures b r;
}
