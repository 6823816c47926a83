use Rattle.infer_more.proofs.Common.{ap, subst, sym, ◌∙◌, fields_listed}
use Rattle.infer_more.specs.Entries.{digest_of}
use Rattle.infer_more.specs.Line.{Row}
use Rattle.infer_more.proofs.EntryLemmas.{row_in}
use Rattle.infer_more.proofs.FieldLemmas.{says}
use Rattle.infer_notation.specs.Leads.{IsLead}
use Rattle.infer_more.proofs.types.entries.entry_of.Goals as goal

pub invariant_of-result : goal.invariant_of-result
invariant_of-result c = record {
  leads = λ own e.
      let fields = fields_listed c.split-fields.result in
      let row = row_in c.args.line.now c.skip_blanks-text.result.now own fields c.skip_blanks-text.ensures.value (sym c.is_remark.ensures ∙ c.if-is_remark.false) c.split-fields.ensures e in
      let said = says fields own row in (
        c.digest_of-digest.ensures ∙ ap digest_of (c.parent_in.ensures said.parent said.is_parent ∙ sym (ap (λ (r : Row). r.parent) said.is)),
        subst (IsLead c.lead_of-lead.result) (sym (ap (λ (r : Row). r.signature) said.is)) (c.lead_of-lead.ensures said.signature said.is_signature),
      );
}
