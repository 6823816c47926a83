use Rattle.infer.proofs.Common.{◌≡◌, signature_of, ◌↔◌, Accepts, ℕ, List, RowHas, subst, sym}
use Rattle.infer.proofs.EvidenceLemmas.{pdf_most, pdf_searches}
use Rattle.infer.specs.Evidence.{most_of}
use Rattle.infer_evidence.specs.declared.search.TheConstants.{MOST_OF_A_SEARCH}
use Rattle.infer_deep.specs.Windows.{StandsBy}
use Rattle.std.specs.Prelude.{codes}
use Rattle.infer.proofs.table.row_data.search_of.Goals as goal

pub returns-clause-is : goal.returns-clause-is
returns-clause-is c = subst (λ i. (b : List ℕ) → RowHas (Accepts b) i ↔ StandsBy (codes "%PDF") 1024 b) (sym c.if-row-ne-PDF.false) pdf_searches

pub returns-clause-most : goal.returns-clause-most
returns-clause-most c = subst (λ i. most_of (signature_of i) ≡ MOST_OF_A_SEARCH) (sym c.if-row-ne-PDF.false) pdf_most
