use Rattle.infer.proofs.Common.{◌≡◌, ◌≤◌, Option, None, Some, IfSome, length, option_map, subst, sym, Triple, triple_of}
use Rattle.infer.specs.declared.table.file_type.FileType.{FileType}
use Rattle.infer_c.proofs.row.of.Goals as goal

abbrev IsShort : Triple → Type 0
IsShort t = (length t.mime_type ≤ 73) × (length t.extension ≤ 73)

-- what a row shows is short, and so is its type
short : (o : Option FileType) (shown : Option Triple) → IfSome shown IsShort → option_map triple_of o ≡ shown → IfSome o (λ t. IsShort (triple_of t))
short None shown fit e = tt
short (Some t) shown fit e = subst (λ o. IfSome o IsShort) (sym e) fit

pub returns-clause-short : goal.returns-clause-short
returns-clause-short c = short c.row.result _ (c.sizes.ensures _) c.row.ensures
