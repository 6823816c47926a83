use Rattle.std.proofs.Common.{◌≡◌, ℕ, List, arith, subst, sym, take-take}
use Rattle.mime_sniff.specs.Go.{header, rules}
use Rattle.mime_sniff.specs.Rule.{Accepts, FindsFirst}
use Rattle.mime_sniff.proofs.laws.header_decides.Goals as goal

header_again : (b : List ℕ) → header (header b) ≡ header b
header_again b = take-take 512 512 b (omega arith)

pub returns : goal.returns
returns c b t = (
  λ (told, first, is). (told, subst (λ h. FindsFirst (Accepts h) rules told) (header_again b) first, is),
  λ (told, first, is). (told, subst (λ h. FindsFirst (Accepts h) rules told) (sym (header_again b)) first, is),
)
