use Rattle.infer_formats.proofs.Common.{◌≡◌, arith, refl, subst, sym, ◌∷◌, ◌↔◌, blanks, items, members, Stands, text, frames}
use Rattle.infer_formats.proofs.ReaderLemmas.{begun}
use Rattle.infer_formats.proofs.json.reader.Reader.begin.Goals as goal

pub returns-in-123 : goal.returns-in-123
returns-in-123 c = (
  refl,
  omega arith,
  (
    (omega arith, omega arith),
    λ e. absurd (omega arith),
    λ ss v. subst (λ x. Stands (text ∷ ss) (x ∷ v) ↔ Stands (blanks ∷ members 127 ∷ frames 0 0 ss) v)
        (sym c.in-123.is) (begun 1 ss v (omega arith)),
  ),
)

pub returns-in_default : goal.returns-in_default
returns-in_default c =
    let is : c.args.bracket ≡ 0x5B = grind arith in (
      refl,
      omega arith,
      (
        (omega arith, omega arith),
        λ e. absurd (omega arith),
        λ ss v. subst (λ x. Stands (text ∷ ss) (x ∷ v) ↔ Stands (blanks ∷ items 127 ∷ frames 0 0 ss) v) (sym is)
            (begun 0 ss v (omega arith)),
      ),
    )
