use Rattle.std.proofs.Common.{◌≡◌, ◌++◌, List, [], ◌∷◌, suc, zero, Option, None, Some, ap, subst, sym, refl, arith}
use Rattle.infer.specs.First.{IsAnswer}
use Rattle.infer.specs.Row.{Row}
use Rattle.infer.specs.Rows.{AnyAccepts}
use Rattle.infer.specs.Triple.{Triple}
use Rattle.test_infer.proofs.added.get_with_row.Goals as goal

-- the answer of a list whose first row has the property
first_row : {S : Type 0} (P : Row S → Type 0) (r : Row S) (rest : List (Row S)) (t : Option Triple) → P r → IsAnswer P (r ∷ rest) t → t ≡ Some r.shows
first_row P r rest None h none = absurd (none 0 r (omega arith) (omega arith) h)
first_row P r rest (Some t) h (zero, first, shown) = ap Some (sym (shown r))
first_row P r rest (Some t) h (suc i, first, shown) = absurd (first.before 0 r (omega arith) (omega arith) h)

first_own : {S : Type 0} (P : Row S → Type 0) (r : Row S) (own rest : List (Row S)) (t : Option Triple) → own ≡ r ∷ [] → P r
    → IsAnswer P (own ++ rest) t → t ≡ Some r.shows
first_own P r own rest t e h answer = first_row P r rest t h (subst (λ rs. IsAnswer P (rs ++ rest) t) e answer)

pub returns : goal.returns
returns c begins =
    first_own (AnyAccepts c.args.buf.now) _ _ _ _ c.in_ok-infer.ensures
    (record { shown = c.args.buf; shows = refl; says = (λ _. begins, λ _. refl) }) c.get.ensures
