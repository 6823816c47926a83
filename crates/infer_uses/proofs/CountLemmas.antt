-- One buffer more is counted or passed.
use Rattle.infer.proofs.Common.{◌+◌, ◌<◌, ℕ, List, Option, length, map, take, get_or, subst, sym, map_more, IsAnswer, Accepts, table, Triple}
use Rattle.infer.specs.declared.table.file_type.MatcherType.{MatcherType}
use Rattle.infer_uses.specs.Answers.{IsOfClass}
use Rattle.infer_uses.specs.Counts.{Counts, counted, passed}

module _ {A : Type 0} (bytes_of : A → List ℕ) (class : MatcherType) (fronts : List A) (i : ℕ) (d : A) (within : i < length fronts) where
  module _ (n : ℕ) (before : Counts class (map bytes_of (take i fronts)) n) (answer : Option Triple)
      (is : IsAnswer (Accepts (bytes_of (get_or fronts i d))) table answer) where
    pub counted-more : IsOfClass class answer → Counts class (map bytes_of (take (i + 1) fronts)) (n + 1)
    counted-more fits = subst (λ bs. Counts class bs (n + 1)) (sym (map_more bytes_of fronts i d within)) (counted _ _ n answer before is fits)

    pub passed-more : ¬ IsOfClass class answer → Counts class (map bytes_of (take (i + 1) fronts)) n
    passed-more fails = subst (λ bs. Counts class bs n) (sym (map_more bytes_of fronts i d within)) (passed _ _ n answer before is fails)
