-- Rows have one answer for a buffer.
use Rattle.std.proofs.Common.{◌≡◌, ℕ, List, [], ◌∷◌, Option, None, Some, MatchOption, inl, inr, option_map, subst, sym, ◌∙◌}
use Rattle.infer.specs.Row.{Accepts}
use Rattle.infer.specs.Table.{table}
use Rattle.infer.specs.Triple.{Triple}
use Rattle.infer_more.specs.Wider.{IsWiderAnswer}
use Rattle.infer_more.specs.Line.{Row}
use Rattle.infer_more.specs.Text.{Answers, IsFirstShown, IsTypesAnswer}
use Rattle.test_infer.proofs.OneLemmas.{IsAnswer-same, IsWiderAnswer-same}

IsFirstShown-same : (P : Row → Type 0) (rows : List Row) (t u : Option Triple) → IsFirstShown P rows t → IsFirstShown P rows u → t ≡ u
IsFirstShown-same P [] t u v w = v ∙ sym w
IsFirstShown-same P (r ∷ rows) t u (inl (here, is)) (inl (there, same)) = is ∙ sym same
IsFirstShown-same P (r ∷ rows) t u (inl (here, is)) (inr (other, w)) = absurd (other here)
IsFirstShown-same P (r ∷ rows) t u (inr (other, v)) (inl (here, is)) = absurd (other here)
IsFirstShown-same P (r ∷ rows) t u (inr (other, v)) (inr (apart, w)) = IsFirstShown-same P rows t u v w

of_own : (b : List ℕ) (t u : Option Triple) (own : Option Triple) → MatchOption own (IsWiderAnswer b t) (λ x. t ≡ Some x) → MatchOption own (IsWiderAnswer b u) (λ x. u ≡ Some x) → t ≡ u
of_own b t u None v w = IsWiderAnswer-same b t u v w
of_own b t u (Some x) v w = v ∙ sym w

pub IsTypesAnswer-same : (rows : List Row) (b : List ℕ) (t u : Option Triple) → IsTypesAnswer rows b t → IsTypesAnswer rows b u → t ≡ u
IsTypesAnswer-same rows b t u v w =
    let parents : v.parent ≡ w.parent = IsAnswer-same (Accepts b) table v.parent w.parent v.answers w.answers in
    let first = subst (λ p. IsFirstShown (Answers (option_map (λ q. q.extension) p) b) rows w.own) (sym parents) w.first in
    let own : v.own ≡ w.own = IsFirstShown-same (Answers (option_map (λ q. q.extension) v.parent) b) rows v.own w.own v.first first in
    of_own b t u v.own v.is (subst (λ o. MatchOption o (IsWiderAnswer b u) (λ x. u ≡ Some x)) (sym own) w.is)
