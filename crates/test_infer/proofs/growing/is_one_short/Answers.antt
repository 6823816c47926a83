use Rattle.std.proofs.Common.{◌≡◌, ◌↔◌, ◌∷◌, [], List, ℕ, IsTrue, length, not, rules, refl, subst, sym}
use Rattle.infer.specs.First.{IsFirstOf}
use Rattle.infer.specs.Row.{Accepts}
use Rattle.infer.specs.Table.{table}
use Rattle.infer_sniff.specs.Verdicts.{IsOneShort}
use Rattle.test_infer.proofs.GrowingLemmas.{one_short}
use Rattle.test_infer.proofs.growing.is_one_short.Goals as goal

pub returns-then-begins_in_none : goal.returns-then-begins_in_none
returns-then-begins_in_none c =
    let last : List ℕ = 70 ∷ [] in
    let b = c.join.new.out in
    let then = subst (λ u. IsFirstOf (Accepts u) table c.position-then-begins_in_none.result) c.join-2.ensures c.position-then-begins_in_none.ensures.first in
    let short : length b ≡ 1023 = search rules in
    subst (λ u. IsTrue (not c.are_same.result) ↔ IsOneShort u last) c.join.ensures
    (one_short b last c.position.result c.position-then-begins_in_none.result c.are_same.result short refl (c.if-begins_in_none.ensures.0 refl)
    c.position.ensures.first then c.are_same.ensures)

pub returns-else-begins_in_none : goal.returns-else-begins_in_none
returns-else-begins_in_none c = (
  λ t. absurd (let e = c.if-begins_in_none.false in cc),
  λ h. c.begins_in_none.ensures.1 (subst (λ u. IsOneShort u (70 ∷ [])) (sym c.join.ensures) h).none,
)
