use Rattle.std.proofs.Common.{◌≡◌, ℕ, List, [], ◌∷◌, ◌++◌, All, IsTrue, nat_eq, refl, arith}
use Rattle.std.specs.List.{starts_with}
use Rattle.infer.specs.Caller.{Contracts}
use Rattle.infer.specs.Laws.{AnyLasts}
use Rattle.infer.specs.Row.{Row}
use Rattle.infer.specs.Rows.{Signature}
use Rattle.test_infer.proofs.laws.get_both_after_addition.Goals as goal

zero_stays : (short more : List ℕ) → IsTrue (starts_with nat_eq short (0x00 ∷ [])) → IsTrue (starts_with nat_eq (short ++ more) (0x00 ∷ []))
zero_stays [] more h = absurd (cc)
zero_stays (x ∷ short) more h = h

keeps_one : {X : Type 0} {g : Contracts X} (old new : List (Row (Signature X g))) (r : Row (Signature X g))
    → old ≡ [] → new ≡ old ++ r ∷ [] → AnyLasts r.signature → All (λ x. AnyLasts x.signature) new
keeps_one old new r e h keeps = rw h (rw e (λ k d lt. let z : k ≡ 0 = omega arith in rw z keeps))

pub get_both-requires-clause-keeps : goal.get_both-requires-clause-keeps
get_both-requires-clause-keeps c =
    keeps_one _ _ _ c.new-infer.ensures c.in_ok-add.ensures.added (λ short more buffer h.
    let first : IsTrue (starts_with nat_eq h.shown.now (0x00 ∷ [])) = h.says.0 refl in
    record {
      shown = record { ref_ptr = (0, 0); now = short ++ more };
      shows = refl;
      says = (λ _. zero_stays short more (rw h.shows at first), λ _. refl);
    })
