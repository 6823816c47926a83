-- The group of a first byte lists its candidates, and what no group is above by a measure, no candidates are.
use Rattle.infer.proofs.Common.{◌≡◌, ◌<◌, ◌≤◌, ◌&&◌, ℕ, Bool, List, [], IsTrue, get_or, refl, arith, nat_tests, leb-true, nat_lt, list_all, bytes_eq, bytes_eq-Decides, candidates, table, MOST_CANDIDATES, length}
use Rattle.std.specs.Prelude.{nat_le}
use Rattle.std.proofs.lemmas.List.Sums.{AllPass-from_list_all}
use Rattle.infer.specs.Groups.{groups}
use Rattle.infer.specs.declared.candidates.groups.TheConstants.{GROUP_COUNT, GROUP_OF}
use Rattle.infer_sig.proofs.TestLemmas.{NoneRefused, passed}

abbrev pub group_of : ℕ → ℕ
group_of f = get_or GROUP_OF f 0

-- the group of a first byte is one, and lists the candidates of that byte
abbrev is_grouped : ℕ → Bool
is_grouped f = nat_lt (group_of f) GROUP_COUNT && bytes_eq (get_or groups (group_of f) []) (candidates f)

all_grouped : NoneRefused is_grouped 256 0 16
unfolding table candidates
all_grouped = (refl, (refl, (refl, (refl, (refl, (refl, (refl, (refl, (refl, (refl, (refl, (refl, (refl, (refl, (refl, (refl, tt))))))))))))))))

pub grouped : (f : ℕ) → f < 256 → (group_of f < GROUP_COUNT) × (get_or groups (group_of f) [] ≡ candidates f)
grouped f lt = let both = passed is_grouped 256 16 all_grouped (omega arith) f lt in grind (arith, nat_tests, bytes_eq-Decides)

pub at_most : (measure : List ℕ → ℕ) (most : ℕ) → IsTrue (list_all (λ rows. nat_le (measure rows) most) groups) → (f : ℕ) → f < 256
    → measure (candidates f) ≤ most
at_most measure most few f lt =
    let in_group = grouped f lt in
    rw (← in_group.1) (leb-true _ _ (AllPass-from_list_all (λ rows. nat_le (measure rows) most) groups few (group_of f) [] in_group.0))

pub few_candidates : (f : ℕ) → f < 256 → length (candidates f) ≤ MOST_CANDIDATES
few_candidates = at_most length MOST_CANDIDATES refl
