-- The laws of a signature, from its parts up.
use Rattle.infer_deep.proofs.Common.{◌≡◌, ℕ, ◌≤◌, List, ◌∷◌, ◌++◌, length, take, arith, ltb, leb, IsTrue, get_or-take, and_parts, and_from, leb-true, ltb-true, nat_tests, get_or_append_left}
use Rattle.std.proofs.lemmas.Grind.{common_steps}
use Rattle.infer_sig.proofs.ListLemmas.{list_any_passes, list_all_passes, list_any_same, list_all_same}
use Rattle.infer_sig.proofs.PlaceLemmas.{stands_lasts, stands-take}
use Rattle.infer_sig.specs.Signature.{Alternative, at_least, Part, text, byte, any_text, has_part, fits, stands}
use Rattle.infer_sig.specs.Laws.{DependsOnFront, is_part_within, is_alternative_within, is_within, text_lead, part_lead, alternative_lead}

-- ---- a buffer that goes on

pub part_lasts : (buf more : List ℕ) (part : Part) → IsTrue (has_part buf part) → IsTrue (has_part (buf ++ more) part)
part_lasts buf more (text place t) h = stands_lasts place t buf more h
part_lasts buf more (any_text place ts) h = list_any_passes _ _ (λ t. stands_lasts place t buf more) ts h
part_lasts buf more (byte place set) h = grind (arith, nat_tests, and_parts (ltb place (length buf)), ltb-true place (length buf), common_steps, get_or_append_left buf more 0 place, and_from (ltb place (length (buf ++ more))))

pub alternative_lasts : (buf more : List ℕ) (a : Alternative) → IsTrue (fits buf a) → IsTrue (fits (buf ++ more) a)
alternative_lasts buf more (at_least least parts) h = grind (arith, nat_tests, and_parts (leb least (length buf)), common_steps, and_from (leb least (length (buf ++ more))), list_all_passes, part_lasts buf more)

-- ---- a front of the buffer

leb-take : (m n : ℕ) (buf : List ℕ) → m ≤ n → leb m (length (take n buf)) ≡ leb m (length buf)
leb-take m n buf within = grind (arith, nat_tests, common_steps)

part_near : (n : ℕ) (buf : List ℕ) (part : Part) → IsTrue (is_part_within n part)
    → has_part (take n buf) part ≡ has_part buf part
part_near n buf h2 h = grind (arith, nat_tests, stands-take, leb-true, list_any_same, ltb-true, get_or-take, leb-take)

alternative_near : (n : ℕ) (buf : List ℕ) (a : Alternative) → IsTrue (is_alternative_within n a)
    → fits (take n buf) a ≡ fits buf a
alternative_near n buf h2 h = grind (arith, nat_tests, and_parts, leb-take, leb-true, list_all_same, part_near)

pub signature_near : (n : ℕ) (s : List Alternative) → IsTrue (is_within n s) → DependsOnFront n s
signature_near n s h buf = list_any_same _ _ (is_alternative_within n) (alternative_near n buf) s h

-- ---- the first byte

text_leads : (f : ℕ) (rest t : List ℕ) → IsTrue (stands 0 t (f ∷ rest)) → IsTrue (text_lead t f)
unfolding stands
text_leads f rest h2 h = grind (arith, nat_tests, and_parts)

part_leads : (f : ℕ) (rest : List ℕ) (part : Part) → IsTrue (has_part (f ∷ rest) part) → IsTrue (part_lead part f)
part_leads f rest h2 h = grind (arith, nat_tests, text_leads, list_any_passes, and_parts)

pub alternative_leads : (f : ℕ) (rest : List ℕ) (a : Alternative) → IsTrue (fits (f ∷ rest) a)
    → IsTrue (alternative_lead a f)
alternative_leads f rest h2 h = grind (arith, nat_tests, list_all_passes, part_leads, and_parts)
