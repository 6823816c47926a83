-- One more piece passed on, and what a relay's last verdict tells.
use Rattle.infer.proofs.Common.{◌≡◌, ◌⊎◌, inl, inr, ◌∙◌, ◌≤◌, ℕ, List, [], ◌++◌, Option, length, take, ap, subst, arith, length-take, append-nil, Consumes-trans, Appends, Consumes, IsAtEnd, head}
use Rattle.std.proofs.KnownBytes.{Appends-nil, Appends-trans, Consumes-nil}
use Rattle.infer.specs.declared.table.file_type.FileType.{FileType}
use Rattle.infer_sniff.proofs.KeptLemmas.{front_again}
use Rattle.infer_sniff.specs.Verdicts.{IsFinal, IsSettled, IsTypeOf, IsVerdict, found_of}
use Rattle.infer_sniff.specs.declared.verdict.Verdict.{Verdict}
use Rattle.infer_sniff.specs.declared.verdict.Verdict.TheVariants.{SoFar, Final}
use Rattle.infer_uses.specs.Relays.{IsLabelled, IsPassed}

length-head : (bytes : List ℕ) → length (head 8192 bytes) ≤ length bytes
length-head bytes = omega (arith, length-take 8192 bytes)

-- the bytes so far were passed on, and of these the first 8192 are kept
abbrev pub Relays : (left rest held holds : Option (List ℕ)) (kept : List ℕ) → Type 0
Relays left rest held holds kept = (bytes : List ℕ) × IsPassed left rest held holds bytes × (kept ≡ head 8192 bytes)

pub nothing_passed : (left held : Option (List ℕ)) (kept : List ℕ) → kept ≡ [] → Relays left left held held kept
nothing_passed left held kept empty = ([], record { taken = Consumes-nil left; written = Appends-nil held }, empty)

pub one_more_passed : (left rest more held holds grown : Option (List ℕ)) (kept piece new : List ℕ) → Relays left rest held holds kept
    → Consumes rest more piece → Appends holds grown piece → new ≡ head 8192 (kept ++ piece) → Relays left more held grown new
one_more_passed left rest more held holds grown kept piece new (bytes, passed, same) read write now = (
  bytes ++ piece,
  record {
    taken = Consumes-trans left rest more bytes piece passed.taken read;
    written = Appends-trans held holds grown bytes piece passed.written write;
  },
  now ∙ ap (λ u. take 8192 (u ++ piece)) same ∙ front_again 8192 bytes piece,
)

-- a read that gave nothing
pub nothing_more : (left rest more held holds : Option (List ℕ)) (kept piece : List ℕ) → Relays left rest held holds kept
    → Consumes rest more piece → piece ≡ [] → Relays left more held holds kept
nothing_more left rest more held holds kept piece (bytes, passed, same) read none = (
  bytes,
  record {
    taken = subst (Consumes left more) (ap (λ u. bytes ++ u) none ∙ append-nil bytes) (Consumes-trans left rest more bytes piece passed.taken read);
    written = passed.written;
  },
  same,
)

told : (b : List ℕ) (v : Verdict) → IsVerdict b v → IsTypeOf b (found_of v)
told b (SoFar found) h = h.1
told b (Final found) h = h.1

pub settled_if_final : (b : List ℕ) (v : Verdict) → IsVerdict b v → IsFinal v → IsSettled b
settled_if_final b (SoFar found) h final = absurd final
settled_if_final b (Final found) h final = h.0

-- what is kept is labelled at the end, when there is no room left, or if it is settled
pub labelled : (left rest held holds : Option (List ℕ)) (kept : List ℕ) (v : Verdict) (found : Option FileType) → Relays left rest held holds kept
    → IsVerdict kept v → found ≡ found_of v → IsAtEnd rest ⊎ (8192 ≤ length kept) ⊎ IsSettled kept
    → (bytes : List ℕ) × IsPassed left rest held holds bytes × IsLabelled rest bytes found
labelled left rest held holds kept v found (bytes, passed, same) verdict is enough = (
  bytes,
  passed,
  record {
    is_type = rw is (subst (λ b. IsTypeOf b (found_of v)) same (told kept v verdict));
    enough = elim enough [
      | inl end ↦ inl end
      | inr (inl full) ↦ inr (inl (let long = ap length same in let few = length-head bytes in omega arith))
      | inr (inr settled) ↦ inr (inr (subst IsSettled same settled))
    ];
  },
)
