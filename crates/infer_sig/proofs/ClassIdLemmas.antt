-- What a computation says of the class id of a compound file.
use Rattle.infer_deep.proofs.Common.{◌+◌, ◌*◌, ◌≡◌, ◌≤◌, ℕ, List, [], ◌∷◌, length, get_or, arith, inl, le16, le32, refl, OccursAt, compound_header, HasClassId}
use Rattle.infer_deep.specs.ClassId.{IsRoot}
use Rattle.infer_sig.proofs.KnownLemmas.{Known, proved, same, at_most, needs, takes, ◌>>=◌}
use Rattle.infer_sig.proofs.OccurrenceLemmas.{ByPlace, occurs}

module _ (by_place : ByPlace) (b : List ℕ) where
  -- if the sectors are the smaller
  abbrev root : ℕ
  root = (le32 b 48 + 1) * 512

  pub root_fits : (id : List ℕ) → HasClassId id b → root + 128 ≤ length b
  root_fits id (place, r, o) = let whole = r.whole in let begins = r.begins in grind arith

  -- and if the version says so
  pub stands_at_root : (id : List ℕ) → le16 b 26 ≡ 3 → HasClassId id b → OccursAt b id (root + 80)
  stands_at_root id version h2 = grind arith

  abbrev pub known_class : (id : List ℕ) → Known (HasClassId id b)
  known_class id = do
    header ← needs (occurs by_place compound_header b 0) (λ h. h.1.header)
    whole ← needs (at_most (root + 128) (length b)) (root_fits id)
    version ← takes (same (le16 b 26) 3)
    here ← needs (occurs by_place id b (root + 80)) (stands_at_root id version)
    order ← takes (occurs by_place (0xFE ∷ 0xFF ∷ []) b 28)
    shift ← takes (same (le16 b 30) 9)
    kind ← takes (same (get_or b (root + 66) 0) 5)
    let found : IsRoot b root = record { header = header; byte_order = order; begins = inl (version, shift, refl); whole = whole; kind = kind }
    proved (root, found, here)
