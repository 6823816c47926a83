-- What more bytes can change of a wider answer.
use Rattle.std.specs.Prelude.{◌≡◌, ◌-◌, ◌<◌, ◌≤◌, ℕ, IsTrue, List, ◌++◌, MatchOption, Option, length, not, slice_get}
use Rattle.std.specs.List.{AllWithin, HoldsAt}
use Rattle.infer_deep.specs.Signatures.{MayBecome}
use Rattle.infer.specs.Buffer.{IsBuffer}
use Rattle.infer.specs.First.{IsFirstOf}
use Rattle.infer.specs.declared.table.rows.TheConstants.{ROW_COUNT}
use Rattle.infer_more.specs.Open.{are_fixed}
use Rattle.infer_more.specs.Row.{Further}
use Rattle.infer_notation.specs.Alternative.{Accepted}
use Rattle.infer_more.specs.Table.{further}
use Rattle.infer_more.specs.Wider.{AcceptsAt, IsWider, Widens}

-- whatever bytes follow, the wider answer stays
abbrev pub IsDecided : List ℕ → Type 0
IsDecided b = (more : List ℕ) (o : Option ℕ) → IsBuffer more → IsWider b o → IsWider (b ++ more) o

-- some bytes after the buffer, or none, make the signature of row i, built-in or further, accept it
abbrev pub MayBecomeAt : List ℕ → ℕ → Type 0
MayBecomeAt b i = MayBecome (λ c. AcceptsAt c i) b

-- row i is a further one, and its signature asks for a relation, and not for bytes at fixed places alone
abbrev pub AsksForRelation : ℕ → Type 0
AsksForRelation i = (ROW_COUNT ≤ i) × MatchOption (slice_get further (i - ROW_COUNT)) ⊥ (λ r. IsTrue (not (are_fixed r.signature)))

-- the further row has this parent, and some bytes after the buffer, or none, make its signature accept it
abbrev pub MayWiden : Option ℕ → List ℕ → Further → Type 0
MayWiden parent b r = (r.parent ≡ parent) × MayBecome (Accepted r.signature) b

-- no bytes make one of the first n further rows widen this answer
abbrev pub NoneMayWiden : Option ℕ → List ℕ → ℕ → Type 0
NoneMayWiden parent b n = AllWithin (λ r. ¬ MayWiden parent b r) further 0 n

-- none make one before the further row i do so, which has this parent
pub record IsAwaited (parent : Option ℕ) (b : List ℕ) (i : ℕ) : Type 0 where
  pub within : i < length further
  pub here : HoldsAt (λ r. r.parent ≡ parent) further i
  pub before : NoneMayWiden parent b i

-- whatever bytes follow, the first further row that widens this answer, or that none does, stays
abbrev pub IsWidenedForGood : Option ℕ → List ℕ → Type 0
IsWidenedForGood parent b = (found : Option ℕ) × ((more : List ℕ) → IsBuffer more → IsFirstOf (Widens parent (b ++ more)) further found)
