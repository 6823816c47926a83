-- What more bytes can change of a wider answer, by the further rows that they can bring.
use Rattle.infer_more.proofs.Common.{◌≡◌, ◌<◌, ◌≤◌, ℕ, List, [], ◌++◌, Option, None, Some, get_or, length, sym, subst, ap, ◌∙◌, arith, MatchOption, All-nil, get_or_from_slice_get, Stays, IsBuffer, IsFirst, IsFirstOf, Accepts, MayWiden, Further, Accepted, further, IsWider, Widens, wider}
use Rattle.std.proofs.Common.{append-nil, slice_get}
use Rattle.infer.specs.Decided as built_in_decided
use Rattle.infer.specs.Table as built_in
use Rattle.infer.proofs.FirstLemmas.{IsFirstOf-same}
use Rattle.infer.proofs.ListLemmas.{HoldsAt-read}
use Rattle.infer.proofs.CandidateLemmas.{read_has}
use Rattle.infer_more.specs.Decided.{IsAwaited, IsDecided, IsWidenedForGood, NoneMayWiden}

-- ---- the first further row

module _ (parent : Option ℕ) (b : List ℕ) where
  widens_may : (more : List ℕ) → IsBuffer more → (r : Further) → Widens parent (b ++ more) r → MayWiden parent b r
  widens_may more bytes r w = (w.0, (more, bytes, w.1))

  module _ (i : ℕ) (first : IsAwaited parent b i) (r : Further) (read : Some r ≡ slice_get further i) where
    -- if it accepts the buffer with these bytes, it is the first
    first_with : (more : List ℕ) → IsBuffer more → Accepted r.signature (b ++ more) → IsFirst (Widens parent (b ++ more)) further i
    first_with more bytes accepted = record {
      within = first.within;
      here = λ d. subst (Widens parent (b ++ more)) (sym (get_or_from_slice_get further i r d (sym read)))
          (subst (λ x. x.parent ≡ parent) (get_or_from_slice_get further i r r (sym read)) (first.here r), accepted);
      before = λ k d low lt w. first.before k d low lt (widens_may more bytes (get_or further k d) w);
    }

    pub first_for_good : Stays (Accepted r.signature) b → IsWidenedForGood parent b
    first_for_good stays = (Some i, λ more bytes. first_with more bytes (stays more bytes))

-- ---- the answer

module _ (b : List ℕ) (parent : Option ℕ) (answers : IsFirstOf (Accepts b) built_in.table parent) where
  -- the first further row of a buffer whose wider answer is told
  found_in : (c : List ℕ) (o : Option ℕ) → IsFirstOf (Accepts c) built_in.table parent → (w : IsWider c o) → IsFirstOf (Widens parent c) further w.found × (o ≡ wider parent w.found)
  found_in c o first w =
      let same = IsFirstOf-same (Accepts c) built_in.table w.parent parent w.answers first in
      (subst (λ p. IsFirstOf (Widens p c) further w.found) same w.widens, w.is ∙ ap (λ p. wider p w.found) same)

  pub is_decided : built_in_decided.IsDecided b → IsWidenedForGood parent b → IsDecided b
  is_decided decided (found, good) more o bytes w =
      let f = found_in b o answers w in
      let now = subst (λ c. IsFirstOf (Widens parent c) further found) (append-nil b) (good [] (All-nil (λ x. x < 256))) in
      let same = IsFirstOf-same (Widens parent b) further w.found found f.0 now in
      record {
        parent = parent;
        found = found;
        answers = decided more parent bytes answers;
        widens = good more bytes;
        is = f.1 ∙ ap (wider parent) same;
      }

-- ---- the first of the rows that are gone through

-- what `find` found of the numbers of the rows
pub awaited_found : (parent : Option ℕ) (b : List ℕ) (n : ℕ) → length further ≡ n → (o : Option ℕ)
    → MatchOption o ((k : ℕ) → 0 ≤ k → k < n → ¬ MatchOption (slice_get further k) ⊥ (MayWiden parent b))
    (λ i. (0 ≤ i) × (i < n) × MatchOption (slice_get further i) ⊥ (λ r. r.parent ≡ parent)
    × ((k : ℕ) → 0 ≤ k → k < i → ¬ MatchOption (slice_get further k) ⊥ (MayWiden parent b)))
    → MatchOption o (NoneMayWiden parent b (length further)) (IsAwaited parent b)
awaited_found parent b n many None none = λ k d low lt p.
    none k low (omega (arith, lt, many)) ((read_has (MayWiden parent b) further k).1 (lt, HoldsAt-read (MayWiden parent b) further k d lt p))
awaited_found parent b n many (Some i) (low, lt, has, before) =
    let here = (read_has (λ r. r.parent ≡ parent) further i).0 has in
    record {
      within = here.0;
      here = here.1;
      before = λ k d low lt p. let inside = here.0 in
          before k low lt ((read_has (MayWiden parent b) further k).1 (omega (arith, lt), HoldsAt-read (MayWiden parent b) further k d (omega (arith, lt)) p));
    }
