-- Rows that are ruled out, and that those are all which could widen an answer before the least that does.
use Rattle.infer_more.proofs.Common.{◌≡◌, ◌↔◌, ◌+◌, ◌<◌, ◌≤◌, ◌==◌, ◌&&◌, ◌∷◌, ◌∙◌, [], inl, inr, ℕ, zero, suc, Bool, true, false, false≢true, IsTrue, List, Option, None, Some, if◌then◌else◌, length, ap, subst, sym, arith, eq-eqb, eqb-true, cases_lt, has_byte, candidate, candidates, is_listed, IsBuffer, IsFirstOf, IsFoundBelow, IsLeast, IsRowOf, IsTried, Named, Widens, WidensAt, Bor, further, FURTHER_COUNT}
use Rattle.std.proofs.Common.{ap₂}
use Rattle.std.proofs.lemmas.Bool.{or_cases, or_left, or_right}
use Rattle.infer_more.specs.Index.{FindsBelow, FindsByLead, bucket_at, bucket_by, led_rows, entries_at, picked, rows_in, rows_in_each, rows_of, named_row}
use Rattle.infer_more.specs.Evidence.{IsSameAt}
use Rattle.infer_more.specs.declared.index.Below as below
use Rattle.infer_more.specs.declared.index.Below.TheVariants.{ClassIds, Entries, Nothing, Packages, Programs, Roots, Tagged}
use Rattle.infer_more.specs.declared.index.Entry.{Entry}
use Rattle.infer_more.specs.declared.index.ByLead.{ByLead}
use Rattle.infer_more.specs.declared.index.Parentless.{Parentless}
use Rattle.infer_more.specs.declared.index.Spot.{Spot}
use Rattle.infer_more.proofs.IndexLemmas.{listed_left, listed_right}
use Rattle.infer_more.proofs.LeastLemmas.{first_found, least_late, none_found, tried_none}
use Rattle.infer_more.proofs.TableLemmas.{length-further}

-- with the same byte at its place a buffer has an entry's row or has it not, and a spot picks the same
module _ (b c : List ℕ) where
  pub same_candidate : (e : Entry) → IsSameAt e.place b c → candidate c e ≡ candidate b e
  same_candidate e (within, byte) = ap₂ (λ t y. if t && y == e.byte then e.row ∷ [] else []) within byte

  pub same_picked : (index : Parentless) (s : Spot) → IsSameAt s.place b c → picked index c s ≡ picked index b s
  same_picked index s (within, byte) = ap₂ (λ t y. if t then entries_at index (s.first + y) else []) within byte

-- of one row
module _ (parent : Option ℕ) (c : List ℕ) (before : ℕ) where
  is_row : (i j : ℕ) → IsTrue (is_listed (i ∷ []) j) → i ≡ j
  is_row i j listed = elim (or_cases (i == j) false listed) [ inl e ↦ eqb-true i j e | inr other ↦ absurd (false≢true other) ]

  pub late_row : (i : ℕ) → before ≤ i → IsLeast (IsTried parent c (i ∷ [])) before before
  late_row i late = least_late (IsTried parent c (i ∷ [])) before (λ j (listed, w). let same = is_row i j listed in omega (arith, late, same))

  pub like_row : (b : List ℕ) (i : ℕ) → ((j : ℕ) → WidensAt parent b j → before ≤ j) → WidensAt parent c i ↔ WidensAt parent b i → IsLeast (IsTried parent c (i ∷ [])) before before
  like_row b i late alike = least_late (IsTried parent c (i ∷ [])) before
      (λ j (listed, w). let same = is_row i j listed in late j (subst (WidensAt parent b) same (alike.0 (subst (WidensAt parent c) (sym same) w))))

  -- that a buffer may have, or may not
  pub if_row : (i : ℕ) (t : Bool) → IsLeast (IsTried parent c (i ∷ [])) before before → IsLeast (IsTried parent c (if t then i ∷ [] else [])) before before
  if_row i true h = h
  if_row i false h = tried_none parent c before

-- a row that is told by a name is one of those that are named
module _ {A : Type 0} (row : A → ℕ) (Q : A → Type 0) (i : ℕ) where
  in_rows : (xs : List A) → IsRowOf row Q xs i → IsTrue (is_listed (rows_in row xs) i)
  in_rows [] is = absurd (is)
  in_rows (x ∷ xs) (inl is) = or_left (row x == i) _ (eq-eqb (row x) i is.0)
  in_rows (x ∷ xs) (inr is) = or_right (row x == i) _ (in_rows xs is)

  in_bucket : (lists : List (Bor (List A))) (k : ℕ) → IsRowOf row Q (bucket_at lists k) i → IsTrue (is_listed (rows_in_each row lists) i)
  in_bucket [] k is = absurd (is)
  in_bucket (list ∷ lists) zero is = listed_left (rows_in row list.now) _ i (in_rows list.now is)
  in_bucket (list ∷ lists) (suc k) is = listed_right (rows_in row list.now) _ i (in_bucket lists k is)

  in_buckets : (bits : ℕ → ℕ) (lists : List (Bor (List A))) (name : List ℕ) → IsRowOf row Q (bucket_by bits lists name) i → IsTrue (is_listed (rows_in_each row lists) i)
  in_buckets bits lists [] is = absurd (is)
  in_buckets bits lists (x ∷ xs) is = in_bucket lists (bits x) is

module _ (parent : ℕ) (b : List ℕ) (i : ℕ) where
  of_way : (way : below.Below) → IsFoundBelow way parent b i → IsTrue (is_listed (rows_of way b) i)
  of_way Nothing is = absurd (is)
  of_way (Entries entries) is = is.0
  of_way (ClassIds entries ids) (inl is) = listed_left _ _ i is.0
  of_way (ClassIds entries ids) (inr is) = listed_right (candidates b entries.now) _ i (in_rows named_row _ i ids.now is)
  of_way (Programs entries lists) (inl is) = listed_left _ _ i is.0
  of_way (Programs entries lists) (inr (name, p, is)) = listed_right (candidates b entries.now) _ i (in_buckets named_row _ i _ lists.now name is)
  of_way (Roots roots) (name, rest, element, is) = in_buckets named_row _ i _ roots.now name is
  of_way (Packages entries folders) (inl is) = listed_left _ _ i is.0
  of_way (Packages entries folders) (inr is) = listed_right (candidates b entries.now) _ i (in_rows named_row _ i folders.now is)
  of_way (Tagged entries tag other tagged) (inl is) = listed_left _ _ i is.0
  of_way (Tagged entries tag other tagged) (inr (has, is)) = listed_right (candidates b entries.now) _ i is.0

-- so all rows are ruled out
all_listed : (parent : Option ℕ) (c rows : List ℕ) (before : ℕ) → ((i : ℕ) → WidensAt parent c i → IsTrue (is_listed rows i)) → IsLeast (IsTried parent c rows) before before
    → IsLeast (WidensAt parent c) before before
all_listed parent c rows before listed h = least_late (WidensAt parent c) before (λ i w. h.least i (listed i w, w))

pub all_below : (parent : ℕ) (way : below.Below) → FindsBelow parent way → (c : List ℕ) → IsBuffer c → (before : ℕ) → IsLeast (IsTried (Some parent) c (rows_of way c)) before before
    → IsLeast (WidensAt (Some parent) c) before before
all_below parent way finds c bytes before h = all_listed (Some parent) c (rows_of way c) before (λ i w. of_way parent c i way ((finds c bytes i).1 w)) h

pub all_by_lead : (by_lead : ByLead) → FindsByLead by_lead → (c : List ℕ) → IsBuffer c → (before : ℕ) → IsLeast (IsTried None c (led_rows by_lead c)) before before
    → IsLeast (WidensAt None c) before before
all_by_lead by_lead finds c bytes before h = all_listed None c (led_rows by_lead c) before (finds.left c bytes) h

-- with the rows before it ruled out, the least that widens the answer of one buffer is that of another which it widens alike
module _ (parent : Option ℕ) (b c : List ℕ) (least : ℕ) (own : IsLeast (WidensAt parent b) FURTHER_COUNT least) (before : IsLeast (WidensAt parent c) least least)
    (alike : WidensAt parent c least ↔ WidensAt parent b least) where
  same_least : IsLeast (WidensAt parent c) FURTHER_COUNT least
  same_least = record { below = own.below; is = λ lt. alike.1 (own.is lt); least = before.least }

  pub first_alike : WidensAt parent b least → IsFirstOf (Widens parent c) further (Some least)
  first_alike w = first_found parent c least same_least (let within = w.0 in omega (arith, within, length-further))

  pub none_alike : ¬ WidensAt parent b least → IsFirstOf (Widens parent c) further None
  none_alike none = none_found parent c least same_least (elim (cases_lt least FURTHER_COUNT) as (λ _. FURTHER_COUNT ≤ least) [
    | inl less ↦ absurd (none (own.is less))
    | inr more ↦ more
  ])
