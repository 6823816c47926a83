-- What a comparison, a search of a part and a look at blocks tell of a buffer.
use Rattle.infer_deep.proofs.Common.{◌≡◌, ℕ, ◌+◌, ◌-◌, ◌<◌, ◌≤◌, Bool, true, List, Option, length, get_or, Some, None, take, drop, min, ap, subst, sym, ◌∙◌, arith, length-drop, take_rest, at_reads, at_from_reads, front_fits, starts_is, Decides-eqb, starts_with, nat_eq, OccursAt, NoneBefore, Nowhere, IsPairAt, LacksPair, IsWithin, IsFirstPlace, IsFirstWithin}
use Rattle.memchr.specs.Pairs.{HasPair, IsPairFinderOf, reach_of}
use Rattle.memchr.specs.declared.arch.all.packedpair.Finder.{Finder}
use Rattle.infer_deep.proofs.PlaceLemmas.{OccursAt-part, part_reads}

-- what `starts_with` says of the rest of a buffer
module _ (b text : List ℕ) (p : ℕ) (r : Bool) (e : r ≡ starts_with nat_eq (take (length b - p) (drop p b)) text) where
  tested : r ≡ starts_with nat_eq (drop p b) text
  tested = e ∙ ap (λ rest. starts_with nat_eq rest text) (take_rest b p)

  pub occurs_from_starts : p ≤ length b → r ≡ true → OccursAt b text p
  occurs_from_starts l is =
      let split = (starts_is Decides-eqb (drop p b) text r tested).0 is in
      grind (arith, front_fits (drop p b) text _ split, length-drop p b, at_reads 0 b text p _ split)

  pub starts_from_occurs : OccursAt b text p → r ≡ true
  starts_from_occurs o = (starts_is Decides-eqb (drop p b) text r tested).1 _ (at_from_reads 0 b text p o.fits o.reads)

-- a search may begin later if nothing stands before
module _ (b text : List ℕ) (start later end : ℕ) (le : start ≤ later) (none : (q : ℕ) → q < later → ¬ IsWithin OccursAt b text start end q) where
  pub IsFirstWithin-skip : (r : Option ℕ) → IsFirstWithin OccursAt b text later end r → IsFirstWithin OccursAt b text start end r
  IsFirstWithin-skip None h = λ q w. grind (arith, none q, h q)
  IsFirstWithin-skip (Some p) h = record { here = grind arith; before = λ q lt w. grind (arith, none q, h.before q) }

-- a pair that stands in a part of a buffer from s to e
pair_in_part : (b : List ℕ) (x y s e p : ℕ) → s ≤ p → p + 1 < e → IsPairAt x y b p → IsPairAt x y (take (e - s) (drop s b)) (p - s)
pair_in_part b x y s e p low high h8 = grind (arith, part_reads)

-- one more block of 128 places that lack the pair, which may overlap those before
pub lacks_more : (b : List ℕ) (x y n at m : ℕ) → at ≤ n → m ≤ at + 128
    → LacksPair x y b n → LacksPair x y (take (at + 129 - at) (drop at b)) 128 → LacksPair x y b m
lacks_more b x y n at m le reach before lacks p lt pair = grind (arith, before p, lacks (p - at), pair_in_part b x y at (at + 129) p)

-- a search may begin after n places that lack the two bytes of the text from `rare` on
module _ (b text : List ℕ) (rare start end m n : ℕ) (two : rare + 2 ≤ length text) (is : m ≡ min end (length b))
    (lacks : LacksPair (get_or text rare 0) (get_or text (rare + 1) 0) (take (m - (start + rare)) (drop (start + rare) b)) n) where
  none_before : (q : ℕ) → q < start + n → ¬ IsWithin OccursAt b text start end q
  none_before q lt w =
      let pair = pair_in_part b (get_or text rare 0) (get_or text (rare + 1) 0) (start + rare) m (q + rare) in
      grind (arith, pair, lacks (q + rare - (start + rare)), w.stands.reads rare, w.stands.reads (rare + 1))

  pub first_later : (r : Option ℕ) → IsFirstWithin OccursAt b text (start + n) end r → IsFirstWithin OccursAt b text start end r
  first_later r h = IsFirstWithin-skip b text start (start + n) end (omega arith) none_before r h

  -- it does not fit there, or stands there, or the search may begin after that place too
  pub none_fits : (m - start - n < length text) → IsFirstWithin OccursAt b text start end None
  none_fits short = first_later None (λ p w. omega arith)

  pub first_here : (start + n + length text ≤ m) → OccursAt b text (start + n) → IsFirstWithin OccursAt b text start end (Some (start + n))
  first_here fits o = grind (arith, first_later (Some (start + n)))

  pub first_past : (r : Option ℕ) → ¬ OccursAt b text (start + n)
      → IsFirstWithin OccursAt b text (start + n + 1) end r → IsFirstWithin OccursAt b text start end r
  first_past r absent h = grind (arith, first_later, IsFirstWithin-skip)

-- what a search of the rest says
module _ (b text : List ℕ) (start end m : ℕ) (is : m ≡ min end (length b)) (l : start ≤ m) where
  in_rest : (q : ℕ) → IsWithin OccursAt b text start end q → OccursAt (take (m - start) (drop start b)) text (q - start)
  in_rest q w = grind (arith, OccursAt-part b text start m (q - start) l)

  pub none_in_rest : Nowhere (OccursAt (take (m - start) (drop start b)) text) 0 (length (take (m - start) (drop start b)) + 1)
      → (p : ℕ) → ¬ IsWithin OccursAt b text start end p
  none_in_rest none p w = grind (arith, none (p - start), in_rest p w)

  pub first_in_rest : (k n : ℕ) → NoneBefore (OccursAt (take (m - start) (drop start b)) text) 0 n k
      → OccursAt (take (m - start) (drop start b)) text k → IsFirstPlace OccursAt b text start end (start + k)
  first_in_rest k n h o =
      record { here = grind (arith, OccursAt-part b text start m k l); before = λ q lt w. grind (arith, h.before (q - start), in_rest q w) }

-- what a search for a pair of bytes of the text in the part from `from` on says, if the text stands nowhere before
module _ (b text : List ℕ) (start from end m : ℕ) (is : m ≡ min end (length b)) (l : from ≤ m) (low : start ≤ from)
    (none : (q : ℕ) → q < from → ¬ IsWithin OccursAt b text start end q) (f : Finder) (of : IsPairFinderOf f text) where
  in_part : (q : ℕ) → from ≤ q → IsWithin OccursAt b text start end q → OccursAt (take (m - from) (drop from b)) text (q - from)
  in_part q begun w = grind (arith, OccursAt-part b text from m (q - from) l)

  none_to : (k : ℕ) → Nowhere (HasPair f (take (m - from) (drop from b))) 0 k → (q : ℕ) → q < from + k → ¬ IsWithin OccursAt b text start end q
  none_to k lacks q lt w =
      let read = λ (begun : from ≤ q). (in_part q begun w).reads in
      grind (arith, none q, lacks (q - from), read, of.pair, of.byte1, of.byte2)

  -- if there is no pair the text does not stand
  pub none_without_pair : (r : Option ℕ) → r ≡ None
      → Nowhere (HasPair f (take (m - from) (drop from b))) 0 (length (take (m - from) (drop from b)) - reach_of f) → IsFirstWithin OccursAt b text start end r
  none_without_pair r e lacks =
      subst (IsFirstWithin OccursAt b text start end) (sym e) (λ q w. grind (arith, none q, in_part q, none_to _ lacks q, of.pair))

  -- a text that stands at the first pair is the first
  pub first_at_pair : (k n : ℕ) → NoneBefore (HasPair f (take (m - from) (drop from b))) 0 n k
      → OccursAt b text (from + k) × (from + k + length text ≤ m) → IsFirstPlace OccursAt b text start end (from + k)
  first_at_pair k n h o = grind (arith, none_to k h.before)

  -- and if none does, it does not stand there either
  pub none_past_pair : (k n : ℕ) → NoneBefore (HasPair f (take (m - from) (drop from b))) 0 n k
      → ¬ (OccursAt b text (from + k) × (from + k + length text ≤ m)) → (q : ℕ) → q < from + k + 1 → ¬ IsWithin OccursAt b text start end q
  none_past_pair k n h absent q lt w = grind (arith, none_to k h.before q, w.stands)
