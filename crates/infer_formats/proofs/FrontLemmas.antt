-- What two buffers with the same first bytes both have among these.
use Rattle.infer_formats.proofs.Common.{◌≡◌, ℕ, ◌+◌, ◌-◌, ◌<◌, ◌≤◌, List, ◌++◌, length, get_or, arith, length-append, subst, sym, ◌∙◌, ext_get_or, get_or_append_left, slice_range, OccursAt, IsAfterLast, IsRun, part_reads}
use Rattle.infer_formats.proofs.PartLemmas.{part_length}

-- b and c have n bytes and more, and the same first n
pub record SharesFront (n : ℕ) (b c : List ℕ) : Type 0 where
  pub first : n ≤ length b
  pub second : n ≤ length c
  pub same : (k : ℕ) → k < n → get_or b k 0 ≡ get_or c k 0

pub front_grows : (b more : List ℕ) → SharesFront (length b) b (b ++ more)
front_grows b more = record {
  first = omega arith;
  second = simp length-append (omega arith);
  same = λ k lt. sym (get_or_append_left b more 0 k lt);
}

pub front_swaps : (n : ℕ) (b c : List ℕ) → SharesFront n b c → SharesFront n c b
front_swaps n b c s = record { first = s.second; second = s.first; same = λ k lt. sym (s.same k lt) }

module _ (n : ℕ) (b c : List ℕ) (s : SharesFront n b c) where
  pub byte_shared : (P : ℕ → Type 0) (k : ℕ) → k < n → P (get_or b k 0) → P (get_or c k 0)
  byte_shared P k lt is = subst P (s.same k lt) is

  pub byte_shared_back : (P : ℕ → Type 0) (k : ℕ) → k < n → P (get_or c k 0) → P (get_or b k 0)
  byte_shared_back P k lt is = subst P (sym (s.same k lt)) is

  pub text_shared : (text : List ℕ) (p : ℕ) → p + length text ≤ n → OccursAt b text p → OccursAt c text p
  text_shared text p fits o = record {
    fits = let long = s.second in omega arith;
    reads = λ k lt. sym (s.same (p + k) (omega arith)) ∙ o.reads k lt;
  }

  pub range_shared : (p q : ℕ) → p ≤ q → q ≤ n → slice_range b p q ≡ slice_range c p q
  range_shared p q order high =
      let in_b = part_length b p q order (let l = s.first in omega arith) in
      let in_c = part_length c p q order (let l = s.second in omega arith) in
      ext_get_or 0 _ _ (omega arith)
      (λ k lt. part_reads b p q k (omega arith) ∙ s.same (p + k) (omega arith) ∙ sym (part_reads c p q k (omega arith)))

  pub run_shared : (P : ℕ → Type 0) (from to : ℕ) → to < n → IsRun P b from to → IsRun P c from to
  run_shared P from to high r = record {
    order = r.order;
    bytes = λ k low lt. byte_shared P k (omega arith) (r.bytes k low lt);
    whole = let l = s.second in omega arith;
    ends = λ is. r.ends (byte_shared_back P to high is);
  }

  pub after_last_shared : (x from to at : ℕ) → to ≤ n → IsAfterLast x b from to at → IsAfterLast x c from to at
  after_last_shared x from to at high a = record {
    low = a.low;
    high = a.high;
    begins = λ lt. let h = a.high in byte_shared (λ y. y ≡ x) (at - 1) (omega arith) (a.begins lt);
    last = λ k low lt is. a.last k low lt (byte_shared_back (λ y. y ≡ x) k (omega arith) is);
  }
