-- What reads into the parts of a buffer give together.
use Rattle.infer.proofs.Common.{◌≡◌, ◌≢◌, arith, ℕ, ◌+◌, ◌≤◌, List, ◌++◌, length, take, sym, ap, ◌∙◌, subst, length-take-le, Option, Consumes, Consumes-trans, IsDue}
use borrow.Rule.Slice.PartMut.{put_mid, post_of}
use lib.Seq.{take-append-add, take-append-le}

module _ (at room n : ℕ) (out new : List ℕ) (within : at ≤ length out) (fits : n ≤ length new) where
  -- the front of a buffer, after n bytes were written from `at` on
  take-put_mid : take (at + n) (put_mid at room out new) ≡ take at out ++ take n new
  take-put_mid =
      let rest = new ++ post_of at room out in
      ap (λ k. take (k + n) (take at out ++ rest)) (sym (length-take-le at out within)) ∙ take-append-add (take at out) rest n
      ∙ ap (λ l. take at out ++ l) (take-append-le n new _ fits)

  -- the read that gave n bytes was due, if those before it did not suffice
  pub IsDue-read : (piece : ℕ) (Suffices : List ℕ → Type 0) → n ≢ 0 → n ≤ piece → (¬ Suffices (take at out))
      → IsDue piece Suffices (take (at + n) (put_mid at room out new))
  IsDue-read piece Suffices some few before = grind (arith, length-take-le, take-put_mid)

  -- one more read goes after what earlier reads gave
  pub Consumes-one_more : (a b c : Option (List ℕ)) → Consumes a b (take at out) → Consumes b c (take n new)
      → Consumes a c (take (at + n) (put_mid at room out new))
  Consumes-one_more a b c before read = subst (Consumes a c) (sym take-put_mid) (Consumes-trans _ _ _ _ _ before read)
