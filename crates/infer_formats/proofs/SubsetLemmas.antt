-- What has an end of its own in markup, and the internal subset of a document type declaration.
use Rattle.infer_formats.proofs.Common.{◌≡◌, ◌↔◌, ◌⊎◌, [], ◌∷◌, inl, inr, ℕ, zero, suc, ◌+◌, ◌<◌, ◌≤◌, List, Option, None, Some, length, FindsPlace, codes, get_or, add-zero, arith, cases_lt, subst, refl, OccursAt, IsEnclosed, IsFirstPlace-same, IsRun, IsXmlSpace}
use Rattle.std.proofs.Common.{◌≢◌}
use Rattle.std.proofs.lemmas.Bool.{cases_order}
use Rattle.infer_formats.specs.Markup.{ClosesAfter, ClosesDeclaration, ClosesPlain, EndsSubset, IsPlainByte, IsSealed, IsPastPiece, OpensSeal, ends_here, past_byte, past_sealed}
use Rattle.infer_formats.proofs.FrontLemmas.{SharesFront, byte_shared, front_swaps, run_shared, text_shared}
use Rattle.infer_formats.proofs.GrowthLemmas.{there}
use Rattle.infer_formats.proofs.RunLemmas.{one_run_end}

-- what the first bytes are
pub instruction_first : (b : List ℕ) (p q : ℕ) → IsEnclosed b (codes "<?") (codes "?>") p q
    → (get_or b p 0 ≡ 0x3C) × (get_or b (p + 1) 0 ≡ 0x3F)
instruction_first b p q (o, end) = (rw add-zero at (o.reads 0 (omega arith)), o.reads 1 (omega arith))

pub comment_first : (b : List ℕ) (p q : ℕ) → IsEnclosed b (codes "<!--") (codes "-->") p q
    → (get_or b p 0 ≡ 0x3C) × (get_or b (p + 1) 0 ≡ 0x21) × (get_or b (p + 2) 0 ≡ 0x2D)
comment_first b p q (o, end) =
    (rw add-zero at (o.reads 0 (omega arith)), o.reads 1 (omega arith), o.reads 2 (omega arith))

-- it ends at one place
pub one_enclosed : (b opening closing : List ℕ) (p q r : ℕ) → IsEnclosed b opening closing p q
    → IsEnclosed b opening closing p r → q ≡ r
one_enclosed b opening closing p q r (o, (e, first, is)) (_, (f, other, same)) =
    let one = IsFirstPlace-same OccursAt b closing (p + length opening) (length b) e f first other in omega arith

module _ (b c : List ℕ) (s : SharesFront (length b) b c) where
  pub enclosed_lasts : (opening closing : List ℕ) (p q : ℕ) → IsEnclosed b opening closing p q
      → IsEnclosed c opening closing p q
  enclosed_lasts opening closing p q (o, (e, first, is)) =
      let here = first.here in
      let fits = here.high in
      let back = front_swaps (length b) b c s in (
        text_shared (length b) b c s opening p o.fits o,
        (
          e,
          record {
            here = record {
              stands = text_shared (length b) b c s closing e fits here.stands;
              low = here.low;
              high = let long = s.second in omega arith;
            };
            before = λ k lt w.
                let stands = text_shared (length b) c b back closing k (omega arith) w.stands in
                first.before k lt (record { stands = stands; low = w.low; high = omega arith });
          },
          is,
        ),
      )

-- ---- of the kinds that a subset has

module _ (b : List ℕ) (p : ℕ) where
  sealed_opens : (q : ℕ) → IsSealed b p q → OpensSeal b p
  sealed_opens q (inl e) = inl e.0
  sealed_opens q (inr (inl e)) = inr (inl e.0)
  sealed_opens q (inr (inr (inl e))) = inr (inr (inl e.0))
  sealed_opens q (inr (inr (inr e))) = inr (inr (inr e.0))

  opens_first : OpensSeal b p → (get_or b p 0 ≡ 0x22) ⊎ (get_or b p 0 ≡ 0x27) ⊎ (get_or b p 0 ≡ 0x3C)
  opens_first (inl o) = inl (rw add-zero at (o.reads 0 (omega arith)))
  opens_first (inr (inl o)) = inr (inl (rw add-zero at (o.reads 0 (omega arith))))
  opens_first (inr (inr (inl o))) = inr (inr (rw add-zero at (o.reads 0 (omega arith))))
  opens_first (inr (inr (inr o))) = inr (inr (rw add-zero at (o.reads 0 (omega arith))))

  -- which is no "]"
  opens_other : OpensSeal b p → get_or b p 0 ≢ 0x5D
  opens_other opens e = elim (opens_first opens) [ inl x ↦ omega arith | inr (inl x) ↦ omega arith | inr (inr x) ↦ omega arith ]

  pub sealed_within : (q : ℕ) → IsSealed b p q → (p < q) × (q ≤ length b)
  sealed_within q (inl (o, (end, first, is))) = let w = first.here in (omega arith, omega arith)
  sealed_within q (inr (inl (o, (end, first, is)))) = let w = first.here in (omega arith, omega arith)
  sealed_within q (inr (inr (inl (o, (end, first, is))))) = let w = first.here in (omega arith, omega arith)
  sealed_within q (inr (inr (inr (o, (end, first, is))))) = let w = first.here in (omega arith, omega arith)

  quoted_first : (q : ℕ) → IsEnclosed b (codes "\"") (codes "\"") p q → get_or b p 0 ≡ 0x22
  quoted_first q (o, end) = rw add-zero at (o.reads 0 (omega arith))

  ticked_first : (q : ℕ) → IsEnclosed b (codes "'") (codes "'") p q → get_or b p 0 ≡ 0x27
  ticked_first q (o, end) = rw add-zero at (o.reads 0 (omega arith))

  one_sealed : (q r : ℕ) → IsSealed b p q → IsSealed b p r → q ≡ r
  one_sealed q r (inl e) (inl f) = one_enclosed b _ _ p q r e f
  one_sealed q r (inl e) (inr (inl f)) = absurd (let x = quoted_first q e in let y = ticked_first r f in omega arith)
  one_sealed q r (inl e) (inr (inr (inl f))) = absurd (let x = quoted_first q e in let y = instruction_first b p r f in omega arith)
  one_sealed q r (inl e) (inr (inr (inr f))) = absurd (let x = quoted_first q e in let y = comment_first b p r f in omega arith)
  one_sealed q r (inr (inl e)) (inl f) = absurd (let x = ticked_first q e in let y = quoted_first r f in omega arith)
  one_sealed q r (inr (inl e)) (inr (inl f)) = one_enclosed b _ _ p q r e f
  one_sealed q r (inr (inl e)) (inr (inr (inl f))) = absurd (let x = ticked_first q e in let y = instruction_first b p r f in omega arith)
  one_sealed q r (inr (inl e)) (inr (inr (inr f))) = absurd (let x = ticked_first q e in let y = comment_first b p r f in omega arith)
  one_sealed q r (inr (inr (inl e))) (inl f) = absurd (let x = instruction_first b p q e in let y = quoted_first r f in omega arith)
  one_sealed q r (inr (inr (inl e))) (inr (inl f)) = absurd (let x = instruction_first b p q e in let y = ticked_first r f in omega arith)
  one_sealed q r (inr (inr (inl e))) (inr (inr (inl f))) = one_enclosed b _ _ p q r e f
  one_sealed q r (inr (inr (inl e))) (inr (inr (inr f))) = absurd (let x = instruction_first b p q e in let y = comment_first b p r f in omega arith)
  one_sealed q r (inr (inr (inr e))) (inl f) = absurd (let x = comment_first b p q e in let y = quoted_first r f in omega arith)
  one_sealed q r (inr (inr (inr e))) (inr (inl f)) = absurd (let x = comment_first b p q e in let y = ticked_first r f in omega arith)
  one_sealed q r (inr (inr (inr e))) (inr (inr (inl f))) = absurd (let x = comment_first b p q e in let y = instruction_first b p r f in omega arith)
  one_sealed q r (inr (inr (inr e))) (inr (inr (inr f))) = one_enclosed b _ _ p q r e f

-- ---- what follows on a piece of a subset

-- a byte stands there
one_byte : (b : List ℕ) (p x : ℕ) → p < length b → get_or b p 0 ≡ x → OccursAt b (x ∷ []) p
one_byte b p x lt is = record { fits = omega arith; reads = go }
  where
    go : (k : ℕ) → k < 1 → get_or b (p + k) 0 ≡ get_or (x ∷ []) k 0
    go zero l = rw add-zero is
    go (suc k) l = absurd (omega arith)

module _ (b : List ℕ) (p : ℕ) where
  pub past_quoted : p < length b → get_or b p 0 ≡ 0x22 → (r : Option ℕ) → FindsPlace (IsEnclosed b (codes "\"") (codes "\"") p) r → IsPastPiece b p r
  past_quoted lt is (Some q) enclosed = inl (inl enclosed)
  past_quoted lt is None none = (
    inl (one_byte b p 0x22 lt is),
    λ q sealed. elim sealed [
      | inl e ↦ none q e
      | inr (inl e) ↦ let x = ticked_first b p q e in omega arith
      | inr (inr (inl e)) ↦ let x = instruction_first b p q e in omega arith
      | inr (inr (inr e)) ↦ let x = comment_first b p q e in omega arith
    ],
  )

  pub past_ticked : p < length b → get_or b p 0 ≡ 0x27 → (r : Option ℕ) → FindsPlace (IsEnclosed b (codes "'") (codes "'") p) r → IsPastPiece b p r
  past_ticked lt is (Some q) enclosed = inl (inr (inl enclosed))
  past_ticked lt is None none = (
    inr (inl (one_byte b p 0x27 lt is)),
    λ q sealed. elim sealed [
      | inl e ↦ let x = quoted_first b p q e in omega arith
      | inr (inl e) ↦ none q e
      | inr (inr (inl e)) ↦ let x = instruction_first b p q e in omega arith
      | inr (inr (inr e)) ↦ let x = comment_first b p q e in omega arith
    ],
  )

  pub past_instruction : OccursAt b (codes "<?") p → (r : Option ℕ) → FindsPlace (IsEnclosed b (codes "<?") (codes "?>") p) r → IsPastPiece b p r
  past_instruction o (Some q) enclosed = inl (inr (inr (inl enclosed)))
  past_instruction o None none = (
    inr (inr (inl o)),
    λ q sealed.
        let first : get_or b p 0 ≡ 0x3C = rw add-zero at (o.reads 0 (omega arith)) in
        let second = o.reads 1 (omega arith) in
        elim sealed [
          | inl e ↦ let x = quoted_first b p q e in omega arith
          | inr (inl e) ↦ let x = ticked_first b p q e in omega arith
          | inr (inr (inl e)) ↦ none q e
          | inr (inr (inr e)) ↦ let x = comment_first b p q e in omega arith
        ],
  )

  pub past_comment : OccursAt b (codes "<!--") p → (r : Option ℕ) → FindsPlace (IsEnclosed b (codes "<!--") (codes "-->") p) r → IsPastPiece b p r
  past_comment o (Some q) enclosed = inl (inr (inr (inr enclosed)))
  past_comment o None none = (
    inr (inr (inr o)),
    λ q sealed.
        let first : get_or b p 0 ≡ 0x3C = rw add-zero at (o.reads 0 (omega arith)) in
        let second = o.reads 1 (omega arith) in
        elim sealed [
          | inl e ↦ let x = quoted_first b p q e in omega arith
          | inr (inl e) ↦ let x = ticked_first b p q e in omega arith
          | inr (inr (inl e)) ↦ let x = instruction_first b p q e in omega arith
          | inr (inr (inr e)) ↦ none q e
        ],
  )

  -- nothing with an end of its own begins by another byte
  pub opens_none : get_or b p 0 ≢ 0x22 → get_or b p 0 ≢ 0x27 → get_or b p 0 ≢ 0x3C → ¬ OpensSeal b p
  opens_none no_quote no_tick no_tag opens =
      elim (opens_first b p opens) [ inl e ↦ no_quote e | inr (inl e) ↦ no_tick e | inr (inr e) ↦ no_tag e ]

  pub opens_no_tag : get_or b p 0 ≡ 0x3C → (¬ OccursAt b (codes "<?") p) → (¬ OccursAt b (codes "<!--") p) → ¬ OpensSeal b p
  opens_no_tag is no_instruction no_comment (inl o) = let x : get_or b p 0 ≡ 0x22 = rw add-zero at (o.reads 0 (omega arith)) in omega arith
  opens_no_tag is no_instruction no_comment (inr (inl o)) = let x : get_or b p 0 ≡ 0x27 = rw add-zero at (o.reads 0 (omega arith)) in omega arith
  opens_no_tag is no_instruction no_comment (inr (inr (inl o))) = no_instruction o
  opens_no_tag is no_instruction no_comment (inr (inr (inr o))) = no_comment o

-- ---- a subset

module _ (b : List ℕ) (end : ℕ) where
  ways : (p : ℕ) → EndsSubset b end p
      → ((p ≡ end) × (get_or b p 0 ≡ 0x5D)) ⊎ ((q : ℕ) × IsSealed b p q × EndsSubset b end q)
      ⊎ ((¬ OpensSeal b p) × (get_or b p 0 ≢ 0x5D) × EndsSubset b end (p + 1))
  ways p (ends_here e) = inl (refl, e)
  ways p (past_sealed _ q sealed rest) = inr (inl (q, sealed, rest))
  ways p (past_byte _ none other rest) = inr (inr (none, other, rest))

  -- one that goes on past what stands there goes on from there, and the other way round
  pub beyond_sealed : (p q : ℕ) → IsSealed b p q → EndsSubset b end p ↔ EndsSubset b end q
  beyond_sealed p q sealed = (
    λ goes. elim (ways p goes) [
      | inl (same, bracket) ↦ absurd (opens_other b p (sealed_opens b p q sealed) bracket)
      | inr (inl (r, other, rest)) ↦ subst (EndsSubset b end) (one_sealed b p r q other sealed) rest
      | inr (inr (none, no_bracket, rest)) ↦ absurd (none (sealed_opens b p q sealed))
    ],
    λ rest. past_sealed p q sealed rest,
  )

  pub beyond_byte : (p : ℕ) → (¬ OpensSeal b p) → (get_or b p 0 ≢ 0x5D) → EndsSubset b end p ↔ EndsSubset b end (p + 1)
  beyond_byte p none other = (
    λ goes. elim (ways p goes) [
      | inl (same, bracket) ↦ absurd (other bracket)
      | inr (inl (r, sealed, rest)) ↦ absurd (none (sealed_opens b p r sealed))
      | inr (inr (_, no_bracket, rest)) ↦ rest
    ],
    λ rest. past_byte p none other rest,
  )

  -- none goes on past what does not end
  pub unsealed : (p : ℕ) → OpensSeal b p → ((q : ℕ) → ¬ IsSealed b p q) → ¬ EndsSubset b end p
  unsealed p opens none goes = elim (ways p goes) [
    | inl (same, bracket) ↦ opens_other b p opens bracket
    | inr (inl (r, sealed, rest)) ↦ none r sealed
    | inr (inr (shut, no_bracket, rest)) ↦ shut opens
  ]

  pub subset_within : (p : ℕ) → EndsSubset b end p → (p ≤ end) × (end < length b)
  subset_within p (ends_here e) = (omega arith, there b p (omega arith))
  subset_within p (past_sealed _ q sealed rest) =
      let on = subset_within q rest in let past = sealed_within b p q sealed in (omega arith, on.1)
  subset_within p (past_byte _ none other rest) = let on = subset_within (p + 1) rest in (omega arith, on.1)

  pub ends_bracket : (p : ℕ) → EndsSubset b end p → get_or b end 0 ≡ 0x5D
  ends_bracket p (ends_here e) = e
  ends_bracket p (past_sealed _ q sealed rest) = ends_bracket q rest
  ends_bracket p (past_byte _ none other rest) = ends_bracket (p + 1) rest

-- a bracket that stands there is its end
pub at_bracket : (b : List ℕ) (end p : ℕ) → get_or b p 0 ≡ 0x5D → EndsSubset b end p → p ≡ end
at_bracket b end p bracket goes = elim (ways b end p goes) [
  | inl (same, _) ↦ same
  | inr (inl (r, sealed, rest)) ↦ absurd (opens_other b p (sealed_opens b p r sealed) bracket)
  | inr (inr (none, no_bracket, rest)) ↦ absurd (no_bracket bracket)
]

-- it ends at one place
pub one_subset : (b : List ℕ) (end other p : ℕ) → EndsSubset b end p → EndsSubset b other p → end ≡ other
one_subset b end other p (ends_here e) goes = at_bracket b other p e goes
one_subset b end other p (past_sealed _ q sealed rest) goes = one_subset b end other q rest ((beyond_sealed b other p q sealed).0 goes)
one_subset b end other p (past_byte _ none no_bracket rest) goes =
    one_subset b end other (p + 1) rest ((beyond_byte b other p none no_bracket).0 goes)

-- and the same in what begins as b does
module _ (b c : List ℕ) (s : SharesFront (length b) b c) where
  sealed_lasts : (p q : ℕ) → IsSealed b p q → IsSealed c p q
  sealed_lasts p q (inl e) = inl (enclosed_lasts b c s _ _ p q e)
  sealed_lasts p q (inr (inl e)) = inr (inl (enclosed_lasts b c s _ _ p q e))
  sealed_lasts p q (inr (inr (inl e))) = inr (inr (inl (enclosed_lasts b c s _ _ p q e)))
  sealed_lasts p q (inr (inr (inr e))) = inr (inr (inr (enclosed_lasts b c s _ _ p q e)))

  text_back : (t : List ℕ) (p : ℕ) → p + length t ≤ length b → OccursAt c t p → OccursAt b t p
  text_back t p fits o = text_shared (length b) c b (front_swaps (length b) b c s) t p fits o

  -- a comment that begins in c begins in b, as a subset that goes on there has no "]" in its first bytes
  comment_back : (p end : ℕ) → p + 1 ≤ end → end < length b → get_or b end 0 ≡ 0x5D → OccursAt c (codes "<!--") p → OccursAt b (codes "<!--") p
  comment_back p end low high bracket o = elim (cases_lt (length b) (p + 4)) [
    | inr long ↦ text_back (codes "<!--") p long o
    | inl short ↦
        let there : get_or c end 0 ≡ 0x5D = byte_shared (length b) b c s (λ x. x ≡ 0x5D) end high bracket in
        let second = o.reads 1 (omega arith) in
        let third = o.reads 2 (omega arith) in
        absurd (elim (cases_lt (p + 1) end) [
          | inr early ↦ let same : end ≡ p + 1 = omega arith in let moved = subst (λ k. get_or c k 0 ≡ 0x5D) same there in omega arith
          | inl late ↦ let same : end ≡ p + 2 = omega arith in let moved = subst (λ k. get_or c k 0 ≡ 0x5D) same there in omega arith
        ])
  ]

  opens_back : (p end : ℕ) → p + 1 ≤ end → end < length b → get_or b end 0 ≡ 0x5D → OpensSeal c p → OpensSeal b p
  opens_back p end low high bracket (inl o) = inl (text_back (codes "\"") p (omega arith) o)
  opens_back p end low high bracket (inr (inl o)) = inr (inl (text_back (codes "'") p (omega arith) o))
  opens_back p end low high bracket (inr (inr (inl o))) = inr (inr (inl (text_back (codes "<?") p (omega arith) o)))
  opens_back p end low high bracket (inr (inr (inr o))) = inr (inr (inr (comment_back p end low high bracket o)))

  pub subset_lasts : (end p : ℕ) → EndsSubset b end p → EndsSubset c end p
  subset_lasts end p (ends_here e) = ends_here (byte_shared (length b) b c s (λ x. x ≡ 0x5D) p (there b p (omega arith)) e)
  subset_lasts end p (past_sealed _ q sealed rest) = past_sealed p q (sealed_lasts p q sealed) (subset_lasts end q rest)
  subset_lasts end p (past_byte _ none other rest) =
      let on = subset_within b end (p + 1) rest in
      past_byte p
      (λ opens. none (opens_back p end on.0 on.1 (ends_bracket b end (p + 1) rest) opens))
      (λ bracket. other (byte_shared (length b) c b (front_swaps (length b) b c s) (λ x. x ≡ 0x5D) p (omega arith) bracket))
      (subset_lasts end (p + 1) rest)

-- ---- how a declaration closes

pub after_within : (b : List ℕ) (bracket close : ℕ) → ClosesAfter b bracket close → (bracket < close) × (close < length b)
after_within b bracket close (end, subset, order, space, closes) =
    let within = subset_within b end (bracket + 1) subset in (omega arith, there b close (omega arith))

pub close_within : (b : List ℕ) (from close : ℕ) → ClosesDeclaration b from close → (from ≤ close) × (close < length b)
close_within b from close (inl (run, is)) = (run.order, run.whole)
close_within b from close (inr (bracket, run, is_open, follows)) =
    let within = after_within b bracket close follows in let order = run.order in (omega arith, within.1)

-- white space up to a ">" is of one length
first_closing : (b : List ℕ) (end close other : ℕ) → end < close → ((k : ℕ) → end < k → k < other → IsXmlSpace (get_or b k 0))
    → get_or b close 0 ≡ 0x3E → other ≤ close
first_closing b end close other order space is = elim (cases_lt close other) [
  | inl early ↦ absurd (let s = space close order early in grind arith)
  | inr le ↦ le
]

pub one_after : (b : List ℕ) (bracket close other : ℕ) → ClosesAfter b bracket close → ClosesAfter b bracket other → close ≡ other
one_after b bracket close other (end, subset, order, space, is) (far, more, later, spaces, same) =
    let one = one_subset b end far (bracket + 1) subset more in
    let low = first_closing b end close other order (λ k l h. spaces k (omega arith) h) is in
    let high = first_closing b end other close (omega arith) space same in
    omega arith

-- after all the white space after a subset stands the only one
pub only_close : (b : List ℕ) (bracket end close other : ℕ) → EndsSubset b end (bracket + 1) → end < close
    → ((k : ℕ) → end + 1 ≤ k → k < close → IsXmlSpace (get_or b k 0)) → (¬ IsXmlSpace (get_or b close 0)) → ClosesAfter b bracket other → other ≡ close
only_close b bracket end close other subset order spaces dark (far, more, later, room, same) =
    let one = one_subset b end far (bracket + 1) subset more in
    let low = first_closing b end other close (omega arith) (λ k l h. spaces k (omega arith) h) same in
    elim (cases_lt close other) [ inl early ↦ absurd (dark (room close (omega arith) early)) | inr le ↦ omega arith ]

one_close_after : (b : List ℕ) (from bracket at close other : ℕ) → IsRun IsPlainByte b from bracket → IsRun IsPlainByte b from at
    → ClosesAfter b bracket close → ClosesAfter b at other → close ≡ other
one_close_after b from bracket at close other run runs follows after =
    let same = one_run_end IsPlainByte b from at bracket runs run in
    one_after b bracket close other follows (subst (λ o. ClosesAfter b o other) same after)

plain_or_subset : (b : List ℕ) (from close bracket : ℕ) → ClosesPlain b from close → IsRun IsPlainByte b from bracket → get_or b bracket 0 ≡ 0x5B → ⊥
plain_or_subset b from close bracket (run, is) runs is_open =
    let same = one_run_end IsPlainByte b from bracket close runs run in
    let moved = subst (λ k. get_or b k 0 ≡ 0x5B) same is_open in omega arith

pub one_close : (b : List ℕ) (from close other : ℕ) → ClosesDeclaration b from close → ClosesDeclaration b from other → close ≡ other
one_close b from close other (inl (run, is)) (inl (runs, same)) = one_run_end IsPlainByte b from close other run runs
one_close b from close other (inl plain) (inr (bracket, runs, is_open, follows)) = absurd (plain_or_subset b from close bracket plain runs is_open)
one_close b from close other (inr (bracket, runs, is_open, follows)) (inl plain) = absurd (plain_or_subset b from other bracket plain runs is_open)
one_close b from close other (inr (bracket, run, is_open, follows)) (inr (at, runs, _, after)) =
    one_close_after b from bracket at close other run runs follows after

pub close_lasts : (b c : List ℕ) (s : SharesFront (length b) b c) (from close : ℕ) → ClosesDeclaration b from close → ClosesDeclaration c from close
close_lasts b c s from close (inl (run, is)) =
    let whole = run.whole in
    inl (run_shared (length b) b c s IsPlainByte from close whole run, byte_shared (length b) b c s (λ x. x ≡ 0x3E) close whole is)
close_lasts b c s from close (inr (bracket, run, is_open, (end, subset, order, space, is))) =
    let whole = run.whole in
    let within : close < length b = there b close (omega arith) in
    inr (
      bracket,
      run_shared (length b) b c s IsPlainByte from bracket whole run,
      byte_shared (length b) b c s (λ x. x ≡ 0x5B) bracket whole is_open,
      (
        end,
        subset_lasts b c s end (bracket + 1) subset,
        order,
        λ k low high. byte_shared (length b) b c s IsXmlSpace k (omega arith) (space k low high),
        byte_shared (length b) b c s (λ x. x ≡ 0x3E) close within is,
      ),
    )

-- where the first byte that is not plain is no ">", a declaration closes as the subset after it does
module _ (b : List ℕ) (from stop : ℕ) (run : IsRun IsPlainByte b from stop) (other : get_or b stop 0 ≢ 0x3E) where
  is_bracket : get_or b stop 0 ≡ 0x5B
  is_bracket = elim (cases_order (get_or b stop 0) 0x5B) [
    | inl e ↦ e
    | inr (inl lt) ↦ absurd (run.ends (other, λ e. omega arith))
    | inr (inr gt) ↦ absurd (run.ends (other, λ e. omega arith))
  ]

  pub closes_after : (r : Option ℕ) → FindsPlace (ClosesAfter b stop) r → FindsPlace (ClosesDeclaration b from) r
  closes_after (Some close) follows = inr (stop, run, is_bracket, follows)
  closes_after None none = λ close closes. elim closes [
    | inl (runs, is) ↦
        let same = one_run_end IsPlainByte b from close stop runs run in
        other (subst (λ k. get_or b k 0 ≡ 0x3E) same is)
    | inr (bracket, runs, is, follows) ↦
        let same = one_run_end IsPlainByte b from bracket stop runs run in
        none close (subst (λ k. ClosesAfter b k close) same follows)
  ]
