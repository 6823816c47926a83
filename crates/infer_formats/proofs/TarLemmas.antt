-- The checksum is all the digits that stand after the spaces.
use Rattle.infer_formats.proofs.Common.{◌≡◌, ℕ, ◌+◌, ◌<◌, ◌≤◌, List, get_or, add-zero, subst, arith, IsField, IsOctal, octal, inl, inr, zero, suc, ◌-◌, ◌++◌, length, refl, sym, ◌∙◌, cases_lt, get_or_append_left, MayBecome, HasTarChecksum, header_sum, sum_from, true, length-append, slice_index, OccursAt, ◌↔◌, IsTrue, and_from, le-leb, or_left, or_right, get_or-replicate, length-replicate, nat_le, replicate, digit_after, digits_after, lines, tar_checksum, StandsByPlace, accepts, fits, stands}
use Rattle.infer_formats.specs.Tar.{HasField}
use Rattle.infer_formats.proofs.OutlineLemmas.{in_range, occurs}
use Rattle.infer_sig.proofs.KnownLemmas.{Known, at_most, both, proved, same, takes, ◌>>=◌}

module _ (b : List ℕ) (place count p d : ℕ) (low : 148 ≤ place) (spaces : (k : ℕ) → 148 ≤ k → k < place → get_or b k 0 ≡ 0x20)
    (ends : place < 156 → ¬ (get_or b place 0 ≡ 0x20)) (f : IsField b p d) where
  pub place_is : p ≡ place
  place_is =
      let begins : IsOctal (get_or b p 0) = rw add-zero at (f.digits 0 f.some) in
      let early = spaces p f.low in
      let late = f.spaces place low in
      let high = f.high in
      grind arith

pub count_is : (b : List ℕ) (p count d : ℕ) → p + count ≤ 156 → ((k : ℕ) → k < count → IsOctal (get_or b (p + k) 0))
    → (p + count < 156 → ¬ IsOctal (get_or b (p + count) 0)) → IsField b p d → d ≡ count
count_is b p count d fits digits ends f =
    let early = digits d in
    let late = f.digits count in
    let end = f.end in
    let high = f.high in
    let low = f.low in
    grind arith

-- so a checksum anywhere is the one that is read
pub located : (b : List ℕ) (place count n : ℕ) → 148 ≤ place → place + count ≤ 156 → ((k : ℕ) → 148 ≤ k → k < place → get_or b k 0 ≡ 0x20)
    → (place < 156 → ¬ (get_or b place 0 ≡ 0x20)) → ((k : ℕ) → k < count → IsOctal (get_or b (place + k) 0))
    → (place + count < 156 → ¬ IsOctal (get_or b (place + count) 0)) → (p d : ℕ) → IsField b p d → octal b p d ≡ n
    → IsField b place count × (octal b place count ≡ n)
located b place count n low fits spaces ends digits stops p d f value =
    let e = place_is b place count p d low spaces ends f in
    let here = subst (λ x. IsField b x d) e f in
    let known = subst (λ x. octal b x d ≡ n) e value in
    let g = count_is b place count d fits digits stops here in
    (subst (λ x. IsField b place x) g here, subst (λ x. octal b place x ≡ n) g known)

-- what two buffers have alike up to the field's end, both have of it
field_same : (b c : List ℕ) (p d : ℕ) → ((k : ℕ) → k < 156 → get_or b k 0 ≡ get_or c k 0) → IsField b p d → IsField c p d
field_same b c p d same f =
    let some = f.some in
    let high = f.high in
    record {
      low = f.low;
      spaces = λ k low lt. sym (same k (omega arith)) ∙ f.spaces k low lt;
      some = f.some;
      high = f.high;
      digits = λ k lt. subst IsOctal (same (p + k) (omega arith)) (f.digits k lt);
      end = elim f.end [
        | inl e ↦ inl e
        | inr ends ↦ elim (cases_lt (p + d) 156) [
          | inr l ↦ inl (omega arith)
          | inl l ↦ inr (elim ends [ inl e ↦ inl (sym (same (p + d) l) ∙ e) | inr e ↦ inr (sym (same (p + d) l) ∙ e) ])
        ]
      ];
    }

sum_same : (b c : List ℕ) (p n : ℕ) → ((k : ℕ) → k < p + n → get_or b k 0 ≡ get_or c k 0) → sum_from b p n ≡ sum_from c p n
sum_same b c p zero same = refl
sum_same b c p (suc n) same =
    let before = sum_same b c p n (λ k lt. same k (omega arith)) in let last = same (p + n) (omega arith) in omega arith

octal_same : (b c : List ℕ) (p n : ℕ) → ((k : ℕ) → k < p + n → get_or b k 0 ≡ get_or c k 0) → octal b p n ≡ octal c p n
octal_same b c p zero same = refl
octal_same b c p (suc n) same =
    let before = octal_same b c p n (λ k lt. same k (omega arith)) in let last = same (p + n) (omega arith) in omega arith

header_sum_same : (b c : List ℕ) → ((k : ℕ) → k < 512 → get_or b k 0 ≡ get_or c k 0) → header_sum b ≡ header_sum c
unfolding header_sum
header_sum_same b c same = go _ _ _ _ (sum_same b c 0 148 (λ k lt. same k (omega arith))) (sum_same b c 156 356 (λ k lt. same k (omega arith)))
  where
    go : (x y v w : ℕ) → x ≡ v → y ≡ w → x + 256 + y ≡ v + 256 + w
    go x y v w e f = omega arith

-- so two with the same first header have its checksum both
header_same : (b c : List ℕ) → 512 ≤ length c → ((k : ℕ) → k < 512 → get_or b k 0 ≡ get_or c k 0) → HasTarChecksum b → HasTarChecksum c
header_same b c long same (size, first, (p, d, f, e)) =
    let high = f.high in
    let digits = octal_same b c p d (λ k lt. same k (omega arith)) in
    let field = field_same b c p d (λ k lt. same k (omega arith)) f in
    (long, subst (λ x. 1 ≤ x) (same 0 (omega arith)) first, (p, d, field, sym digits ∙ e ∙ header_sum_same b c same))

-- ---- of a buffer that grows

module _ (b more : List ℕ) where
  kept : (k : ℕ) → k < length b → get_or (b ++ more) k 0 ≡ get_or b k 0
  kept k lt = get_or_append_left b more 0 k lt

  pub tar_checksum-lasts : HasTarChecksum b → HasTarChecksum (b ++ more)
  tar_checksum-lasts is =
      let long = is.0 in header_same b (b ++ more) (omega (arith, length-append b more)) (λ k lt. sym (kept k (omega arith))) is

pub whole_before : (b : List ℕ) → 512 ≤ length b → MayBecome HasTarChecksum b → HasTarChecksum b
whole_before b long (more, bytes, is) = header_same (b ++ more) b long (λ k lt. kept b more k (omega arith)) is

pub field_before : (b : List ℕ) → 156 ≤ length b → MayBecome HasTarChecksum b → HasField b
field_before b long (more, bytes, (size, first, (p, d, f, e))) = (p, d, field_same (b ++ more) b p d (λ k lt. kept b more k (omega arith)) f)

pub zero_never : (b : List ℕ) → 0 < length b → get_or b 0 0 ≡ 0 → ¬ MayBecome HasTarChecksum b
zero_never b some zero_first (more, bytes, (size, first, rest)) = let same = kept b more 0 some in omega arith

-- ---- the bytes that each has

module _ (by_place : (place : ℕ) (t buf : List ℕ) → IsTrue (stands place t buf) ↔ StandsByPlace place t buf) (b : List ℕ) where
  spaces_at : (n : ℕ) → 148 + n ≤ length b → ((k : ℕ) → 148 ≤ k → k < 148 + n → slice_index b k ≡ 0x20) → OccursAt b (replicate n 0x20) 148
  spaces_at n le all = record {
    fits = let long = length-replicate {A = ℕ} n 0x20 in omega arith;
    reads = λ j l. let long = length-replicate {A = ℕ} n 0x20 in all (148 + j) (omega arith) (omega arith) ∙ sym (get_or-replicate n j 0x20 0 (omega arith));
  }

  digit_lines : (n m k : ℕ) → k < m → IsTrue (fits b (digit_after (n + k))) → IsTrue (accepts (digits_after n m) b)
  digit_lines n zero k lt h = absurd (omega arith)
  digit_lines n (suc m) zero lt h = let e : n + 0 ≡ n = omega arith in or_left (fits b (digit_after n)) _ (subst (λ x. IsTrue (fits b (digit_after x))) e h)
  digit_lines n (suc m) (suc k) lt h =
      let e : n + suc k ≡ suc n + k = omega arith in
      or_right (fits b (digit_after n)) _ (digit_lines (suc n) m k (omega arith) (subst (λ x. IsTrue (fits b (digit_after x))) e h))

  pub field_lines : (p d : ℕ) → 512 ≤ length b → IsField b p d → IsTrue (accepts (lines tar_checksum) b)
  field_lines p d long f =
      let low = f.low in let high = f.high in let some = f.some in
      let place : 148 + (p - 148) ≡ p = omega arith in
      let digit = subst (λ k. IsOctal (slice_index b k)) (let e : p + 0 ≡ 148 + (p - 148) = omega arith in e) (f.digits 0 (omega arith)) in
      let after : IsTrue (fits b (digit_after (p - 148))) =
      and_from (nat_le 512 (length b)) _ (le-leb 512 (length b) long)
      (and_from _ _ (occurs by_place b 148 _ (spaces_at (p - 148) (omega arith) (λ k from to. f.spaces k from (omega arith))))
      (and_from _ true (in_range by_place b (148 + (p - 148)) 0x30 0x37 (omega arith) digit.0 digit.1) refl)) in
      let e : p - 148 ≡ 0 + (p - 148) = omega arith in
      digit_lines 0 8 (p - 148) (omega arith) (subst (λ n. IsTrue (fits b (digit_after n))) e after)

-- ---- what a computation says of a tar archive

module _ (b : List ℕ) where
  pub digits_of : IsOctal (slice_index b 148) → IsOctal (slice_index b 149) → IsOctal (slice_index b 150) → (k : ℕ) → k < 3 → IsOctal (slice_index b (148 + k))
  digits_of x y z zero lt = x
  digits_of x y z (suc zero) lt = y
  digits_of x y z (suc (suc zero)) lt = z
  digits_of x y z (suc (suc (suc k))) lt = absurd (omega arith)

  -- three digits
  abbrev pub known_checksum : Known (HasTarChecksum b)
  known_checksum = do
    long ← takes (at_most 512 (length b))
    some ← takes (at_most 1 (slice_index b 0))
    first ← takes (both (at_most 0x30 (slice_index b 148)) (at_most (slice_index b 148) 0x37))
    second ← takes (both (at_most 0x30 (slice_index b 149)) (at_most (slice_index b 149) 0x37))
    third ← takes (both (at_most 0x30 (slice_index b 150)) (at_most (slice_index b 150) 0x37))
    end ← takes (same (slice_index b 151) 0x00)
    sums ← takes (same (octal b 148 3) (header_sum b))
    proved (
      long,
      some,
      (
        148,
        3,
        record {
          low = omega arith;
          spaces = λ k low lt. absurd (omega arith);
          some = omega arith;
          high = omega arith;
          digits = digits_of first second third;
          end = inr (inl end);
        },
        sums,
      ),
    )
