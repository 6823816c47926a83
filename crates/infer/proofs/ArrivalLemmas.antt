-- What more bytes can bring to a buffer of at least 1024 bytes.
use Rattle.infer.proofs.Common.{◌<◌, ◌≤◌, ◌+◌, ◌-◌, ◌⊎◌, ◌++◌, zero-le, ℕ, suc, List, length, refl, inl, inr, arith, IsTrue, length-append, AllWithin, range_with_len, take-append-le, get_or-range_with_len, length-range_with_len, Alternative, IsAwaited, last_awaited, Comes, BuiltIn, avif, doc, framed, heif, html, office, ppt, xls, xml, IsAccepted, IsNear, signature_of, table, ROW_COUNT}
use Rattle.infer_sig.specs.Laws as Fixed
use Rattle.infer_deep.specs.Laws as Deep
use Rattle.infer_sig.proofs.KnownLemmas.{Known, proved, each_known, each_before, at_most, takes, ◌>>=◌}
use Rattle.infer.proofs.LawLemmas.{known_near}
use Rattle.infer.proofs.OrderLemmas.{exclusion}

-- what holds of n numbers from s on holds of each
in_range : (P : ℕ → Type 0) (s n : ℕ) → AllWithin P (range_with_len s n) 0 n → (k : ℕ) → s ≤ k → k < s + n → P k
in_range P s n all k low high = grind (arith, get_or-range_with_len s n (k - s) 0, zero-le)

module _ (fixed_near : (n : ℕ) (s : List Alternative) → IsTrue (Fixed.is_within n s) → Fixed.DependsOnFront n s) (deep_near : Deep.Near)
    (arrivals : Deep.Arrivals) (exclude : Deep.Apart) (b more : List ℕ) (long : 1024 ≤ length b) where
  before : (s : BuiltIn) → IsNear (IsAccepted s) → IsAccepted s (b ++ more) → IsAccepted s b
  before s near h = grind (arith, length-append b more, take-append-le 1024 b more long)

  either_id : IsAccepted xls (b ++ more) → IsAccepted xls b ⊎ IsAwaited xls b
  either_id (inl h) = elim (arrivals.class_id _ b more long h) [ inl here ↦ inl (inl here) | inr begins ↦ inr begins ]
  either_id (inr h) = elim (arrivals.class_id _ b more long h) [ inl here ↦ inl (inr here) | inr begins ↦ inr begins ]

  -- how the buffer begins, if more bytes bring the signature
  abbrev comes : (s : BuiltIn) → Known (IsAccepted s (b ++ more) → IsAccepted s b ⊎ IsAwaited s b)
  comes (framed magic) = do
    short ← takes (at_most (length magic) 4)
    proved (arrivals.framed magic short b more long)
  comes heif = proved (arrivals.heif b more long)
  comes avif = proved (arrivals.avif b more long)
  comes (office folder) = do
    short ← takes (at_most (length folder) 5)
    proved (arrivals.office folder short b more long)
  comes doc = proved (arrivals.class_id _ b more long)
  comes xls = proved either_id
  comes ppt = proved (arrivals.class_id _ b more long)
  comes html = proved (arrivals.html b more long)
  comes xml = proved (arrivals.xml b more long)
  comes s = do
    near ← takes (known_near fixed_near deep_near s)
    proved (λ h. inl (before s near h))

  -- what more bytes bring is not with the other
  abbrev IsAlone : BuiltIn → BuiltIn → Type 0
  IsAlone s t = IsAccepted s (b ++ more) → (¬ IsAccepted s b) → IsAccepted t b → ¬ IsAccepted t (b ++ more)

  -- the earlier row's signature, and that of the later
  abbrev rival : (s t : BuiltIn) → Known (IsAlone s t)
  rival heif avif = proved (λ accepted refused here there.
      elim (arrivals.heif b more long accepted) [ inl h ↦ refused h | inr o ↦ exclude.open_boxed b o here.0 ])
  rival s t = do
    apart ← takes (exclusion exclude t s)
    proved (λ accepted refused here there. apart (b ++ more) there accepted)

  abbrev newcomer : (i : ℕ) → Known (IsAccepted (signature_of i) (b ++ more) → (¬ IsAccepted (signature_of i) b) → Comes i b more)
  newcomer i = do
    brought ← takes (comes (signature_of i))
    let n = last_awaited (signature_of i) - i
    let within : n ≤ length (range_with_len (suc i) n) = omega (arith, length-range_with_len (suc i) n)
    alone ← takes (each_before (λ k. rival (signature_of i) (signature_of k)) (range_with_len (suc i) n) n within)
    proved (λ accepted refused. record {
      awaited = elim (brought accepted) [ inl here ↦ absurd (refused here) | inr awaited ↦ awaited ];
      alone = λ k low high. in_range (λ j. IsAlone (signature_of i) (signature_of j)) (suc i) n alone k low (omega arith) accepted refused;
    })

  pub awaited_newcomer : (i : ℕ) → i < ROW_COUNT
      → IsAccepted (signature_of i) (b ++ more) → (¬ IsAccepted (signature_of i) b) → Comes i b more
  unfolding table signature_of
  awaited_newcomer = each_known newcomer ROW_COUNT 8 (refl, (refl, (refl, (refl, (refl, (refl, (refl, (refl, tt)))))))) (omega arith)
