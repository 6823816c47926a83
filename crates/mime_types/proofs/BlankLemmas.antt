-- Tabs and blanks at the end of a text.
use Rattle.std.proofs.Common.{◌≡◌, ◌∙◌, ℕ, ◌+◌, ◌-◌, ◌<◌, ◌≤◌, List, [], true, false, ap, arith, get_or, length, take}
use Rattle.std.proofs.lemmas.List.Sums.{suffix_len_is}
use Rattle.std.specs.List.{suffix_len}
use Rattle.mime_types.specs.Nosniff.{is_blank}

module _ (t : List ℕ) where
  ends_at : (n : ℕ) → n ≤ length t → suffix_len is_blank t ≡ length t - n → take n t ≡ take (length t - suffix_len is_blank t) t
  ends_at n within is = let same : n ≡ length t - suffix_len is_blank t = omega arith in ap (λ i. take i t) same

  -- the last other byte stands at m
  pub ends_after : (m : ℕ) → m < length t → ((k : ℕ) → m < k → k < length t → is_blank (get_or t k 0) ≡ true)
      → is_blank (get_or t m 0) ≡ false → take (m + 1) t ≡ take (length t - suffix_len is_blank t) t
  ends_after m within blank last =
      ends_at (m + 1) (omega arith)
      (suffix_len_is is_blank t (m + 1) 0 (omega arith) (λ k low high. blank k (omega arith) high)
      (λ some. let same : m + 1 - 1 ≡ m = omega arith in ap (λ i. is_blank (get_or t i 0)) same ∙ last))

  -- each byte is one of them
  pub all_blank : ((k : ℕ) → k < length t → is_blank (get_or t k 0) ≡ true) → [] ≡ take (length t - suffix_len is_blank t) t
  all_blank blank =
      ends_at 0 (omega arith) (suffix_len_is is_blank t 0 0 (omega arith) (λ k low high. blank k high) (λ some. absurd (omega arith)))
