-- White space at the end of a text.
use Rattle.std.proofs.Common.{◌≡◌, ◌↔◌, ◌∙◌, ◌++◌, ℕ, ◌+◌, ◌-◌, ◌<◌, ◌≤◌, List, [], true, false, ap, arith, drop, get_or, length, length-append, take, sym}
use Rattle.std.proofs.Math.Seq.{drop-append_seam}
use Rattle.std.proofs.lemmas.List.{drop-map, length-map, map-append, take-append-drop}
use Rattle.std.specs.Char.{to_ascii_lowercase}
use Rattle.std.proofs.lemmas.List.Sums.{suffix_len_is}
use Rattle.std.specs.List.{suffix_len}
use Rattle.mime_types.specs.Bytes.{is_white}
use Rattle.mime_types.specs.Text.{lower, trim_end}

module _ (t : List ℕ) where
  ends_at : (n : ℕ) → n ≤ length t → suffix_len is_white t ≡ length t - n → take n t ≡ trim_end t
  ends_at n within is = let same : n ≡ length t - suffix_len is_white t = omega arith in ap (λ i. take i t) same

  -- the last byte that is no white space stands at m
  pub ends_after : (m : ℕ) → m < length t → ((k : ℕ) → m < k → k < length t → is_white (get_or t k 0) ≡ true)
      → is_white (get_or t m 0) ≡ false → take (m + 1) t ≡ trim_end t
  ends_after m within white last =
      ends_at (m + 1) (omega arith)
      (suffix_len_is is_white t (m + 1) 0 (omega arith) (λ k low high. white k (omega arith) high)
      (λ some. let same : m + 1 - 1 ≡ m = omega arith in ap (λ i. is_white (get_or t i 0)) same ∙ last))

  -- each byte is white space
  pub all_white : ((k : ℕ) → k < length t → is_white (get_or t k 0) ≡ true) → [] ≡ trim_end t
  all_white white =
      ends_at 0 (omega arith) (suffix_len_is is_white t 0 0 (omega arith) (λ k low high. white k high) (λ some. absurd (omega arith)))

-- a text ends so in lower case if its last bytes do
module _ (t e : List ℕ) (long : length e ≤ length t) where
  pub ending : (lower (drop (length t - length e) t) ≡ e) ↔ ((start : List ℕ) × (lower t ≡ start ++ e))
  ending = (
    λ same. (lower (take (length t - length e) t), whole same),
    λ (start, is). last start is,
  )
    where
      whole : lower (drop (length t - length e) t) ≡ e → lower t ≡ lower (take (length t - length e) t) ++ e
      whole same =
          ap lower (sym (take-append-drop (length t - length e) t))
          ∙ (map-append to_ascii_lowercase (take (length t - length e) t) (drop (length t - length e) t)
          ∙ ap (λ x. lower (take (length t - length e) t) ++ x) same)

      last : (start : List ℕ) → lower t ≡ start ++ e → lower (drop (length t - length e) t) ≡ e
      last start is =
          let long_start : length t - length e ≡ length start
          = omega (arith, length-map t to_ascii_lowercase, ap length is, length-append start e) in
          sym (drop-map to_ascii_lowercase (length t - length e) t)
          ∙ (ap (drop (length t - length e)) is ∙ (ap (λ n. drop n (start ++ e)) long_start ∙ drop-append_seam start e))
