-- Tar archives without a magic text, by the checksum of their first header.
use Rattle.std.specs.Prelude.{◌≡◌, ℕ, zero, suc, ◌+◌, ◌-◌, ◌*◌, ◌<◌, ◌≤◌, ◌⊎◌, List, length, slice_index}

-- the sum of the n bytes from p on
abbrev pub sum_from : List ℕ → ℕ → ℕ → ℕ
sum_from b p zero = 0
sum_from b p (suc n) = sum_from b p n + slice_index b (p + n)

-- the sum of the header's 512 bytes, where those of the checksum itself count as eight spaces
unfoldable pub header_sum : List ℕ → ℕ
header_sum b = sum_from b 0 148 + 256 + sum_from b 156 356

-- a digit below 8
abbrev pub IsOctal : ℕ → Type 0
IsOctal x = (0x30 ≤ x) × (x ≤ 0x37)

-- the number that the n digits from p on write
abbrev pub octal : List ℕ → ℕ → ℕ → ℕ
octal b p zero = 0
octal b p (suc n) = 8 * octal b p n + (slice_index b (p + n) - 0x30)

-- the checksum is d digits from p on, after spaces, up to the end of its eight bytes, a 00 or a 20
pub record IsField (b : List ℕ) (p d : ℕ) : Type 0 where
  pub low : 148 ≤ p
  pub spaces : (k : ℕ) → 148 ≤ k → k < p → slice_index b k ≡ 0x20
  pub some : 1 ≤ d
  pub high : p + d ≤ 156
  pub digits : (k : ℕ) → k < d → IsOctal (slice_index b (p + k))
  pub end : (p + d ≡ 156) ⊎ (slice_index b (p + d) ≡ 0x00) ⊎ (slice_index b (p + d) ≡ 0x20)

-- there is one, of any value
abbrev pub HasField : List ℕ → Type 0
HasField b = (p d : ℕ) × IsField b p d

-- a whole first header that does not begin with 00, and whose checksum is its sum
abbrev pub HasTarChecksum : List ℕ → Type 0
HasTarChecksum b =
    (512 ≤ length b) × (1 ≤ slice_index b 0) × ((p d : ℕ) × IsField b p d × (octal b p d ≡ header_sum b))
