-- MP3 without a tag, by the headers of its first two frames.
use Rattle.std.specs.Prelude.{◌≡◌, ◌==◌, ℕ, ◌+◌, ◌*◌, ◌/◌, ◌≤◌, Bool, List, [], ◌∷◌, bit_and, if◌then◌else◌, length, slice_index}

-- a header of a frame stands at p: 11 bits of synchronization, layer III, and neither the bit rate nor the sample rate
-- that are not allowed
pub record IsHeader (b : List ℕ) (p : ℕ) : Type 0 where
  pub within : p + 4 ≤ length b
  pub sync : slice_index b p ≡ 0xFF
  pub layer : bit_and (slice_index b (p + 1)) 0xE6 ≡ 0xE2
  pub rate : ¬ (bit_and (slice_index b (p + 2)) 0xF0 ≡ 0xF0)
  pub samples : ¬ (bit_and (slice_index b (p + 2)) 0x0C ≡ 0x0C)

-- the version of MPEG that the second byte states, by its bits 18: 1 (both or the lower), 2 (the upper), or 2.5
abbrev pub is_version_1 : ℕ → Bool
is_version_1 second = bit_and second 0x08 == 0x08

-- bit rates in thousands a second, by the high half of the third byte
abbrev pub rates_of_1 : List ℕ
rates_of_1 = 0 ∷ 32 ∷ 40 ∷ 48 ∷ 56 ∷ 64 ∷ 80 ∷ 96 ∷ 112 ∷ 128 ∷ 160 ∷ 192 ∷ 224 ∷ 256 ∷ 320 ∷ []

abbrev pub rates_of_2 : List ℕ
rates_of_2 = 0 ∷ 8 ∷ 16 ∷ 24 ∷ 32 ∷ 40 ∷ 48 ∷ 56 ∷ 64 ∷ 80 ∷ 96 ∷ 112 ∷ 128 ∷ 144 ∷ 160 ∷ []

abbrev pub bit_rate : ℕ → ℕ → ℕ
bit_rate second third = 1000 * slice_index (if is_version_1 second then rates_of_1 else rates_of_2) (third / 16)

-- samples a second, of version 1
abbrev pub samples_of_1 : ℕ → ℕ
samples_of_1 third =
    if bit_and third 0x0C == 0x00 then 44100 else (if bit_and third 0x0C == 0x04 then 48000 else 32000)

-- version 2 has half of them, and version 2.5 a quarter
abbrev pub divisor : ℕ → ℕ
divisor second = if bit_and second 0x18 == 0x10 then 2 else (if bit_and second 0x18 == 0x00 then 4 else 1)

abbrev pub sample_rate : ℕ → ℕ → ℕ
sample_rate second third = samples_of_1 third / divisor second

-- bytes for each bit a second and sample a second: an eighth of the samples in a frame
abbrev pub scale : ℕ → ℕ
scale second = if is_version_1 second then 144 else 72

-- a frame may have one byte more
abbrev pub padding : ℕ → ℕ
padding third = if bit_and third 0x02 == 0x02 then 1 else 0

abbrev pub frame_length : ℕ → ℕ → ℕ
frame_length second third = bit_rate second third * scale second / sample_rate second third + padding third

-- the frame that begins first is no shorter than its header, and the next frame begins after it
pub record IsMp3 (b : List ℕ) : Type 0 where
  pub first : IsHeader b 0
  pub long : 4 ≤ frame_length (slice_index b 1) (slice_index b 2)
  pub next : IsHeader b (frame_length (slice_index b 1) (slice_index b 2))
