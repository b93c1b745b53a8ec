-- Truth values packed in words of 64 bits, the first place in the highest bit of the first word.
use Rattle.std.specs.Prelude.{ℕ, ◌≡◌, ◌+◌, ◌-◌, ◌*◌, ◌/◌, ◌%◌, ◌^◌, ◌≤◌, ◌==◌, Bool, true, false, List, length, map, slice_index_or}
use Rattle.std.specs.List.{range_with_len}
use Rattle.std.specs.Int.{bit_at, bit_not, w64}
use Rattle.std.specs.Int.Bits.{bit_and, bit_or}

-- whether the bit of a place is set
abbrev pub bit_in : List ℕ → ℕ → Bool
bit_in words i = bit_at (slice_index_or words (i / 64) 0) (63 - i % 64) == 1

-- the first truth values, so many
abbrev pub bits_in : List ℕ → ℕ → List Bool
bits_in words len = map (bit_in words) (range_with_len 0 len)

-- a word with this bit at a place from the lowest
abbrev pub with_bit : ℕ → ℕ → Bool → ℕ
with_bit word k true = bit_or word (1 * 2 ^ k % 2 ^ 64)
with_bit word k false = bit_and word (bit_not w64 (1 * 2 ^ k % 2 ^ 64))

-- as few words as hold so many truth values, with no bit set behind them
pub record IsPacked (words : List ℕ) (len : ℕ) : Type 0 where
  pub count : length words ≡ (len + 63) / 64
  pub clear : (i : ℕ) → len ≤ i → bit_in words i ≡ false
