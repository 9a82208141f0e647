-- How a range is split: from its low end the largest block of 2^k numbers that begins at a multiple of 2^k and ends by high, then the rest.
use Rattle.std.specs.Prelude.{◌≡◌, ℕ, zero, suc, ◌+◌, ◌-◌, ◌%◌, ◌^◌, ◌<◌, ◌≤◌, Bool, cond, ◌&&◌, List, [], ◌∷◌, ◌==◌, bit_and, nat_le}
use Rattle.patterns.specs.declared.block.Block.{Block}

-- the block of so many numbers from low, where their number is a power of two
abbrev pub block_at : ℕ → ℕ → Block
block_at low count = record { value = low; mask = 2 ^ 16 - count }

-- the block of 2^k numbers from low: its mask has all of 16 bits but the k low ones
abbrev pub block_of : ℕ → ℕ → Block
block_of low k = block_at low (2 ^ k)

-- the key lies in the block: its bits under the mask are the value
abbrev pub block_fits : Block → ℕ → Bool
block_fits b key = bit_and key b.mask == b.value

-- 2^k numbers from low begin at a multiple of 2^k and end by high, and no greater k does so
pub record LargestBlock (low high k : ℕ) : Type 0 where
  pub aligned : low % 2 ^ k ≡ 0
  pub inside : low + 2 ^ k ≤ high + 1
  pub most : (j : ℕ) → low % 2 ^ j ≡ 0 → low + 2 ^ j ≤ high + 1 → j ≤ k

-- the rule in words: no blocks where no number is left, and else the largest block and then those of the rest
abbrev pub SplitsInto : ℕ → ℕ → List Block → Type 0
SplitsInto low high [] = high < low
SplitsInto low high (b ∷ bs) = (k : ℕ) × LargestBlock low high k × (b ≡ block_of low k) × SplitsInto (low + 2 ^ k) high bs

-- 2^k numbers from low begin at a multiple of 2^k and end by high
abbrev pub block_ok : ℕ → ℕ → ℕ → Bool
block_ok low high k = low % 2 ^ k == 0 && nat_le (low + 2 ^ k) (high + 1)

-- the largest such k up to a limit
abbrev pub largest : ℕ → ℕ → ℕ → ℕ
largest low high zero = 0
largest low high (suc k) = cond (block_ok low high (suc k)) (suc k) (largest low high k)

-- the k of the first block of low to high
unfoldable pub top_block : ℕ → ℕ → ℕ
top_block low high = largest low high 16

-- the blocks of low to high, at most so many. Each takes a number at least, so as many as there are numbers are enough
abbrev pub split_by : ℕ → ℕ → ℕ → List Block
split_by zero low high = []
split_by (suc steps) low high =
    cond (nat_le low high) (block_of low (top_block low high) ∷ split_by steps (low + 2 ^ top_block low high) high) []

-- the blocks of low to high, from the low end
abbrev pub split_of : ℕ → ℕ → List Block
split_of low high = split_by (high + 1 - low) low high
