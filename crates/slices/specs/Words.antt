-- What 288 words say: row r accepts the value v at the place p exactly if bit r of word 16 * p + v is one.
use Rattle.std.specs.Prelude.{ℕ, zero, suc, ◌+◌, ◌-◌, ◌*◌, ◌/◌, ◌%◌, ◌^◌, Bool, true, cond, ◌&&◌, List, map, Some, None, Option, ◌==◌, bit_and, bit_or, nat_lt, slice_index}
use Rattle.std.specs.Int.Count.{count_trailing_zeros}
use Rattle.std.specs.List.{range_with_len}
use Rattle.stores.specs.declared.question.Question.{Question}
use Rattle.stores.specs.declared.question.Row.{Row}
use Rattle.slices.specs.Bit.{bit}

-- half byte p of a state and a key: places 0 and 1 are the state, 2 to 17 the key from the top
abbrev pub half_of : ℕ → ℕ → ℕ → ℕ
half_of s k p = cond (nat_lt p 2) (s / 2 ^ (4 * (1 - p)) % 16) (k / 2 ^ (4 * (17 - p)) % 16)

-- the row accepts the value v at the place p
abbrev pub accepts : Row → ℕ → ℕ → Bool
accepts r p v = bit_and v (half_of 255 r.mask p) == half_of r.state.number r.value p

-- a word with bit r set or cleared
abbrev pub with_bit : ℕ → ℕ → Bool → ℕ
with_bit w r b = cond b (bit_or w (2 ^ r)) (bit_and w ((2 ^ 64 - 1) - 2 ^ r))

-- the lowest bit that is set, if it is one of the first n
abbrev pub lowest_bit : ℕ → ℕ → Option ℕ
lowest_bit w n = cond (nat_lt (count_trailing_zeros 64 w) n) (Some (count_trailing_zeros 64 w)) None

-- the words that the first n places name, put together by AND
unfoldable pub named : List ℕ → (ℕ → ℕ) → ℕ → ℕ
named ws h zero = 2 ^ 64 - 1
named ws h (suc p) = bit_and (named ws h p) (slice_index ws (p * 16 + h p))

-- the first n places of a question, whose half bytes h gives, are all accepted by row r
unfoldable pub agrees : List ℕ → ℕ → (ℕ → ℕ) → ℕ → Bool
agrees ws r h zero = true
agrees ws r h (suc p) = agrees ws r h p && bit r (slice_index ws (p * 16 + h p))

-- the questions that row r fits, read off the words
unfoldable pub row_at : List ℕ → ℕ → Question → Bool
row_at ws r q = agrees ws r (half_of q.state.number q.key) 18

-- the first `held` rows
abbrev pub rows_of : List ℕ → ℕ → List (Question → Bool)
rows_of ws held = map (row_at ws) (range_with_len 0 held)
