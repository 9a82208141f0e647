-- A row's bits on their way into the words: the words vs were ws, and bit `held` of the first n of them has been put.
use Rattle.std.proofs.Common.{◌≡◌, ℕ, ◌/◌, ◌%◌, ◌<◌, ◌≤◌, List, length, get_or}
use Rattle.stores.specs.declared.question.Row.{Row}
use Rattle.slices.specs.Words.{with_bit, accepts}

pub record Putting (ws vs : List ℕ) (held : ℕ) (row : Row) (n : ℕ) : Type 0 where
  pub long : length vs ≡ length ws
  pub done : (k : ℕ) → k < n → get_or vs k 0 ≡ with_bit (get_or ws k 0) held (accepts row (k / 16) (k % 16))
  pub rest : (k : ℕ) → n ≤ k → get_or vs k 0 ≡ get_or ws k 0
