-- A key that is put together byte by byte.
use Rattle.std.specs.Prelude.{◌≡◌, ℕ, zero, suc, ◌*◌, ◌^◌, ◌<◌, List, length}
use Rattle.std.specs.List.{AllByRecursion}
use Rattle.walks.specs.Bytes.{spelled_in}
use Rattle.walks.specs.Rows.{key_width}
use Rattle.readers.specs.declared.key.Key.{Key}

-- what one counts in the byte behind the first k, in a number of n bytes: nothing where there is no such byte
abbrev pub unit_in : ℕ → ℕ → ℕ
unit_in zero k = 0
unit_in (suc n) zero = 2 ^ (8 * n)
unit_in (suc n) (suc k) = unit_in n k

-- the key of these bytes in order, with zeros behind them, and what one counts in the next
pub record Spells (key : Key) (bytes : List ℕ) : Type 0 where
  pub small : AllByRecursion (λ b. b < 256) bytes
  pub number : key.number ≡ spelled_in key_width bytes
  pub unit : key.unit ≡ unit_in key_width (length bytes)
