-- What two stores mean, one behind the other.
use Rattle.std.specs.Prelude.{ℕ, ◌+◌, ◌-◌, min, Bool, cond, List, ◌++◌, length, take, Some, None, Option, ◌==◌, nat_lt}
use Rattle.stores.specs.declared.question.Question.{Question}
use Rattle.stores.specs.Meaning.{Meaning}

-- the first 65,535 of both lists joined
abbrev pub both_rows : Meaning → Meaning → List (Question → Bool)
both_rows a b = take 65535 (a.rows ++ b.rows)

-- what both take while the second is empty, else what the second takes
abbrev pub both_take : Meaning → Meaning → ℕ
both_take a b = cond (length b.rows == 0) (a.takes + b.takes) b.takes

-- a pair of two stores that has been asked so many questions itself: never more than 65,535 rows are held
abbrev pub paired : Meaning → Meaning → ℕ → Meaning
paired a b questions = record {
  rows = both_rows a b;
  capacity = min (a.capacity + b.capacity) 65535;
  takes = min (both_take a b) (65535 - length (both_rows a b));
  questions = questions;
}

-- a place in a list that stands behind one of n rows
abbrev pub behind : ℕ → Option ℕ → Option ℕ
behind n (Some i) = Some (n + i)
behind n None = None

-- a place, if it is below n
abbrev pub cut : ℕ → Option ℕ → Option ℕ
cut n (Some i) = cond (nat_lt i n) (Some i) None
cut n None = None
