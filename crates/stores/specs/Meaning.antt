-- What a store means, and what each call makes of it.
use Rattle.std.specs.Prelude.{ℕ, ◌+◌, ◌-◌, ◌%◌, ◌^◌, ◌<◌, ◌≤◌, Bool, cond, List, [], ◌∷◌, ◌++◌, length, Some, None, Ok, Err, Option, Result, ◌==◌}
use Rattle.stores.specs.declared.question.Question.{Question}
use Rattle.stores.specs.declared.question.Row.{Row}
use Rattle.stores.specs.declared.fault.StoreFault.{StoreFault}
use Rattle.stores.specs.declared.fault.StoreFault.TheVariants.{Full}
use Rattle.stores.specs.Fits.{fits}

-- the rows in order, each as the questions it fits; how many rows there can be; how many more are taken; the questions put so far, modulo 2 ^ 64
pub record Meaning : Type 0 where
  pub rows : List (Question → Bool)
  pub capacity : ℕ
  pub takes : ℕ
  pub questions : ℕ

-- the law of every store: rows held, capacity and rows taken are told in 16 bits, and questions are counted modulo 2 ^ 64
pub record Bounded (m : Meaning) : Type 0 where
  pub rows_fit : length m.rows ≤ 65535
  pub capacity_fits : m.capacity ≤ 65535
  pub takes_fit : m.takes ≤ 65535
  pub questions_fit : m.questions < 2 ^ 64

-- a store of n rows at its making: none held, none asked
abbrev pub fresh : ℕ → Meaning
fresh n = record { rows = []; capacity = n; takes = n; questions = 0 }

-- the store with these rows and this many still taken, and all else as it was
abbrev pub holding : Meaning → List (Question → Bool) → ℕ → Meaning
holding m rows takes = record { rows = rows; capacity = m.capacity; takes = takes; questions = m.questions }

-- no rows, and the capacity is taken again
abbrev pub wiped : Meaning → Meaning
wiped m = holding m [] m.capacity

-- a row is refused exactly if none is taken
abbrev pub admits : Meaning → Result (Unit {0}) StoreFault
admits m = cond (m.takes == 0) (Err Full) (Ok tt)

-- an admitted row is the last, and one fewer is taken; a refused one changes nothing
abbrev pub appended : Meaning → Row → Meaning
appended m r = cond (m.takes == 0) m (holding m (m.rows ++ (fits r ∷ [])) (m.takes - 1))

-- rows appended one after the other
abbrev pub appended_each : Meaning → List Row → Meaning
appended_each m [] = m
appended_each m (r ∷ rs) = appended_each (appended m r) rs

-- the same place in a list with one more row before it
abbrev pub later : Option ℕ → Option ℕ
later (Some i) = Some (i + 1)
later None = None

-- the place of the first row that fits
abbrev pub answer : List (Question → Bool) → Question → Option ℕ
answer [] q = None
answer (f ∷ fs) q = cond (f q) (Some 0) (later (answer fs q))

-- one more question, and all else as it was. A meaning counts the questions and keeps none of them
abbrev pub asked : Meaning → Question → Meaning
asked m q = record { rows = m.rows; capacity = m.capacity; takes = m.takes; questions = (m.questions + 1) % 2 ^ 64 }

-- questions one after the other
abbrev pub asked_each : Meaning → List Question → Meaning
asked_each m [] = m
asked_each m (q ∷ qs) = asked_each (asked m q) qs
