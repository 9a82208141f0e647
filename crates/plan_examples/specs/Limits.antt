-- What a limited store means.
use Rattle.std.specs.Prelude.{ℕ, ◌-◌, length}
use Rattle.stores.specs.Meaning.{Meaning}

-- the same rows in a store that takes so many at most
abbrev pub limited : Meaning → ℕ → Meaning
limited m limit = record { rows = m.rows; capacity = limit; takes = limit - length m.rows; questions = m.questions }
