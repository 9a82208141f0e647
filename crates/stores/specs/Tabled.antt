-- What a store over a table of rows means.
use Rattle.std.specs.Prelude.{ℕ, ◌-◌, Bool, List}
use Rattle.stores.specs.declared.question.Question.{Question}
use Rattle.stores.specs.Meaning.{Meaning}

-- these rows, of which there are `held`, in a table of so many places
abbrev pub tabled : List (Question → Bool) → ℕ → ℕ → ℕ → Meaning
tabled rows places held questions = record { rows = rows; capacity = places; takes = places - held; questions = questions }
