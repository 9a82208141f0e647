-- What a sliced store means.
use Rattle.std.specs.Prelude.{ℕ, List}
use Rattle.stores.specs.Meaning.{Meaning}
use Rattle.stores.specs.Tabled.{tabled}
use Rattle.slices.specs.Words.{rows_of}

-- the first `held` bits of its words are its rows
abbrev pub sliced : List ℕ → ℕ → ℕ → Meaning
sliced words held questions = tabled (rows_of words held) 64 held questions
