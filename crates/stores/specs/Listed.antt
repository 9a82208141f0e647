-- What a listing means.
use Rattle.std.specs.Prelude.{ℕ, List, map, take}
use Rattle.stores.specs.declared.listing.Rows.{Rows}
use Rattle.stores.specs.declared.question.Row.{Row}
use Rattle.stores.specs.declared.tabled.Tabled.{Tabled}
use Rattle.stores.specs.Fits.{fits}
use Rattle.stores.specs.Meaning.{Meaning}
use Rattle.stores.specs.Tabled.{tabled}

-- the first `held` of 512 places are its rows
abbrev pub listed : List Row → ℕ → ℕ → Meaning
listed rows held questions = tabled (map fits (take held rows)) 512 held questions

-- what the store of these rows means
abbrev pub of_listing : Tabled Rows 512 → Meaning
of_listing s = listed s.table.rows s.held s.questions
