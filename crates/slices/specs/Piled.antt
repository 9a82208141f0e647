-- What a pile of three stores means.
use Rattle.slices.specs.declared.sliced.Words.{Words}
use Rattle.slices.specs.Sliced.{sliced}
use Rattle.stores.specs.declared.listing.Rows.{Rows}
use Rattle.stores.specs.declared.pair.Pair.{Pair}
use Rattle.stores.specs.declared.tabled.Tabled.{Tabled}
use Rattle.stores.specs.Listed.{of_listing}
use Rattle.stores.specs.Meaning.{Meaning}
use Rattle.stores.specs.Paired.{paired}

-- a sliced store
abbrev pub of_sliced : Tabled Words 64 → Meaning
of_sliced s = sliced s.table.words s.held s.questions

-- a listing, and a sliced store behind it
abbrev pub of_pair : Pair (Tabled Rows 512) (Tabled Words 64) → Meaning
of_pair s = paired (of_listing s.first) (of_sliced s.second) s.questions

-- a sliced store, and such a pair behind it
abbrev pub piled : Pair (Tabled Words 64) (Pair (Tabled Rows 512) (Tabled Words 64)) → Meaning
piled s = paired (of_sliced s.first) (of_pair s.second) s.questions
