-- What holds of every load of a plain tap.
use Rattle.std.specs.Prelude.{◌≡◌, ℕ, ◌<◌, List, Some, Ok, slice_index}
use Rattle.headers.specs.Table.{minimum}
use Rattle.walks.specs.Plans.{Lawful}
use Rattle.walks.specs.Theorems.{Accepted}
use Rattle.taps.specs.Plain.{GraphAndPlan, PlainTap, PlainLoad}

-- once a file of bytes and a plan are accepted, what is loaded is a graph that reading accepts and a plan that keeps its rules
abbrev pub LoadsAreSound : Type 0
LoadsAreSound =
    (p q : PlainTap) (file plan : List ℕ) (capacity : ℕ) → ((i : ℕ) → slice_index file i < 256) → PlainLoad p file plan capacity (Ok tt) q
    → (l : GraphAndPlan) → q.loaded ≡ Some l → Accepted minimum l.graph × Lawful l.graph l.chain
