-- What a graph is refused for, in words: the condition of each fault at its place.
use Rattle.std.specs.Prelude.{◌≡◌, ℕ, ◌^◌, ◌<◌, ◌≤◌, ◌⊎◌, List, length}
use Rattle.headers.specs.declared.kinds.Kind.{Kind}
use Rattle.patterns.specs.declared.row.Target.{Target}
use Rattle.patterns.specs.declared.row.Target.TheVariants as to
use Rattle.patterns.specs.Sorts.{ternary_of, ternary_fits, span_of, span_fits}
use Rattle.patterns.specs.Firsts.{CoveredAt}
use Rattle.graphs.specs.declared.graph.Length.{Length}
use Rattle.graphs.specs.declared.graph.Length.TheVariants.{Fixed}
use Rattle.graphs.specs.declared.fault.GraphFault.{GraphFault}
use Rattle.graphs.specs.declared.fault.GraphFault.TheVariants.{Target as AtTarget, Covered, Short}
use Rattle.graphs.specs.View.{RowsView, ternary_rows, range_rows, NodeView, row_count, node_at, target_of}

-- the target is a node that is not above n, or not below the count of nodes
abbrev pub WrongTarget : ℕ → ℕ → Target → Type 0
WrongTarget count n target = (t : ℕ) × (target ≡ to.Node t) × ((t ≤ n) ⊎ (count ≤ t))

-- every key that fits row k fits one earlier row
abbrev pub CoveredRow : RowsView → ℕ → Type 0
CoveredRow (ternary_rows rs) k = CoveredAt (λ key. key < 2 ^ 32) ternary_of ternary_fits rs k
CoveredRow (range_rows rs) k = CoveredAt (λ key. key < 2 ^ 16) span_of span_fits rs k

module _ (minimum : Kind → ℕ) where
  -- a fixed length is under the kind's minimum
  abbrev pub TooShort : Kind → Length → Type 0
  TooShort kind length = (n : ℕ) × (length ≡ Fixed n) × (n < minimum kind)

  -- numbers 4 to 6 of a graph
  abbrev pub GraphApplies : List NodeView → GraphFault → Type 0
  GraphApplies vs (AtTarget n k) =
      (n < length vs) × (k < row_count (node_at vs n).rows) × WrongTarget (length vs) n (target_of (node_at vs n).rows k)
  GraphApplies vs (Covered n k) = (n < length vs) × CoveredRow (node_at vs n).rows k
  GraphApplies vs (Short n) = (n < length vs) × TooShort (node_at vs n).kind (node_at vs n).len
