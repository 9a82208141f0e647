-- The checks of a graph as tests, and the first fault that they find. They are proved to find what `Refusals` says in words, so
-- nothing need be believed of them.
use Rattle.std.specs.Option.{option_or, option_map}
use Rattle.std.specs.Prelude.{ℕ, Bool, true, ◌&&◌, List, length, Option, nat_le, nat_lt}
use Rattle.refusals.specs.Searching.{first_told, unless}
use Rattle.headers.specs.declared.kinds.Kind.{Kind}
use Rattle.patterns.specs.declared.row.Target.{Target}
use Rattle.patterns.specs.declared.row.Target.TheVariants.{Node, Done, Dropped}
use Rattle.patterns.specs.Sorts.{ternary_of, ternary_covers, span_of, span_covers}
use Rattle.patterns.specs.Finding.{first_covered}
use Rattle.graphs.specs.declared.graph.Length.{Length}
use Rattle.graphs.specs.declared.graph.Length.TheVariants.{Fixed, Counted}
use Rattle.graphs.specs.declared.fault.GraphFault.{GraphFault}
use Rattle.graphs.specs.declared.fault.GraphFault.TheVariants.{Target as AtTarget, Covered, Short}
use Rattle.graphs.specs.View.{RowsView, ternary_rows, range_rows, NodeView, row_count, node_at, target_of}

-- a target of node n is a later node of the graph, done or dropped
abbrev pub target_sound : ℕ → ℕ → Target → Bool
target_sound count n (Node t) = nat_lt n t && nat_lt t count
target_sound count n Done = true
target_sound count n Dropped = true

-- the first row that an earlier one covers
abbrev pub covered_in : RowsView → Option ℕ
covered_in (ternary_rows rs) = first_covered ternary_of ternary_covers rs
covered_in (range_rows rs) = first_covered span_of span_covers rs

-- what is wrong with the targets of node n
abbrev pub row_fault : ℕ → ℕ → RowsView → ℕ → Option GraphFault
row_fault count n rows k = unless (target_sound count n (target_of rows k)) (AtTarget n k)

abbrev pub target_fault : ℕ → ℕ → NodeView → Option GraphFault
target_fault count n v = first_told (row_fault count n v.rows) 0 (row_count v.rows)

-- with its rows
abbrev pub covered_fault : ℕ → NodeView → Option GraphFault
covered_fault n v = option_map (Covered n) (covered_in v.rows)

-- the first node of which something is told
abbrev pub node_fault : (ℕ → NodeView → Option GraphFault) → List NodeView → ℕ → Option GraphFault
node_fault f vs n = f n (node_at vs n)

abbrev pub first_node : (ℕ → NodeView → Option GraphFault) → List NodeView → Option GraphFault
first_node f vs = first_told (node_fault f vs) 0 (length vs)

module _ (minimum : Kind → ℕ) where
  -- a fixed length is not under the kind's minimum
  abbrev pub length_sound : Kind → Length → Bool
  length_sound kind (Fixed n) = nat_le (minimum kind) n
  length_sound kind (Counted place mask shift unit base) = true

  -- what is wrong with the length of node n
  abbrev pub short_fault : ℕ → NodeView → Option GraphFault
  short_fault n v = unless (length_sound v.kind v.len) (Short n)

  -- all targets, then all rows, then all lengths
  abbrev pub graph_fault : List NodeView → Option GraphFault
  graph_fault vs = option_or (first_node (target_fault (length vs)) vs) (option_or (first_node covered_fault vs) (first_node short_fault vs))
