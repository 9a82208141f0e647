-- A graph as what its counts name. Two graphs are the same if their views are.
use Rattle.std.specs.Prelude.{◌≡◌, ℕ, ◌<◌, List, [], map, length, take, slice_index_or, replicate}
use Rattle.headers.specs.declared.kinds.Kind.{Kind}
use Rattle.headers.specs.declared.kinds.Kind.TheVariants.{Ethernet}
use Rattle.patterns.specs.declared.row.Target.{Target}
use Rattle.patterns.specs.declared.row.Target.TheVariants as to
use Rattle.patterns.specs.declared.row.TernaryRow.{TernaryRow}
use Rattle.patterns.specs.declared.row.RangeRow.{RangeRow}
use Rattle.graphs.specs.declared.graph.Length.{Length}
use Rattle.graphs.specs.declared.graph.Length.TheVariants.{Fixed}
use Rattle.graphs.specs.declared.graph.Rows.{Rows}
use Rattle.graphs.specs.declared.graph.Rows.TheVariants.{Ternary, Range}
use Rattle.graphs.specs.declared.graph.Node.{Node}
use Rattle.graphs.specs.declared.graph.Graph.{Graph}

-- rows of one sort, in order
pub data RowsView : Type 0 where
  ternary_rows : List TernaryRow → RowsView
  range_rows : List RangeRow → RowsView

-- a header: its kind, its length rule, its lookup places and its rows
pub record NodeView : Type 0 where
  pub kind : Kind
  pub len : Length
  pub places : List ℕ
  pub rows : RowsView

-- the rows that a count names
abbrev pub rows_view : ℕ → Rows → RowsView
rows_view n (Ternary rs) = ternary_rows (take n rs)
rows_view n (Range rs) = range_rows (take n rs)

abbrev pub node_view : Node → NodeView
node_view n = record { kind = n.kind; len = n.length; places = take n.place_count n.places; rows = rows_view n.row_count n.rows }

-- what a list of nodes is said to have past its end; no graph has it
abbrev pub no_node : Node
no_node = record { kind = Ethernet; length = Fixed 0; place_count = 0; places = []; row_count = 0; rows = Ternary [] }

-- the blank node, which stands past the nodes of a graph: of a fixed length 0, it looks up nothing and has no rows. Behind its counts
-- stand places of zero and rows of zeros that are done
abbrev pub blank_node : Node
blank_node =
    record {
      kind = Ethernet;
      length = Fixed 0;
      place_count = 0;
      places = replicate 4 0;
      row_count = 0;
      rows = Ternary (replicate 16 (record { value = 0; mask = 0; target = to.Done }));
    }

-- the nodes that the graph's count names
abbrev pub graph_view : Graph → List NodeView
graph_view g = map node_view (take g.count g.nodes)

abbrev pub row_count : RowsView → ℕ
row_count (ternary_rows rs) = length rs
row_count (range_rows rs) = length rs

-- a node's counts name as many places and rows as they say
abbrev pub NodeCounts : Node → Type 0
NodeCounts n = (n.place_count ≡ length (node_view n).places) × (n.row_count ≡ row_count (node_view n).rows)

-- and so do all counts of a graph
pub record Counts (g : Graph) : Type 0 where
  pub nodes : g.count ≡ length (take g.count g.nodes)
  pub each : (k : ℕ) → k < length (take g.count g.nodes) → NodeCounts (slice_index_or (take g.count g.nodes) k no_node)

-- node n of a graph; one without rows where there is none
abbrev pub node_at : List NodeView → ℕ → NodeView
node_at vs n = slice_index_or vs n (record { kind = Ethernet; len = Fixed 0; places = []; rows = ternary_rows [] })

-- the same node with what stands behind its counts; the blank node where there is none
abbrev pub node_itself : Graph → ℕ → Node
node_itself g n = slice_index_or (take g.count g.nodes) n blank_node

-- the target of row k
abbrev pub target_of : RowsView → ℕ → Target
target_of (ternary_rows rs) k = (slice_index_or rs k (record { value = 0; mask = 0; target = to.Node 0 })).target
target_of (range_rows rs) k = (slice_index_or rs k (record { low = 0; high = 0; target = to.Node 0 })).target
