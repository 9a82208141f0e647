-- The rows of a graph and a plan that were checked.
use Rattle.std.specs.Prelude.{List, length}
use Rattle.std.specs.List.{range_with_len, flat_map}
use Rattle.graphs.specs.View.{graph_view}
use Rattle.plans.specs.Chains.{chain_of}
use Rattle.walks.specs.Rows.{StoreRow, node_rows, chain_rows, store_rows}
use Rattle.compiler.specs.declared.checked.Checked.{Checked}

-- all rows in order: those of each node by itself, then those of each node with its chain
abbrev pub all_rows : Checked → List StoreRow
all_rows c = store_rows (graph_view c.graph) (chain_of c.chains)

abbrev pub rows_alone : Checked → List StoreRow
rows_alone c = flat_map (node_rows (graph_view c.graph)) (range_with_len 0 (length (graph_view c.graph)))

abbrev pub rows_chained : Checked → List StoreRow
rows_chained c = flat_map (chain_rows (graph_view c.graph) (chain_of c.chains)) (range_with_len 0 (length (graph_view c.graph)))
