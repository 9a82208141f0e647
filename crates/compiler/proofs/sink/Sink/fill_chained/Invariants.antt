use Rattle.std.proofs.Common.{◌≡◌, ◌-◌, map}
use Rattle.std.specs.List.{range_with_len, flat_map}
use Rattle.graphs.specs.View.{graph_view}
use Rattle.plans.specs.Chains.{chain_of}
use Rattle.walks.specs.Rows.{chain_rows}
use Rattle.compiler.specs.Sinks.{sink_of, sunk, line_of}
use Rattle.compiler.specs.Filled.{rows_chained}
use Rattle.compiler.proofs.Sinking.{Going}
use Rattle.compiler.proofs.sink.Sink.fill_chained.Given as goal

-- the rows of the nodes that are left give the whole
abbrev pub invariant-loop-node : goal.invariant-loop-node
invariant-loop-node g l =
    let m = g.S.Store.meaning in record {
      store : l.self.store.ghost_name ≡ l.initial.self.store.ghost_name;
      actions : l.self.actions.ghost_name ≡ l.initial.self.actions.ghost_name;
      going :
          Going (sink_of m l.self) (map line_of (flat_map (chain_rows (graph_view l.checked.graph) (chain_of l.checked.chains)) (range_with_len l.node (l.node-end - l.node))))
          (sunk (sink_of m l.initial.self) (map line_of (rows_chained l.checked)));
    }
