use Rattle.std.proofs.Common.{◌≡◌, map, length}
use Rattle.graphs.specs.View.{graph_view}
use Rattle.walks.specs.Rows.{entries}
use Rattle.compiler.specs.Pieces.{left_in}
use Rattle.compiler.specs.Sinks.{sink_of, sunk, line_as}
use Rattle.compiler.proofs.Sinking.{Going}
use Rattle.compiler.proofs.Joining.{rows_from}
use Rattle.compiler.proofs.sink.Sink.+emit.Given as goal

abbrev pub decreases-emit : goal.decreases-emit
decreases-emit g l = length l.path.now.behind.now

-- the rows of the pieces that are left give the whole
abbrev pub invariant-loop-piece : goal.invariant-loop-piece
invariant-loop-piece g l =
    let m = g.S.Store.meaning in record {
      store : l.self.store.ghost_name ≡ l.initial.self.store.ghost_name;
      actions : l.self.actions.ghost_name ≡ l.initial.self.actions.ghost_name;
      going :
          Going (sink_of m l.self) (rows_from (graph_view l.path.graph.now) l.path.behind.now l.start l.width (left_in l.piece-iterator))
          (sunk (sink_of m l.initial.self) (map (line_as l.start) (entries (graph_view l.path.graph.now) l.path.node l.path.behind.now)));
    }
