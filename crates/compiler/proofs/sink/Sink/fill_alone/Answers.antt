use Rattle.std.proofs.Common.{◌∙◌}
use Rattle.graphs.specs.View.{graph_view}
use Rattle.walks.specs.Rows.{node_rows}
use Rattle.compiler.specs.Sinks.{sink_of, line_of}
use Rattle.compiler.proofs.Sinking.{going_same, going_on, going_rooms}
use Rattle.compiler.proofs.Filling.{rows_more, path_rows}
use Rattle.compiler.proofs.sink.Sink.fill_alone.Goals as goal

pub fill_state-requires-clause-room : goal.fill_state-requires-clause-room
fill_state-requires-clause-room g c =
    let graph = c.args.checked.now.graph in
    let n = c.loop-node.node in
    let path = c.new.ensures in
    let s = sink_of g.S.Store.meaning c.loop-node.self in
    let rows = path_rows n c.new.result graph path.graph path.node path.behind in
    going_rooms s line_of _ _ _ (going_same s _ _ _ (rows_more (node_rows (graph_view graph)) n c.size-node-end.result rows c.loop-node-test.true) c.loop-node.invariant.going)

pub loop-node-preserved : goal.loop-node-preserved
loop-node-preserved g c =
    let graph = c.args.checked.now.graph in
    let n = c.loop-node.node in
    let path = c.new.ensures in
    let s = sink_of g.S.Store.meaning c.loop-node.self in
    let i = c.loop-node.invariant in
    let e = c.fill_state.ensures.filled in
    let rows = path_rows n c.new.result graph path.graph path.node path.behind in
    record {
      store = e.store ∙ i.store;
      actions = e.actions ∙ i.actions;
      going = going_on s _ _ _ _ e.after (going_same s _ _ _ (rows_more (node_rows (graph_view graph)) n c.size-node-end.result rows c.loop-node-test.true) i.going);
    }
