use Rattle.headers.specs.Table.{minimum_in}
use Rattle.graphs.specs.View.{node_view, graph_view}
use Rattle.walker.proofs.Stepping.{node_refused, node_decides}
use Rattle.walker.proofs.step.Course.step_from.Goals as goal

pub returns-in-Err : goal.returns-in-Err
returns-in-Err c =
    node_refused (minimum_in c.args.self.now.table.now) (graph_view c.args.self.now.graph.now) c.args.self.now.packet.now c.args.node c.args.at
    (node_view c.args.here.now) c.requires.here c.lookup-places.result.now c.lookup-places.ensures.is c.minimum.result c.minimum.ensures
    c.in-Err.ending c.in-Err.ensures.refused

pub returns-in-Ok : goal.returns-in-Ok
returns-in-Ok c =
    node_decides (minimum_in c.args.self.now.table.now) (graph_view c.args.self.now.graph.now) c.args.self.now.packet.now c.args.node c.args.at
    (node_view c.args.here.now) c.requires.here c.lookup-places.result.now c.lookup-places.ensures.is c.minimum.result c.minimum.ensures
    c.in-Ok.size c.in-Ok.ensures.size c.in-Ok.ensures.refused c.requires.packet c.mark_of-mark.result c.mark_of-mark.ensures c.key.result c.key.ensures c.decide.result c.decide.ensures
    c.follow.result c.follow.ensures
