use Rattle.std.proofs.Common.{arith}
use Rattle.headers.specs.Table.{minimum_in}
use Rattle.graphs.specs.View.{graph_view}
use Rattle.walker.proofs.Marking.{walk_stops, walk_ends, node_after, walk_goes_on}
use Rattle.walker.proofs.step.Course.walk.Goals as goal

pub returns-in-Stop : goal.returns-in-Stop
returns-in-Stop c =
    walk_stops (minimum_in c.args.self.now.table.now) (graph_view c.args.self.now.graph.now) c.args.self.now.packet.now c.args.marks.now
    c.loop-outcome.marks c.loop-outcome.node c.loop-outcome.at c.loop-outcome.count c.loop-outcome.invariant c.in-Stop.outcome c.in-Stop.ensures.steps

pub returns-in-Last : goal.returns-in-Last
returns-in-Last c =
    walk_ends (minimum_in c.args.self.now.table.now) (graph_view c.args.self.now.graph.now) c.args.self.now.packet.now c.args.marks.now
    c.loop-outcome.marks c.loop-outcome.node c.loop-outcome.at c.loop-outcome.count c.loop-outcome.invariant c.in-Last.mark c.requires.room c.in-Last.outcome c.in-Last.ensures.steps

pub loop-outcome-smaller : goal.loop-outcome-smaller
loop-outcome-smaller c =
    let later =
    node_after (minimum_in c.args.self.now.table.now) (graph_view c.args.self.now.graph.now) c.args.self.now.packet.now c.args.marks.now
    c.loop-outcome.marks c.loop-outcome.node c.loop-outcome.at c.loop-outcome.count c.loop-outcome.invariant c.in-On.mark c.requires.room c.requires.sound c.in-On.next c.in-On.past c.in-On.ensures.steps in
    omega (arith, later.0, later.1)

pub loop-outcome-preserved : goal.loop-outcome-preserved
loop-outcome-preserved c =
    walk_goes_on (minimum_in c.args.self.now.table.now) (graph_view c.args.self.now.graph.now) c.args.self.now.packet.now c.args.marks.now
    c.loop-outcome.marks c.loop-outcome.node c.loop-outcome.at c.loop-outcome.count c.loop-outcome.invariant c.in-On.mark c.requires.room c.requires.sound c.in-On.next c.in-On.past c.in-On.ensures.steps
    c.in-On.ensures.few
