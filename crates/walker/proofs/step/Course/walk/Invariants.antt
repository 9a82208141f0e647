use Rattle.std.proofs.Common.{◌-◌, length}
use Rattle.headers.specs.Table.{minimum_in}
use Rattle.graphs.specs.View.{graph_view}
use Rattle.walker.proofs.Marking.{Walking}
use Rattle.walker.proofs.step.Course.walk.Given as goal

abbrev pub invariant-loop-outcome : goal.invariant-loop-outcome
invariant-loop-outcome l = Walking (minimum_in l.self.table.now) (graph_view l.self.graph.now) l.self.packet.now l.initial.marks l.marks l.node l.at l.count

-- each next node is a later one
abbrev pub decreases-loop-outcome : goal.decreases-loop-outcome
decreases-loop-outcome l = length (graph_view l.self.graph.now) - l.node
