use Rattle.std.proofs.Common.{◌≡◌, ◌-◌, length}
use Rattle.refusals.specs.Searching.{first_told}
use Rattle.graphs.specs.View.{graph_view}
use Rattle.graphs.specs.Checking.{node_fault, first_node}
use Rattle.graphs.proofs.check.check_each.Given as goal

-- what the nodes from n on tell is what all of them tell
abbrev pub invariant-loop-n : goal.invariant-loop-n
invariant-loop-n g l =
    first_told (node_fault (g.C.NodeCheck.told l.check) (graph_view l.graph)) l.n (length (graph_view l.graph) - l.n)
    ≡ first_node (g.C.NodeCheck.told l.check) (graph_view l.graph)
