-- The number, layer and place of each fault of a graph.
use Rattle.refusals.specs.declared.refusal.Refusal.{Refusal}
use Rattle.refusals.specs.declared.refusal.Layer.TheVariants as layer
use Rattle.graphs.specs.declared.fault.GraphFault.{GraphFault}
use Rattle.graphs.specs.declared.fault.GraphFault.TheVariants.{Target, Covered, Short}

-- 4, 5 and 6, at the node and its row
abbrev pub of_graph : GraphFault → Refusal
of_graph (Target n k) = record { number = 4; layer = layer.Graph; first = n; second = k }
of_graph (Covered n k) = record { number = 5; layer = layer.Graph; first = n; second = k }
of_graph (Short n) = record { number = 6; layer = layer.Graph; first = n; second = 0 }
