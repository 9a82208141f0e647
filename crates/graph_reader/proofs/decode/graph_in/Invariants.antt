use Rattle.std.proofs.Common.{◌≡◌, ℕ, ◌<◌, map, length, get_or, take}
use Rattle.std.specs.List.{range_with_len}
use Rattle.graphs.specs.View.{node_view, no_node, NodeCounts}
use Rattle.graph_reader.specs.Decoding.{node_in}
use Rattle.graph_reader.specs.Records.{at}
use Rattle.graph_reader.specs.Files.{record_at}
use Rattle.graph_reader.proofs.decode.graph_in.Given as goal

abbrev pub invariant-loop-i : goal.invariant-loop-i
invariant-loop-i l =
    (length l.node-items ≡ at l.file 0)
    × (map node_view (take l.i l.node-items) ≡ map (λ i. node_in (record_at l.file i)) (range_with_len 0 l.i))
    × ((k : ℕ) → k < l.i → NodeCounts (get_or l.node-items k no_node))
