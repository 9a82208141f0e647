use Rattle.std.proofs.Common.{◌≡◌, ◌+◌, ◌*◌, ◌≤◌, map, take}
use Rattle.octets.specs.Writing.{written}
use Rattle.graphs.specs.View.{node_view}
use Rattle.graph_reader.specs.Encoding.{pairs_from}
use Rattle.graph_reader.proofs.Places.{sizes}
use Rattle.graph_writer.proofs.put.put_pairs.Given as goal

abbrev pub invariant-loop-n : goal.invariant-loop-n
invariant-loop-n l =
    (l.area ≡ written l.initial.area 0 (pairs_from l.from (map node_view (take l.n l.nodes))))
    × (l.next ≡ l.from + sizes (map node_view (take l.n l.nodes))) × (l.next ≤ l.from + 176 * l.n)
