use Rattle.std.proofs.Common.{◌≡◌, ◌*◌, ◌≤◌, length, take}
use Rattle.std.specs.List.{flat_map}
use Rattle.octets.specs.Writing.{written}
use Rattle.graph_writer.specs.Writing.{record_for}
use Rattle.graph_writer.proofs.put.put_records.Given as goal

abbrev pub invariant-loop-node : goal.invariant-loop-node
invariant-loop-node l =
    (l.area ≡ written l.initial.area 0 (flat_map record_for (take l.node-index l.nodes)))
    × (l.size ≡ length (flat_map record_for (take l.node-index l.nodes))) × (l.size ≤ 176 * l.node-index)
