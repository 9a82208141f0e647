use Rattle.std.proofs.Common.{◌≡◌, ◌*◌, length, take}
use Rattle.std.specs.List.{flat_map}
use Rattle.octets.specs.Writing.{written}
use Rattle.graph_writer.proofs.put.put_rows.Given as goal

abbrev pub invariant-loop-k : goal.invariant-loop-k
invariant-loop-k g l =
    (l.area ≡ written l.initial.area 0 (flat_map g.R.RowBytes.said (take l.k l.rows)))
    × (length (flat_map g.R.RowBytes.said (take l.k l.rows)) ≡ 10 * l.k)
