use Rattle.std.proofs.Common.{◌≡◌, ℕ, ◌-◌, ◌<◌, length}
use Rattle.graphs.specs.View.{node_view}
use Rattle.graph_reader.specs.Encoding.{record_of}
use Rattle.refusals.specs.Searching.{first_told}
use Rattle.graph_writer.specs.Writing.{record_for, node_of, record_fault_at, records_fault}
use Rattle.graph_writer.proofs.write.check_records.Given as goal

abbrev pub invariant-loop-n : goal.invariant-loop-n
invariant-loop-n l =
    (first_told (record_fault_at l.nodes) l.n (length l.nodes - l.n) ≡ records_fault l.nodes)
    × ((k : ℕ) → k < l.n → record_for (node_of l.nodes k) ≡ record_of (node_view (node_of l.nodes k)))
