use Rattle.std.proofs.Common.{◌≡◌, ◌-◌}
use Rattle.graph_reader.specs.Records.{at}
use Rattle.refusals.specs.Searching.{first_told}
use Rattle.graph_reader.specs.Files.{record_fault, byte_fault}
use Rattle.graph_reader.proofs.pairs.check_bytes.Given as goal

abbrev pub invariant-loop-node : goal.invariant-loop-node
invariant-loop-node l = first_told (record_fault l.file) l.node (at l.file 0 - l.node) ≡ byte_fault l.file
