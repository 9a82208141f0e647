-- The number, layer and place of each fault of a graph file.
use Rattle.refusals.specs.declared.refusal.Refusal.{Refusal}
use Rattle.refusals.specs.declared.refusal.Layer.TheVariants as layer
use Rattle.graphs.specs.Faults.{of_graph}
use Rattle.graph_reader.specs.declared.fault.FileFault.{FileFault}
use Rattle.graph_reader.specs.declared.fault.FileFault.TheVariants.{Shape, Pair, Byte}
use Rattle.graph_reader.specs.declared.fault.ReadFault.{ReadFault}
use Rattle.graph_reader.specs.declared.fault.ReadFault.TheVariants.{File, Graph}

-- 1 at no place, 2 at a pair, 3 at a node and a byte of its record
abbrev pub of_file : FileFault → Refusal
of_file Shape = record { number = 1; layer = layer.File; first = 0; second = 0 }
of_file (Pair i) = record { number = 2; layer = layer.File; first = i; second = 0 }
of_file (Byte n b) = record { number = 3; layer = layer.File; first = n; second = b }

-- a fault passes upward whole
abbrev pub of_read : ReadFault → Refusal
of_read (File e) = of_file e
of_read (Graph e) = of_graph e
