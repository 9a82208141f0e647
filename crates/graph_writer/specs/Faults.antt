-- The number, layer and place of each fault of writing.
use Rattle.refusals.specs.declared.refusal.Refusal.{Refusal}
use Rattle.refusals.specs.declared.refusal.Layer.TheVariants as layer
use Rattle.graphs.specs.Faults.{of_graph}
use Rattle.graph_reader.specs.Faults.{of_file}
use Rattle.graph_reader.specs.declared.fault.ReadFault.{ReadFault}
use Rattle.graph_reader.specs.declared.fault.ReadFault.TheVariants as read
use Rattle.graph_writer.specs.declared.fault.WriteFault.{WriteFault}
use Rattle.graph_writer.specs.declared.fault.WriteFault.TheVariants.{File, Graph, Area}

-- the numbers that the file would be refused by, then 11
abbrev pub of_write : WriteFault → Refusal
of_write (File e) = of_file e
of_write (Graph e) = of_graph e
of_write Area = record { number = 11; layer = layer.Writing; first = 0; second = 0 }

-- a fault of reading, passed on whole
abbrev pub from_read : ReadFault → WriteFault
from_read (read.File e) = File e
from_read (read.Graph e) = Graph e
