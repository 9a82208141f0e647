-- The number, layer and place of each fault of a load.
use Rattle.refusals.specs.declared.refusal.Refusal.{Refusal}
use Rattle.refusals.specs.declared.refusal.Layer.TheVariants as layer
use Rattle.graphs.specs.Faults.{of_graph}
use Rattle.graph_reader.specs.Faults.{of_file}
use Rattle.graph_reader.specs.declared.fault.ReadFault.{ReadFault}
use Rattle.graph_reader.specs.declared.fault.ReadFault.TheVariants as read
use Rattle.stores.specs.Faults.{of_store}
use Rattle.plans.specs.Faults.{of_plan}
use Rattle.compiler.specs.declared.fault.LoadFault.{LoadFault}
use Rattle.compiler.specs.declared.fault.LoadFault.TheVariants.{File, Graph, Plan, TooMany, Store}

-- a fault passes upward whole; too many rows are 9, at their number
abbrev pub of_load : LoadFault → Refusal
of_load (File e) = of_file e
of_load (Graph e) = of_graph e
of_load (Plan e) = of_plan e
of_load (TooMany rows) = record { number = 9; layer = layer.Store; first = rows; second = 0 }
of_load (Store e) = of_store e

-- a fault of reading, passed on whole
abbrev pub from_read : ReadFault → LoadFault
from_read (read.File e) = File e
from_read (read.Graph e) = Graph e
