-- The number, layer and place of each fault of a walk.
use Rattle.std.specs.Prelude.{ℕ}
use Rattle.refusals.specs.declared.refusal.Refusal.{Refusal}
use Rattle.refusals.specs.declared.refusal.Layer.TheVariants as layer
use Rattle.graphs.specs.Faults.{of_graph}
use Rattle.walker.specs.declared.fault.WalkFault.{WalkFault}
use Rattle.walker.specs.declared.fault.WalkFault.TheVariants.{Graph, LongPacket, FewMarks}

-- a refusal of the layer 'read', which names no place
abbrev pub of_room : ℕ → Refusal
of_room number = record { number = number; layer = layer.Read; first = 0; second = 0 }

-- a fault of the graph as it stands, then 10 and 11
abbrev pub of_walk : WalkFault → Refusal
of_walk (Graph e) = of_graph e
of_walk LongPacket = of_room 10
of_walk FewMarks = of_room 11
