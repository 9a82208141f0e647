-- What a walk is refused for.
use Rattle.std.specs.Option.{option_or, option_map}
use Rattle.std.specs.Prelude.{ℕ, ◌<◌, List, Option, nat_le}
use Rattle.refusals.specs.Searching.{unless}
use Rattle.headers.specs.declared.kinds.Kind.{Kind}
use Rattle.graphs.specs.declared.fault.GraphFault.{GraphFault}
use Rattle.graphs.specs.View.{NodeView}
use Rattle.graphs.specs.Refusals.{GraphApplies}
use Rattle.graphs.specs.Checking.{graph_fault}
use Rattle.walker.specs.declared.fault.WalkFault.{WalkFault}
use Rattle.walker.specs.declared.fault.WalkFault.TheVariants.{Graph, LongPacket, FewMarks}

-- the most bytes of a packet that is walked, and the most marks that a walk writes
abbrev pub most_bytes : ℕ
most_bytes = 9600

abbrev pub most_marks : ℕ
most_marks = 32

module _ (minimum : Kind → ℕ) (g : List NodeView) where
  -- in words: a fault of the graph; a packet of more than 9,600 bytes; room for fewer than 32 marks
  abbrev pub WalkApplies : (size room : ℕ) → WalkFault → Type 0
  WalkApplies size room (Graph e) = GraphApplies minimum g e
  WalkApplies size room LongPacket = most_bytes < size
  WalkApplies size room FewMarks = room < most_marks

  -- the first of them, as a test
  abbrev pub walk_fault : (size room : ℕ) → Option WalkFault
  walk_fault size room = option_or (option_map Graph (graph_fault minimum g)) (option_or (unless (nat_le size most_bytes) LongPacket) (unless (nat_le most_marks room) FewMarks))

  -- no fault of a graph applies
  abbrev pub NoFault : Type 0
  NoFault = (e : GraphFault) → GraphApplies minimum g e → ⊥
