-- What writing a graph tells, and what the area holds after.
use Rattle.std.specs.Option.{option_or, option_map}
use Rattle.std.specs.Prelude.{◌≡◌, ℕ, ◌<◌, ◌≤◌, ◌&&◌, List, ◌++◌, length, take, drop, Some, None, Option, nat_le, slice_index_or}
use Rattle.refusals.specs.Searching.{first_told, unless}
use Rattle.headers.specs.declared.kinds.Kind.{Kind}
use Rattle.graphs.specs.declared.graph.Graph.{Graph}
use Rattle.graphs.specs.declared.graph.Node.{Node}
use Rattle.graphs.specs.View.{node_view, no_node, graph_view}
use Rattle.graphs.specs.Checking.{graph_fault}
use Rattle.graph_reader.specs.declared.fault.FileFault.{FileFault}
use Rattle.graph_reader.specs.declared.fault.FileFault.TheVariants.{Shape, Byte}
use Rattle.graph_reader.specs.Encoding.{record_with, record_of}
use Rattle.graph_reader.specs.Files.{first_wrong}
use Rattle.graph_writer.specs.declared.fault.WriteFault.{WriteFault}
use Rattle.graph_writer.specs.declared.fault.WriteFault.TheVariants.{File, Graph as InGraph, Area}

-- a node's record, its counts as they stand
abbrev pub record_for : Node → List ℕ
record_for n = record_with n.place_count n.row_count (node_view n)

-- number 3 of a node that is to be written: the first wrong byte of its record
abbrev pub node_byte_fault : ℕ → Node → Option FileFault
node_byte_fault n node = option_map (Byte n) (first_wrong (record_for node))

-- the node at n
abbrev pub node_of : List Node → ℕ → Node
node_of ns n = slice_index_or ns n no_node

-- number 3 of each node, and of the first that has one
abbrev pub record_fault_at : List Node → ℕ → Option FileFault
record_fault_at ns n = node_byte_fault n (node_of ns n)

abbrev pub records_fault : List Node → Option FileFault
records_fault ns = first_told (record_fault_at ns) 0 (length ns)

-- number 1: there are not 1 to 32 nodes
abbrev pub count_fault : Graph → Option FileFault
count_fault g = unless (nat_le 1 g.count && nat_le g.count 32) Shape

-- the first fault of a graph that is to be written to so much room, by number: 1, 3, 4 to 6, then 11
abbrev pub write_fault : (Kind → ℕ) → Graph → ℕ → Option WriteFault
write_fault minimum g room =
    option_or (option_map File (count_fault g))
    (option_or (option_map File (records_fault (take g.count g.nodes)))
    (option_or (option_map InGraph (graph_fault minimum (graph_view g))) (unless (nat_le 5762 room) Area)))

-- the area after: as it was, or the file with the rest as it was
abbrev pub area_after : Option WriteFault → List ℕ → List ℕ → List ℕ
area_after None file area = file ++ drop (length file) area
area_after (Some e) file area = area

-- each node's record is the one of what its counts name
abbrev pub Standing : List Node → Type 0
Standing ns = (k : ℕ) → k < length ns → record_for (node_of ns k) ≡ record_of (node_view (node_of ns k))

-- what is known once nothing is refused: each record stands, the count names as many nodes as it says, and there is room
pub record Writable (g : Graph) (room : ℕ) : Type 0 where
  pub stand : Standing (take g.count g.nodes)
  pub full : length (take g.count g.nodes) ≡ g.count
  pub few : g.count ≤ 32
  pub roomy : 5762 ≤ room
