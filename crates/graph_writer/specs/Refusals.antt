-- What a graph that is to be written is refused for, in words, and what is promised of a written one.
use Rattle.std.specs.Prelude.{◌≡◌, ℕ, ◌<◌, ◌≤◌, ◌⊎◌, List, length, take, Ok, Option, Result}
use Rattle.headers.specs.declared.kinds.Kind.{Kind}
use Rattle.graphs.specs.declared.graph.Graph.{Graph}
use Rattle.refusals.specs.Searching.{unless_fault}
use Rattle.graphs.specs.View.{NodeView, node_view, graph_view, row_count}
use Rattle.graphs.specs.Refusals.{GraphApplies}
use Rattle.graph_reader.specs.declared.fault.FileFault.{FileFault}
use Rattle.graph_reader.specs.declared.fault.FileFault.TheVariants.{Shape, Pair, Byte}
use Rattle.graph_reader.specs.Encoding.{encode}
use Rattle.graph_reader.specs.Refusals.{OutOfRange}
use Rattle.graph_reader.specs.Reading.{reading}
use Rattle.graph_writer.specs.declared.fault.WriteFault.{WriteFault}
use Rattle.graph_writer.specs.declared.fault.WriteFault.TheVariants.{File, Graph as InGraph, Area}
use Rattle.graph_writer.specs.Writing.{record_for, node_of}
use Rattle.graph_writer.specs.Parts.{file_for}
use Rattle.graph_writer.specs.Copying.{copy_fault}

-- as the file would be: the node count is not 1 to 32, or byte b of the record of node n is out of its range; pairs are made right
abbrev pub RecordApplies : Graph → FileFault → Type 0
RecordApplies g Shape = (g.count ≡ 0) ⊎ (32 < g.count)
RecordApplies g (Pair i) = ⊥
RecordApplies g (Byte n b) =
    (n < length (take g.count g.nodes)) × (b < length (record_for (node_of (take g.count g.nodes) n)))
    × OutOfRange (record_for (node_of (take g.count g.nodes) n)) b

-- and then: the area is shorter than the longest file
abbrev pub WriteApplies : (Kind → ℕ) → Graph → ℕ → WriteFault → Type 0
WriteApplies minimum g room (File e) = RecordApplies g e
WriteApplies minimum g room (InGraph e) = GraphApplies minimum (graph_view g) e
WriteApplies minimum g room Area = room < 5762

-- the encoding of the nodes is read as the same nodes
abbrev pub ReadsBack : (Kind → ℕ) → List NodeView → Type 0
ReadsBack minimum nodes = reading minimum (encode nodes) ≡ Ok nodes

-- the graph's own file, right or not: each count as it stands
abbrev pub file_of : Graph → List ℕ
file_of g = file_for (take g.count g.nodes)

-- The graph can be laid out as a file, whatever else is wrong with it: it has 1 to 32 nodes, and a node's row count is at most 16 and
-- names as many rows as it says. (Each count of at most 16 does: a node has room for 16 rows.)
pub record IsLaidOut (g : Graph) : Type 0 where
  pub some : 1 ≤ g.count
  pub few : g.count ≤ 32
  pub few_rows : (n : ℕ) → n < g.count → (node_of (take g.count g.nodes) n).row_count ≤ 16
  pub full_rows : (n : ℕ) → n < g.count
      → row_count (node_view (node_of (take g.count g.nodes) n)).rows ≡ (node_of (take g.count g.nodes) n).row_count

-- then the first fault that is told of it is that of reading its own file, or else 11 for want of room
abbrev pub FaultAsRead : (Kind → ℕ) → Graph → ℕ → Option WriteFault → Type 0
FaultAsRead minimum g room told = IsLaidOut g → told ≡ copy_fault minimum (file_of g) room

-- and the answer is that fault, or else the length of that file
abbrev pub AnswersAsRead : (Kind → ℕ) → Graph → ℕ → Result ℕ WriteFault → Type 0
AnswersAsRead minimum g room answer =
    IsLaidOut g → answer ≡ unless_fault (copy_fault minimum (file_of g) room) (length (file_of g))
