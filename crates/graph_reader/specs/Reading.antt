-- What reading a file answers.
use Rattle.std.specs.Option.{option_or, option_map}
use Rattle.std.specs.Prelude.{ℕ, List, Ok, Err, Option, Result}
use Rattle.refusals.specs.Searching.{unless_fault}
use Rattle.headers.specs.declared.kinds.Kind.{Kind}
use Rattle.graphs.specs.declared.graph.Graph.{Graph as GraphT}
use Rattle.graphs.specs.View.{NodeView, graph_view}
use Rattle.graphs.specs.Checking.{graph_fault}
use Rattle.graph_reader.specs.declared.fault.ReadFault.{ReadFault}
use Rattle.graph_reader.specs.declared.fault.ReadFault.TheVariants.{File, Graph}
use Rattle.graph_reader.specs.Files.{file_fault}
use Rattle.graph_reader.specs.Decoding.{nodes_in}

-- an answer, with the graph as what its counts name
abbrev pub seen : Result GraphT ReadFault → Result (List NodeView) ReadFault
seen (Ok g) = Ok (graph_view g)
seen (Err e) = Err e

module _ (minimum : Kind → ℕ) where
  -- the first fault of a file, by number
  abbrev pub read_fault : List ℕ → Option ReadFault
  read_fault f = option_or (option_map File (file_fault f)) (option_map Graph (graph_fault minimum (nodes_in f)))

  -- the fault, or else the graph that the file says
  abbrev pub reading : List ℕ → Result (List NodeView) ReadFault
  reading f = unless_fault (read_fault f) (nodes_in f)
