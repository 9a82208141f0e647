-- What is written is read as the same graph.
use Rattle.std.specs.Option.{option_map}
use Rattle.std.proofs.Common.{◌≡◌, ℕ, ◌<◌, ◌≤◌, leb, List, length, take, None, sym, refl, ap, ◌∙◌, arith}
use Rattle.std.proofs.lemmas.List.{length-map}
use Rattle.std.proofs.lemmas.Bool.{and_parts, leb-true}
use Rattle.refusals.specs.Searching.{unless}
use Rattle.refusals.proofs.Searching.{option_or_none, option_map_none, unless_none, nowhere}
use Rattle.headers.specs.declared.kinds.Kind.{Kind}
use Rattle.graphs.specs.declared.graph.Graph.{Graph}
use Rattle.graphs.specs.declared.graph.Node.{Node}
use Rattle.graphs.specs.View.{no_node, NodeView, node_view, graph_view, node_at}
use Rattle.graphs.specs.Checking.{graph_fault}
use Rattle.graphs.proofs.Noding.{node_at_lem}
use Rattle.graph_reader.specs.declared.fault.FileFault.TheVariants.{Shape, Byte}
use Rattle.graph_reader.specs.Encoding.{record_of}
use Rattle.graph_reader.specs.Files.{first_wrong}
use Rattle.graph_reader.proofs.Reread.{reads_back}
use Rattle.graph_writer.specs.declared.fault.WriteFault.TheVariants.{File, Graph as InGraph, Area}
use Rattle.graph_writer.specs.Writing.{record_for, node_of, record_fault_at, count_fault, records_fault, write_fault, Standing, Writable}
use Rattle.graph_writer.specs.Refusals.{ReadsBack}

-- records that stand, with nothing to tell of them
module _ (g : Graph) (records : records_fault (take g.count g.nodes) ≡ None) (stand : Standing (take g.count g.nodes)) where
  pub right_record : (i : ℕ) → i < length (graph_view g) → first_wrong (record_of (node_at (graph_view g) i)) ≡ None
  right_record i h =
      let nodes : List Node = take g.count g.nodes in
      let l : i < length nodes = omega (arith, length-map nodes node_view) in
      ap (λ v. first_wrong (record_of v)) (node_at_lem nodes refl i no_node l) ∙ ap first_wrong (sym (stand i l))
      ∙ option_map_none (Byte i) (first_wrong (record_for (node_of nodes i))) (nowhere (record_fault_at nodes) (length nodes) 0 records i (omega arith) (omega arith))

module _ (minimum : Kind → ℕ) (g : Graph) (room : ℕ) (clear : write_fault minimum g room ≡ None) (w : Writable g room) where
  abbrev nodes : List Node
  nodes = take g.count g.nodes

  abbrev views : List NodeView
  views = graph_view g

  records : records_fault nodes ≡ None
  records = option_map_none File (records_fault nodes) (option_or_none (option_map File (records_fault nodes)) _ (option_or_none (option_map File (count_fault g)) _ clear).1).0

  sound_graph : graph_fault minimum views ≡ None
  sound_graph =
      option_map_none InGraph (graph_fault minimum views)
      (option_or_none (option_map InGraph (graph_fault minimum views)) (unless (leb 5762 room) Area) (option_or_none (option_map File (records_fault nodes)) _ (option_or_none (option_map File (count_fault g)) _ clear).1).1).0

  some : 1 ≤ g.count
  some =
      leb-true 1 g.count (and_parts (leb 1 g.count) (leb g.count 32)
      (unless_none _ Shape (option_map_none File (count_fault g) (option_or_none (option_map File (count_fault g)) _ clear).0))).0

  many : length views ≡ g.count
  many = length-map nodes node_view ∙ w.full

  pub written_reads_back : ReadsBack minimum views
  written_reads_back = reads_back views (omega (arith, many, some)) (omega (arith, many, w.few)) (right_record g records w.stand) minimum sound_graph
