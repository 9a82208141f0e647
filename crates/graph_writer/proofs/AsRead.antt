-- What is told of a graph is what reading tells of its own file.
use Rattle.std.specs.Option.{option_or, option_map}
use Rattle.std.proofs.Common.{◌≡◌, ℕ, ◌+◌, ◌*◌, ◌<◌, ◌≤◌, leb, List, ◌∷◌, ◌++◌, length, take, Some, None, Option, sym, refl, ap, ◌∙◌, arith}
use Rattle.std.specs.List.{flat_map}
use Rattle.std.proofs.lemmas.List.{length-map}
use Rattle.std.proofs.lemmas.Bool.{and_from, le-leb}
use Rattle.refusals.specs.Searching.{unless}
use Rattle.headers.specs.declared.kinds.Kind.{Kind}
use Rattle.graphs.specs.declared.graph.Graph.{Graph}
use Rattle.graphs.specs.declared.graph.Node.{Node}
use Rattle.graphs.specs.declared.fault.GraphFault.{GraphFault}
use Rattle.graphs.specs.View.{NodeView, no_node, node_view, graph_view, row_count}
use Rattle.graphs.specs.Checking.{graph_fault}
use Rattle.graph_reader.specs.declared.fault.FileFault.{FileFault}
use Rattle.graph_reader.specs.declared.fault.FileFault.TheVariants.{Shape}
use Rattle.graph_reader.specs.declared.fault.ReadFault.TheVariants as read
use Rattle.graph_reader.specs.Encoding.{record_length, pairs_from}
use Rattle.graph_reader.specs.Records.{at}
use Rattle.graph_reader.specs.Files.{pair_fault, byte_fault, file_fault}
use Rattle.graph_reader.specs.Decoding.{nodes_in}
use Rattle.graph_reader.proofs.Places.{record_long, file_with}
use Rattle.graph_reader.proofs.Reread.{row_count_lem, shape_clear, pairs_clear, bytes_told, nodes_back}
use Rattle.graph_writer.specs.declared.fault.WriteFault.{WriteFault}
use Rattle.graph_writer.specs.declared.fault.WriteFault.TheVariants.{File, Graph as InGraph, Area}
use Rattle.graph_writer.specs.Faults.{from_read}
use Rattle.graph_writer.specs.Writing.{record_for, node_of, count_fault, records_fault, write_fault, Standing}
use Rattle.graph_writer.specs.Copying.{copy_fault}
use Rattle.graph_writer.specs.Refusals.{file_of, IsLaidOut}
use Rattle.graph_writer.proofs.Putting.{file_encodes}
use Rattle.graph_writer.proofs.Reread.{right_record}

-- a fault of the records, or else of the graph, or else another: told of a graph or read
alike : (b : Option FileFault) (c d : Option GraphFault) (o : Option WriteFault) → (b ≡ None → c ≡ d)
    → option_or (option_map File b) (option_or (option_map InGraph c) o) ≡ option_or (option_map from_read (option_or (option_map read.File b) (option_map read.Graph d))) o
alike (Some x) c d o e = refl
alike None c d o e = ap (λ c. option_or (option_map InGraph c) o) (e refl) ∙ passed d
  where
    passed : (d : Option GraphFault) → option_or (option_map InGraph d) o ≡ option_or (option_map from_read (option_map read.Graph d)) o
    passed None = refl
    passed (Some x) = refl

module _ (g : Graph) (laid : IsLaidOut g) (full : length (take g.count g.nodes) ≡ g.count) where
  abbrev nodes : List Node
  nodes = take g.count g.nodes

  abbrev views : List NodeView
  views = graph_view g

  many : length views ≡ g.count
  many = length-map nodes node_view ∙ full

  some : 1 ≤ length views
  some = omega (arith, many, laid.some)

  few : length views ≤ 32
  few = omega (arith, many, laid.few)

  long : (n : Node) → length (record_for n) ≡ record_length (node_view n)
  long n = record_long n.place_count n.row_count (node_view n)

  rows : (i : ℕ) → i < length nodes → (row_count (node_view (node_of nodes i)).rows ≤ 16) × (at (record_for (node_of nodes i)) 14 ≡ row_count (node_view (node_of nodes i)).rows)
  rows i h =
      let n = node_of nodes i in
      let l : i < g.count = omega (arith, full) in
      (omega (arith, laid.few_rows i l, laid.full_rows i l), row_count_lem n.place_count n.row_count (node_view n) ∙ sym (laid.full_rows i l))

  abbrev file : List ℕ
  file = file_with node_view record_for long nodes refl

  file_is : file_of g ≡ file
  file_is = ap (λ n. n ∷ 0 ∷ (pairs_from (2 + 4 * n) views ++ flat_map record_for nodes)) (sym (length-map nodes node_view))

  -- the file's shape and pairs are right, and its records are those of the nodes
  file_told : file_fault (file_of g) ≡ records_fault nodes
  file_told =
      ap file_fault file_is ∙ ap (λ s. option_or s (option_or (pair_fault file) (byte_fault file))) (shape_clear node_view record_for long nodes no_node refl some few rows)
      ∙ ap (λ p. option_or p (byte_fault file)) (pairs_clear node_view record_for long nodes no_node refl some few rows)
      ∙ bytes_told node_view record_for long nodes no_node refl some few rows

  nodes_told : records_fault nodes ≡ None → Standing nodes → nodes_in (file_of g) ≡ views
  nodes_told e stand = ap nodes_in (file_encodes nodes stand) ∙ nodes_back views some few (right_record g e stand)

  pub told_as_read : (records_fault nodes ≡ None → Standing nodes) → (minimum : Kind → ℕ) (room : ℕ) → write_fault minimum g room ≡ copy_fault minimum (file_of g) room
  told_as_read stand minimum room =
      let right : count_fault g ≡ None = ap (λ t. unless t Shape) (and_from _ _ (le-leb 1 g.count laid.some) (le-leb g.count 32 laid.few)) in
      let room_fault : Option WriteFault = unless (leb 5762 room) Area in
      ap (λ c. option_or (option_map File c) (option_or (option_map File (records_fault nodes)) (option_or (option_map InGraph (graph_fault minimum views)) room_fault))) right
      ∙ alike (records_fault nodes) (graph_fault minimum views) (graph_fault minimum (nodes_in (file_of g))) room_fault (λ e. ap (graph_fault minimum) (sym (nodes_told e (stand e))))
      ∙ ap (λ b. option_or (option_map from_read (option_or (option_map read.File b) (option_map read.Graph (graph_fault minimum (nodes_in (file_of g)))))) room_fault) (sym file_told)
