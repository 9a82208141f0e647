-- A graph that was read is written without a fault, but for want of room.
use Rattle.std.specs.Option.{option_or, option_map}
use Rattle.std.proofs.Common.{◌≡◌, ℕ, ◌<◌, leb, List, length, take, Some, None, Ok, Err, Option, sym, refl, ap, ◌∙◌, ap₂, arith}
use Rattle.std.proofs.lemmas.List.{length-map}
use Rattle.std.proofs.lemmas.List.FromFn.{length-map-range_with_len, get_or-map-range_with_len}
use Rattle.std.proofs.lemmas.Bool.{and_from, le-leb}
use Rattle.refusals.specs.Searching.{unless, unless_fault}
use Rattle.refusals.proofs.Searching.{option_or_none, option_map_none, unless_none, nowhere, none_of}
use Rattle.headers.specs.declared.kinds.Kind.{Kind}
use Rattle.graphs.specs.declared.graph.Graph.{Graph}
use Rattle.graphs.specs.declared.graph.Node.{Node}
use Rattle.graphs.specs.View.{NodeView, node_view, no_node, graph_view, Counts}
use Rattle.graphs.specs.Checking.{graph_fault}
use Rattle.graphs.proofs.Noding.{node_at_lem}
use Rattle.graph_reader.specs.declared.fault.FileFault.TheVariants.{Shape, Byte}
use Rattle.graph_reader.specs.declared.fault.ReadFault.{ReadFault}
use Rattle.graph_reader.specs.declared.fault.ReadFault.TheVariants as read
use Rattle.graph_reader.specs.Encoding.{record_with, record_of}
use Rattle.graph_reader.specs.Records.{at}
use Rattle.graph_reader.specs.Files.{shape_right, record_at, first_wrong, record_fault, file_fault}
use Rattle.graph_reader.specs.Decoding.{node_in, nodes_in}
use Rattle.graph_reader.specs.Reading.{read_fault, reading}
use Rattle.graph_reader.proofs.Pairing.{shape_says}
use Rattle.graph_reader.proofs.Recorded.{record_whole}
use Rattle.graph_reader.proofs.Spelling.{spelled}
use Rattle.graph_reader.proofs.Filed.{record_byte}
use Rattle.graph_reader.proofs.Refused.{clear}
use Rattle.graph_writer.specs.declared.fault.WriteFault.TheVariants.{Area}
use Rattle.graph_writer.specs.Faults.{from_read}
use Rattle.graph_writer.specs.Writing.{record_for, node_of, record_fault_at, count_fault, records_fault, write_fault}
use Rattle.graph_writer.specs.Copying.{copy_fault}
use Rattle.graph_writer.proofs.Putting.{write_clear}

-- a refused file: what is told of it
pub copy_refused : (minimum : Kind → ℕ) (f : List ℕ) (room : ℕ) (e : ReadFault) → Err e ≡ reading minimum f → Some (from_read e) ≡ copy_fault minimum f room
copy_refused minimum f room e h = ap (λ o. option_or (option_map from_read o) (unless (leb 5762 room) Area)) (told (read_fault minimum f) h)
  where
    told : (o : Option ReadFault) → Err e ≡ unless_fault o (nodes_in f) → Some e ≡ o
    told None h = let z : ◌≡◌ {A = ℕ} 0 1 = cc in absurd (omega arith)
    told (Some d) h = cc

-- an accepted file: nothing is told of it, and the nodes are those that it says
pub copy_accepted : (minimum : Kind → ℕ) (f : List ℕ) (vs : List NodeView) → Ok vs ≡ reading minimum f → (read_fault minimum f ≡ None) × (vs ≡ nodes_in f)
copy_accepted minimum f vs h = told (read_fault minimum f) h
  where
    told : (o : Option ReadFault) → Ok vs ≡ unless_fault o (nodes_in f) → (o ≡ None) × (vs ≡ nodes_in f)
    told None h = (refl, cc)
    told (Some d) h = let z : ◌≡◌ {A = ℕ} 0 1 = cc in absurd (omega arith)

module _ (minimum : Kind → ℕ) (f : List ℕ) (byte : (i : ℕ) → at f i < 256) (told : read_fault minimum f ≡ None)
    (g : Graph) (counts : Counts g) (shown : graph_view g ≡ nodes_in f) where
  abbrev nodes : List Node
  nodes = take g.count g.nodes

  many : length nodes ≡ at f 0
  many = sym (length-map nodes node_view) ∙ ap length shown ∙ length-map-range_with_len (λ i. node_in (record_at f i)) 0 (at f 0)

  count_clear : count_fault g ≡ None
  count_clear =
      let s = shape_says f (unless_none (shape_right f) Shape (clear minimum f told).0) in
      ap (λ t. unless t Shape)
      (and_from _ _ (le-leb 1 g.count (omega (arith, counts.nodes, many, s.some))) (le-leb g.count 32 (omega (arith, counts.nodes, many, s.few))))

  record_same : (i : ℕ) → i < length nodes → record_for (node_of nodes i) ≡ record_at f i
  record_same i h =
      let l : i < at f 0 = omega (arith, many) in
      let view : node_view (node_of nodes i) ≡ node_in (record_at f i) =
      sym (node_at_lem nodes shown i no_node h) ∙ get_or-map-range_with_len (λ i. node_in (record_at f i)) 0 (at f 0) i i _ l (omega arith) in
      ap₂ (λ a b. record_with a b (node_view (node_of nodes i))) (counts.each i h).0 (counts.each i h).1 ∙ ap record_of view
      ∙ spelled (record_at f i) (record_byte f byte (clear minimum f told).1 (clear minimum f told).2 i) (record_whole f i (clear minimum f told).1 (clear minimum f told).2 l)

  records_clear : records_fault nodes ≡ None
  records_clear =
      none_of (record_fault_at nodes) (length nodes) 0
      (λ i l h. ap (λ r. option_map (Byte i) (first_wrong r)) (record_same i (omega arith))
      ∙ nowhere (record_fault f) (at f 0) 0 (clear minimum f told).2 i (omega arith) (omega (arith, many)))

  graph_clear : graph_fault minimum (graph_view g) ≡ None
  graph_clear = ap (graph_fault minimum) shown ∙ option_map_none read.Graph (graph_fault minimum (nodes_in f)) (option_or_none (option_map read.File (file_fault f)) _ told).1

  pub only_room : (room : ℕ) → write_fault minimum g room ≡ copy_fault minimum f room
  only_room room =
      write_clear minimum g room (sym count_clear) (sym records_clear) (sym graph_clear)
      ∙ sym (ap (λ o. option_or (option_map from_read o) (unless (leb 5762 room) Area)) told)
