-- Records written one behind the other.
use Rattle.std.specs.Option.{option_or, option_map}
use Rattle.std.proofs.Common.{◌≡◌, ℕ, suc, ◌+◌, ◌*◌, ◌<◌, leb, List, [], ◌∷◌, ◌++◌, map, length, get_or, take, drop, None, sym, refl, ap, ◌∙◌, ap₂, add-zero, zero-add, arith}
use Rattle.std.specs.List.{flat_map}
use Rattle.std.proofs.lemmas.List.{length-append, take_more, flat_map_more, map_more, length-map, length-take-le}
use Rattle.octets.specs.Writing.{written}
use Rattle.headers.specs.declared.kinds.Kind.{Kind}
use Rattle.graphs.specs.declared.graph.Graph.{Graph}
use Rattle.graph_writer.specs.declared.fault.WriteFault.TheVariants.{File, Graph as InGraph, Area}
use Rattle.refusals.specs.Searching.{unless}
use Rattle.graphs.specs.Checking.{graph_fault}
use Rattle.graphs.specs.declared.graph.Node.{Node}
use Rattle.graphs.specs.View.{NodeView, node_view, graph_view}
use Rattle.graph_reader.specs.Encoding.{two, record_of, record_length, pairs_from, encode}
use Rattle.graph_writer.specs.Writing.{record_for, Standing, count_fault, records_fault, write_fault}
use Rattle.graph_writer.specs.Parts.{file_for}
use Rattle.graph_reader.proofs.Places.{sizes, pairs_length}

-- the parts of so many elements, one more
pub parts_more : {X : Type 0} (f : X → List ℕ) (xs : List X) (n : ℕ) (d : X) → n < length xs
    → flat_map f (take n xs) ++ f (get_or xs n d) ≡ flat_map f (take (n + 1) xs)
parts_more f xs n d h = flat_map_more f [] (take n xs) (get_or xs n d) ∙ ap (flat_map f) (sym (take_more xs n d h))

pub sizes_push : (vs : List NodeView) (v : NodeView) → sizes (vs ++ v ∷ []) ≡ sizes vs + record_length v
sizes_push [] v = omega arith
sizes_push (w ∷ vs) v = omega (arith, sizes_push vs v)

pairs_push : (from : ℕ) (vs : List NodeView) (v : NodeView) → pairs_from from (vs ++ v ∷ []) ≡ pairs_from from vs ++ (two (from + sizes vs) ++ two (record_length v))
pairs_push from [] v = ap (λ x. two x ++ two (record_length v)) (sym (add-zero from))
pairs_push from (w ∷ vs) v =
    let e : from + record_length w + sizes vs ≡ from + (record_length w + sizes vs) = omega arith in
    ap (λ x. two from ++ (two (record_length w) ++ x))
    (pairs_push (from + record_length w) vs v ∙ ap (λ x. pairs_from (from + record_length w) vs ++ (two x ++ two (record_length v))) e)

module _ (ns : List Node) (n : ℕ) (d : Node) (h : n < length ns) where
  pub sizes_more : sizes (map node_view (take (n + 1) ns)) ≡ sizes (map node_view (take n ns)) + record_length (node_view (get_or ns n d))
  sizes_more = ap sizes (map_more node_view ns n d h) ∙ sizes_push (map node_view (take n ns)) (node_view (get_or ns n d))

  pub pairs_so_far : (from : ℕ) → length (pairs_from from (map node_view (take n ns))) ≡ 4 * n
  pairs_so_far from = pairs_length from (map node_view (take n ns)) ∙ ap (λ x. 4 * x) (length-map (take n ns) node_view ∙ length-take-le n ns (omega arith))

  pub pairs_more : (from next : ℕ) → next ≡ from + sizes (map node_view (take n ns))
      → pairs_from from (map node_view (take n ns)) ++ (two next ++ two (record_length (node_view (get_or ns n d)))) ≡ pairs_from from (map node_view (take (n + 1) ns))
  pairs_more from next e =
      ap (λ x. pairs_from from (map node_view (take n ns)) ++ (two x ++ two (record_length (node_view (get_or ns n d))))) e
      ∙ sym (ap (pairs_from from) (map_more node_view ns n d h) ∙ pairs_push from (map node_view (take n ns)) (node_view (get_or ns n d)))

-- records that stand, one behind the other
records_stand : (ns : List Node) → Standing ns → flat_map record_for ns ≡ flat_map record_of (map node_view ns)
records_stand [] stand = refl
records_stand (n ∷ ns) stand = ap₂ (λ x y. x ++ y) (stand 0 (omega arith)) (records_stand ns (λ k h. stand (suc k) (omega arith)))

-- head, pairs and records
module _ (ns : List Node) where
  abbrev pub pairs : List ℕ
  pairs = pairs_from (2 + 4 * length ns) (map node_view ns)

  pub pairs_long : length pairs ≡ 4 * length ns
  pairs_long = pairs_length (2 + 4 * length ns) (map node_view ns) ∙ ap (λ x. 4 * x) (length-map ns node_view)

  pub file_length : 2 + 4 * length ns + length (flat_map record_for ns) ≡ length (file_for ns)
  file_length = omega (arith, pairs_long, length-append pairs (flat_map record_for ns))

  -- where every count stands, that is the encoding
  pub file_encodes : Standing ns → file_for ns ≡ encode (map node_view ns)
  file_encodes stand =
      ap (λ x. length ns ∷ 0 ∷ (pairs ++ x)) (records_stand ns stand)
      ∙ ap (λ n. n ∷ 0 ∷ (pairs_from (2 + 4 * n) (map node_view ns) ++ flat_map record_of (map node_view ns))) (sym (length-map ns node_view))

-- nothing is told: no fault
pub write_clear : (minimum : Kind → ℕ) (g : Graph) (room : ℕ) → None ≡ count_fault g → None ≡ records_fault (take g.count g.nodes) → None ≡ graph_fault minimum (graph_view g)
    → write_fault minimum g room ≡ unless (leb 5762 room) Area
write_clear minimum g room a b c =
    ap (λ x. option_or (option_map File x) (option_or (option_map File (records_fault (take g.count g.nodes))) (option_or (option_map InGraph (graph_fault minimum (graph_view g))) (unless (leb 5762 room) Area)))) (sym a)
    ∙ ap (λ x. option_or (option_map File x) (option_or (option_map InGraph (graph_fault minimum (graph_view g))) (unless (leb 5762 room) Area))) (sym b)
    ∙ ap (λ x. option_or (option_map InGraph x) (unless (leb 5762 room) Area)) (sym c)

pub written_all : (area bytes : List ℕ) → written area 0 bytes ≡ bytes ++ drop (length bytes) area
written_all area bytes = ap (λ n. bytes ++ drop n area) (zero-add (length bytes))
