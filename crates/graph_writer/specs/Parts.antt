-- A graph's file part by part, as it is put into an area.
use Rattle.std.specs.Prelude.{◌≡◌, ℕ, ◌+◌, ◌*◌, ◌≤◌, cond, List, [], ◌∷◌, ◌++◌, map, length, nat_lt, slice_index}
use Rattle.std.specs.List.{flat_map}
use Rattle.headers.specs.Kinds.{kind_number}
use Rattle.graphs.specs.declared.graph.Node.{Node}
use Rattle.graphs.specs.View.{node_view, row_count}
use Rattle.graph_reader.specs.Encoding.{length_bytes, sort_byte, row_bytes, pairs_from}
use Rattle.graph_writer.specs.Writing.{record_for}

-- the byte of lookup place j: the place, or zero where the count does not name it
abbrev pub place_byte : ℕ → List ℕ → ℕ → ℕ
place_byte count places j = cond (nat_lt j count) (slice_index places j) 0

-- the first 16 bytes of a node's record, its counts as they stand
abbrev pub head_of : Node → List ℕ
head_of n =
    kind_number n.kind ∷ (length_bytes n.length ++ (n.place_count ∷ place_byte n.place_count n.places 0 ∷ place_byte n.place_count n.places 1
    ∷ place_byte n.place_count n.places 2 ∷ place_byte n.place_count n.places 3 ∷ sort_byte (node_view n).rows ∷ n.row_count ∷ 0 ∷ []))

-- the same record, in two parts
abbrev pub bytes_for : Node → List ℕ
bytes_for n = head_of n ++ row_bytes (node_view n).rows

-- what is known of a node's counts and its record's length
pub record Counted (n : Node) (size : ℕ) : Type 0 where
  pub long : size ≡ 16 + 10 * row_count (node_view n).rows
  pub small : size ≤ 176
  pub four : length n.places ≡ 4
  pub all : n.row_count ≤ 16 → row_count (node_view n).rows ≡ n.row_count

-- a file of nodes, each record's counts as they stand
abbrev pub file_for : List Node → List ℕ
file_for ns = length ns ∷ 0 ∷ (pairs_from (2 + 4 * length ns) (map node_view ns) ++ flat_map record_for ns)
