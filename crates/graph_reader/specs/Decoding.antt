-- What a record and a file say, read off their bytes.
use Rattle.std.specs.Prelude.{ℕ, ◌+◌, ◌*◌, cond, List, [], ◌∷◌, map, take, ◌==◌}
use Rattle.std.specs.List.{range_with_len}
use Rattle.headers.specs.Kinds.{kind_at}
use Rattle.patterns.specs.declared.row.Target.{Target}
use Rattle.patterns.specs.declared.row.Target.TheVariants.{Node, Done, Dropped}
use Rattle.patterns.specs.declared.row.TernaryRow.{TernaryRow}
use Rattle.patterns.specs.declared.row.RangeRow.{RangeRow}
use Rattle.graphs.specs.declared.graph.Length.{Length}
use Rattle.graphs.specs.declared.graph.Length.TheVariants.{Fixed, Counted}
use Rattle.graphs.specs.View.{RowsView, ternary_rows, range_rows, NodeView}
use Rattle.graph_reader.specs.Records.{at, at2, at4}
use Rattle.graph_reader.specs.Files.{record_at}

abbrev pub length_in : List ℕ → Length
length_in r = cond (at r 1 == 0) (Fixed (at r 2)) (Counted (at r 2) (at r 3) (at r 4) (at r 5) (at r 6))

abbrev pub target_in : List ℕ → ℕ → Target
target_in r o = cond (at r (o + 8) == 0) (Node (at r (o + 9))) (cond (at r (o + 8) == 1) Done Dropped)

abbrev pub ternary_in : List ℕ → ℕ → TernaryRow
ternary_in r o = record { value = at4 r o; mask = at4 r (o + 4); target = target_in r o }

abbrev pub range_in : List ℕ → ℕ → RangeRow
range_in r o = record { low = at2 r o; high = at2 r (o + 2); target = target_in r o }

-- n rows in order, the one at k from byte 16 + 10 k on
abbrev pub each_row : {X : Type 0} → (ℕ → X) → ℕ → List X
each_row f n = map (λ k. f (16 + 10 * k)) (range_with_len 0 n)

abbrev pub rows_in : List ℕ → RowsView
rows_in r = cond (at r 13 == 0) (ternary_rows (each_row (ternary_in r) (at r 14))) (range_rows (each_row (range_in r) (at r 14)))

abbrev pub places_in : List ℕ → List ℕ
places_in r = take (at r 8) (at r 9 ∷ at r 10 ∷ at r 11 ∷ at r 12 ∷ [])

unfoldable pub node_in : List ℕ → NodeView
node_in r = record { kind = kind_at (at r 0); len = length_in r; places = places_in r; rows = rows_in r }

abbrev pub nodes_in : List ℕ → List NodeView
nodes_in f = map (λ i. node_in (record_at f i)) (range_with_len 0 (at f 0))
