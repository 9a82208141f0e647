-- The bytes of a graph file.
use Rattle.std.specs.Prelude.{ℕ, ◌+◌, ◌*◌, ◌/◌, ◌%◌, List, [], ◌∷◌, ◌++◌, length, take}
use Rattle.std.specs.List.{flat_map}
use Rattle.headers.specs.Kinds.{kind_number}
use Rattle.patterns.specs.declared.row.Target.{Target}
use Rattle.patterns.specs.declared.row.Target.TheVariants.{Node, Done, Dropped}
use Rattle.patterns.specs.declared.row.TernaryRow.{TernaryRow}
use Rattle.patterns.specs.declared.row.RangeRow.{RangeRow}
use Rattle.graphs.specs.declared.graph.Length.{Length}
use Rattle.graphs.specs.declared.graph.Length.TheVariants.{Fixed, Counted}
use Rattle.graphs.specs.View.{RowsView, ternary_rows, range_rows, NodeView, row_count}

-- two and four bytes of a number, the highest first
abbrev pub two : ℕ → List ℕ
two n = n / 256 ∷ n % 256 ∷ []

abbrev pub four : ℕ → List ℕ
four n = n / 16777216 ∷ n / 65536 % 256 ∷ n / 256 % 256 ∷ n % 256 ∷ []

abbrev pub length_bytes : Length → List ℕ
length_bytes (Fixed n) = 0 ∷ n ∷ 0 ∷ 0 ∷ 0 ∷ 0 ∷ 0 ∷ []
length_bytes (Counted place mask shift unit base) = 1 ∷ place ∷ mask ∷ shift ∷ unit ∷ base ∷ 0 ∷ []

-- the places, then zeros
abbrev pub place_bytes : List ℕ → List ℕ
place_bytes ps = take 4 (ps ++ 0 ∷ 0 ∷ 0 ∷ 0 ∷ [])

abbrev pub target_bytes : Target → List ℕ
target_bytes (Node t) = 0 ∷ t ∷ []
target_bytes Done = 1 ∷ 0 ∷ []
target_bytes Dropped = 2 ∷ 0 ∷ []

abbrev pub ternary_bytes : TernaryRow → List ℕ
ternary_bytes r = four r.value ++ (four r.mask ++ target_bytes r.target)

abbrev pub range_bytes : RangeRow → List ℕ
range_bytes r = two r.low ++ (two r.high ++ (0 ∷ 0 ∷ 0 ∷ 0 ∷ target_bytes r.target))

abbrev pub sort_byte : RowsView → ℕ
sort_byte (ternary_rows rs) = 0
sort_byte (range_rows rs) = 1

abbrev pub row_bytes : RowsView → List ℕ
row_bytes (ternary_rows rs) = flat_map ternary_bytes rs
row_bytes (range_rows rs) = flat_map range_bytes rs

-- a node's record, under the counts that are given
abbrev pub record_with : ℕ → ℕ → NodeView → List ℕ
record_with places rows v =
    kind_number v.kind ∷ (length_bytes v.len ++ (places ∷ (place_bytes v.places ++ (sort_byte v.rows ∷ rows ∷ 0 ∷ row_bytes v.rows))))

abbrev pub record_of : NodeView → List ℕ
record_of v = record_with (length v.places) (row_count v.rows) v

abbrev pub record_length : NodeView → ℕ
record_length v = 16 + 10 * row_count v.rows

-- offset and length of each record, the first at `from`
abbrev pub pairs_from : ℕ → List NodeView → List ℕ
pairs_from from [] = []
pairs_from from (v ∷ vs) = two from ++ (two (record_length v) ++ pairs_from (from + record_length v) vs)

abbrev pub encode : List NodeView → List ℕ
encode vs = length vs ∷ 0 ∷ (pairs_from (2 + 4 * length vs) vs ++ flat_map record_of vs)
