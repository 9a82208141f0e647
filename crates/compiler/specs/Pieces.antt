-- The ternary rows of a node, one after the other, as the compiler goes over them. Nothing has to be believed of them: that they are the
-- pieces of `walks/specs/Rows` is proved
use Rattle.std.specs.Prelude.{◌*◌, List, [], ◌∷◌, ◌++◌, map, drop, Some, None, Option}
use Rattle.std.specs.List.{flat_map}
use Rattle.patterns.specs.declared.block.Block.{Block}
use Rattle.patterns.specs.declared.row.Target.{Target}
use Rattle.patterns.specs.declared.row.TernaryRow.{TernaryRow}
use Rattle.patterns.specs.declared.row.RangeRow.{RangeRow}
use Rattle.patterns.specs.Splitting.{split_of}
use Rattle.graphs.specs.View.{RowsView, ternary_rows, range_rows, node_view}
use Rattle.compiler.specs.declared.cursor.Cursor.{Cursor}
use Rattle.compiler.specs.Held.{held}

-- a block of a range: its number stands in the first two bytes
abbrev pub block_as : Target → Block → TernaryRow
block_as t b = record { value = b.value * 65536; mask = b.mask * 65536; target = t }

abbrev pub range_as : RangeRow → List TernaryRow
range_as r = map (block_as r.target) (split_of r.low r.high)

-- what a cursor leaves of a node's rows
abbrev pub ranges_left : List RangeRow → Cursor → List TernaryRow
ranges_left rs k = map (block_as k.target) (drop k.next (held k.blocks)) ++ flat_map range_as (drop k.row rs)

abbrev pub left : RowsView → Cursor → List TernaryRow
left (ternary_rows rs) k = drop k.row rs
left (range_rows rs) k = ranges_left rs k

abbrev pub left_in : Cursor → List TernaryRow
left_in k = left (node_view k.node.now).rows k

-- the first of a list, and the others
abbrev pub head_of : {X : Type 0} → List X → Option X
head_of [] = None
head_of (x ∷ xs) = Some x

abbrev pub tail_of : {X : Type 0} → List X → List X
tail_of [] = []
tail_of (x ∷ xs) = xs
