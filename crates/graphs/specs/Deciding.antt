-- Which row of a node decides on a key: the first that the key fits.
use Rattle.std.specs.Option.{option_map}
use Rattle.std.specs.Prelude.{ℕ, ◌/◌, ◌^◌, Option}
use Rattle.patterns.specs.declared.row.Target.{Target}
use Rattle.patterns.specs.Sorts.{ternary_of, ternary_fits, span_of, span_fits}
use Rattle.patterns.specs.Finding.{first_fit}
use Rattle.graphs.specs.View.{RowsView, ternary_rows, range_rows, target_of}

-- the place of the first row that the key fits. A key is the four lookup bytes, the first place topmost; a range is over the first two
abbrev pub fitting : RowsView → ℕ → Option ℕ
fitting (ternary_rows rs) key = first_fit ternary_of ternary_fits key rs
fitting (range_rows rs) key = first_fit span_of span_fits (key / 2 ^ 16) rs

-- its target
abbrev pub decide : RowsView → ℕ → Option Target
decide rows key = option_map (target_of rows) (fitting rows key)
