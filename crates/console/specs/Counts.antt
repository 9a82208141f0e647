-- How large a graph is.
use Rattle.std.specs.Prelude.{ℕ, List, sum_by}
use Rattle.graphs.specs.View.{NodeView, row_count}

-- the rows of all nodes together
abbrev pub row_total : List NodeView → ℕ
row_total vs = sum_by (λ v. row_count v.rows) vs
