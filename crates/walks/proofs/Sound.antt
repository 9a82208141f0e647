-- What the theorem uses of a graph: what reading a graph file promises.
use Rattle.std.proofs.Common.{◌≡◌, ℕ, ◌<◌, ◌≤◌, true, List, length}
use Rattle.std.specs.List.{AllByRecursion}
use Rattle.headers.specs.declared.kinds.Kind.{Kind}
use Rattle.patterns.specs.declared.row.Target.{Target}
use Rattle.patterns.specs.declared.row.Target.TheVariants as to
use Rattle.patterns.specs.declared.row.TernaryRow.{TernaryRow}
use Rattle.patterns.specs.declared.row.RangeRow.{RangeRow}
use Rattle.patterns.specs.Sound.{ternary_ok, span_ok}
use Rattle.graphs.specs.declared.graph.Length.TheVariants.{Fixed}
use Rattle.graphs.specs.View.{RowsView, ternary_rows, range_rows, NodeView, row_count, node_at, target_of}
use Rattle.walks.specs.Bytes.{filled}
use Rattle.walks.specs.Walk.{lookup_width}
use Rattle.walks.specs.Rows.{chain_base, free, cells_of}

-- a ternary row of a node with w lookup bytes makes a pattern, and no byte behind them is looked at
pub record SoundTernary (w : ℕ) (r : TernaryRow) : Type 0 where
  pub ok : ternary_ok r.value r.mask ≡ true
  pub behind : cells_of 4 r.value r.mask ≡ filled free 4 (filled free w (cells_of 4 r.value r.mask))

abbrev pub SoundRange : RangeRow → Type 0
SoundRange r = span_ok r.low r.high ≡ true

-- ranges have two lookup bytes at least
abbrev pub SoundRows : ℕ → RowsView → Type 0
SoundRows w (ternary_rows rs) = AllByRecursion (SoundTernary w) rs
SoundRows w (range_rows rs) = (2 ≤ w) × AllByRecursion SoundRange rs

-- a target of node n is a later node of the graph, done or dropped
abbrev pub Onward : ℕ → ℕ → Target → Type 0
Onward size n (to.Node m) = (n < m) × (m < size)
Onward size n to.Done = Unit {0}
Onward size n to.Dropped = Unit {0}

pub record Sound (minimum : Kind → ℕ) (g : List NodeView) : Type 0 where
  pub some : 0 < length g
  pub few : length g ≤ chain_base
  pub narrow : (n : ℕ) → n < length g → length (node_at g n).places ≤ lookup_width
  pub rows : (n : ℕ) → n < length g → SoundRows (length (node_at g n).places) (node_at g n).rows
  pub onward : (n : ℕ) → n < length g → (k : ℕ) → k < row_count (node_at g n).rows → Onward (length g) n (target_of (node_at g n).rows k)
  pub enough : (n : ℕ) → n < length g → (l : ℕ) → (node_at g n).len ≡ Fixed l → minimum (node_at g n).kind ≤ l
