-- The rules of a chain, its window, and how many rows a graph and a plan need.
use Rattle.std.specs.Prelude.{◌≡◌, ℕ, zero, suc, ◌+◌, ◌*◌, ◌<◌, ◌≤◌, max, cond, List, [], ◌∷◌, length}
use Rattle.std.specs.List.{AllByRecursion}
use Rattle.patterns.specs.declared.row.Target.TheVariants as to
use Rattle.patterns.specs.declared.row.TernaryRow.{TernaryRow}
use Rattle.patterns.specs.declared.row.RangeRow.{RangeRow}
use Rattle.patterns.specs.Splitting.{split_of}
use Rattle.graphs.specs.declared.graph.Length.{Length}
use Rattle.graphs.specs.declared.graph.Length.TheVariants.{Fixed, Counted}
use Rattle.graphs.specs.View.{RowsView, ternary_rows, range_rows, NodeView, row_count, node_at, target_of}
use Rattle.walks.specs.Rows.{Plan, key_width, tried, leads_to}

-- Rules

-- the length is fixed
abbrev pub IsFixed : Length → Type 0
IsFixed l = (n : ℕ) × (l ≡ Fixed n)

-- node c is a target of some row
abbrev pub IsTarget : RowsView → ℕ → Type 0
IsTarget rows c = (k : ℕ) × (k < row_count rows) × (target_of rows k ≡ to.Node c)

module _ (g : List NodeView) where
  -- node n and the nodes behind it have fixed lengths
  abbrev pub AllFixed : ℕ → List ℕ → Type 0
  AllFixed n [] = IsFixed (node_at g n).len
  AllFixed n (c ∷ cs) = IsFixed (node_at g n).len × AllFixed c cs

  -- each next node is a target of some row of the one before
  abbrev pub Linked : ℕ → List ℕ → Type 0
  Linked n [] = Unit {0}
  Linked n (c ∷ cs) = IsTarget (node_at g n).rows c × Linked c cs

  -- how many lookup bytes they have together
  abbrev pub lookups : ℕ → List ℕ → ℕ
  lookups n [] = length (node_at g n).places
  lookups n (c ∷ cs) = length (node_at g n).places + lookups c cs

-- node n and its chain keep all three rules
pub record Rules (g : List NodeView) (n : ℕ) (cs : List ℕ) : Type 0 where
  pub fixed : AllFixed g n cs
  pub linked : Linked g n cs
  pub narrow : lookups g n cs ≤ key_width

-- a node without a chain breaks no rule
abbrev pub Keeps : List NodeView → ℕ → List ℕ → Type 0
Keeps g n [] = Unit {0}
Keeps g n (c ∷ cs) = Rules g n (c ∷ cs)

-- the plan keeps the rules at each node of the graph
abbrev pub Lawful : List NodeView → Plan → Type 0
Lawful g chain = (n : ℕ) → n < length g → Keeps g n (chain n)

-- Window

-- the length of a fixed header
abbrev pub fixed_size : Length → ℕ
fixed_size (Fixed n) = n
fixed_size (Counted place mask shift unit base) = 0

-- the bytes that reach over every place
abbrev pub reach : List ℕ → ℕ
reach [] = 0
reach (i ∷ is) = max (suc i) (reach is)

-- the bytes that a node takes: its header, and its lookup places, which may lie behind it
abbrev pub span : NodeView → ℕ
span v = max (fixed_size v.len) (reach v.places)

module _ (g : List NodeView) where
  -- the window of node n and the nodes behind it, from the start of n on
  abbrev pub window : ℕ → List ℕ → ℕ
  window n [] = span (node_at g n)
  window n (c ∷ cs) = max (span (node_at g n)) (fixed_size (node_at g n).len + window c cs)

  -- m bytes hold the header and the lookup bytes of a node that begins at `from`
  abbrev pub HoldsNode : ℕ → ℕ → ℕ → Type 0
  HoldsNode m from n = (from + fixed_size (node_at g n).len ≤ m) × AllByRecursion (λ i. from + i < m) (node_at g n).places

  -- and those of all nodes behind it, each right behind the one before
  abbrev pub Holds : ℕ → ℕ → ℕ → List ℕ → Type 0
  Holds m from n [] = HoldsNode m from n
  Holds m from n (c ∷ cs) = HoldsNode m from n × Holds m (from + fixed_size (node_at g n).len) c cs

-- Count of rows

-- how many pieces the ranges have
abbrev pub block_count : List RangeRow → ℕ
block_count [] = 0
block_count (r ∷ rs) = length (split_of r.low r.high) + block_count rs

-- how many pieces a node's rows have, and how many of these lead to node c
abbrev pub piece_count : RowsView → ℕ
piece_count (ternary_rows rs) = length rs
piece_count (range_rows rs) = block_count rs

abbrev pub ternaries_to : ℕ → List TernaryRow → ℕ
ternaries_to c [] = 0
ternaries_to c (r ∷ rs) = cond (leads_to c r.target) 1 0 + ternaries_to c rs

abbrev pub blocks_to : ℕ → List RangeRow → ℕ
blocks_to c [] = 0
blocks_to c (r ∷ rs) = cond (leads_to c r.target) (length (split_of r.low r.high)) 0 + blocks_to c rs

abbrev pub pieces_to : ℕ → RowsView → ℕ
pieces_to c (ternary_rows rs) = ternaries_to c rs
pieces_to c (range_rows rs) = blocks_to c rs

-- f a + f (a + 1) + .. of so many numbers
abbrev pub sum_from : (ℕ → ℕ) → ℕ → ℕ → ℕ
sum_from f a zero = 0
sum_from f a (suc k) = f a + sum_from f (a + 1) k

module _ (g : List NodeView) where
  -- the rows of node n and a chain: one for each piece, as it is or closing, and for each that leads on the rows of the rest
  abbrev pub entry_count : ℕ → List ℕ → ℕ
  entry_count n [] = piece_count (tried (node_at g n).rows)
  entry_count n (c ∷ cs) = piece_count (tried (node_at g n).rows) + pieces_to c (tried (node_at g n).rows) * entry_count c cs

  abbrev pub chain_count : ℕ → List ℕ → ℕ
  chain_count n [] = 0
  chain_count n (c ∷ cs) = entry_count n (c ∷ cs)

  -- the rows of graph and plan, without listing them
  abbrev pub store_count : Plan → ℕ
  store_count chain = sum_from (λ n. entry_count n []) 0 (length g) + sum_from (λ n. chain_count n (chain n)) 0 (length g)
