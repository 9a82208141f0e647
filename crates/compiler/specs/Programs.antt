-- What a program says of a graph and a plan.
use Rattle.std.specs.Prelude.{◌≡◌, ℕ, ◌+◌, List, [], ◌∷◌, ◌++◌, map, length, take, slice_index_or}
use Rattle.headers.specs.declared.kinds.Kind.{Kind}
use Rattle.graphs.specs.View.{ternary_rows, NodeView, node_at}
use Rattle.walks.specs.Walk.{reads}
use Rattle.walks.specs.Rows.{Plan, StoreRow, store_rows}
use Rattle.walks.specs.Plans.{fixed_size, reach, window}
use Rattle.plans.specs.Chains.{nodes_of}
use Rattle.compiler.specs.declared.program.Head.{Head}
use Rattle.compiler.specs.declared.program.Program.{Program}
use Rattle.compiler.specs.Held.{held}

-- the most rows of a graph and a plan
abbrev pub most_rows : ℕ
most_rows = 512

-- what a program has of node n: what it names `blank` past its last node
abbrev pub head_at : Program → ℕ → Head
head_at p n = slice_index_or (held p.heads) n p.blank

-- a node without its rows, as a program has it and as a graph does
abbrev pub head_view : Head → NodeView
head_view h = record { kind = h.kind; len = h.length; places = take h.own_count (held h.lookups); rows = ternary_rows [] }

abbrev pub bare : NodeView → NodeView
bare v = record { kind = v.kind; len = v.len; places = v.places; rows = ternary_rows [] }

-- the places of the lookup bytes of node n and the nodes behind it, each counted from the start of n on
abbrev pub looked_up : List NodeView → ℕ → List ℕ → List ℕ
looked_up g n [] = (node_at g n).places
looked_up g n (c ∷ cs) = (node_at g n).places ++ map (λ i. fixed_size (node_at g n).len + i) (looked_up g c cs)

module _ (minimum : Kind → ℕ) where
  -- the head is that of node n: the node without its rows, its chain, the window and the lookup places of both, how many bytes hold
  -- all that a step at the node reads, and the fewest bytes of its kind
  pub record HeadOf (g : List NodeView) (chain : Plan) (n : ℕ) (h : Head) : Type 0 where
    pub node : head_view h ≡ bare (node_at g n)
    pub behind : nodes_of h.chain ≡ chain n
    pub window : h.window ≡ window g n (chain n)
    pub lookups : held h.lookups ≡ looked_up g n (chain n)
    pub needs : h.needs ≡ reach (reads (node_at g n))
    pub least : h.minimum ≡ minimum (node_at g n).kind

  -- the program stands for graph and plan: as many heads, and every head, past the last node that of no node; and the actions of
  -- the rows in order
  pub record Stands (p : Program) (g : List NodeView) (chain : Plan) : Type 0 where
    pub count : length (held p.heads) ≡ length g
    pub heads : (n : ℕ) → HeadOf g chain n (head_at p n)
    pub blank : HeadOf [] (λ n. []) 0 p.blank
    pub actions : held p.actions ≡ map (λ (r : StoreRow). r.action) (store_rows g chain)
