-- Chains in memory, and the chains that a plan's bytes say.
use Rattle.std.specs.Prelude.{ℕ, ◌+◌, ◌*◌, Bool, false, List, [], ◌∷◌, take, slice_index_or}
use Rattle.patterns.specs.declared.row.Target.{Target}
use Rattle.graph_reader.specs.Records.{at}
use Rattle.walks.specs.Rows.{Plan, leads_to}
use Rattle.plans.specs.declared.chains.Chain.{Chain}
use Rattle.plans.specs.declared.chains.Chains.{Chains}

-- the nodes that a chain's count names
abbrev pub nodes_of : Chain → List ℕ
nodes_of c = take c.count c.nodes

-- the chain of no nodes
abbrev pub no_chain : Chain
no_chain = record { count = 0; nodes = 0 ∷ 0 ∷ 0 ∷ [] }

-- the chain of each node as it stands in memory, with what is behind its count: of no nodes past the last
abbrev pub chain_itself : Chains → ℕ → Chain
chain_itself p n = slice_index_or p.chains n no_chain

-- the chain of each node
abbrev pub chain_of : Chains → Plan
chain_of p n = nodes_of (chain_itself p n)

-- the four bytes of node n: how many nodes are behind it, and three nodes
abbrev pub chain_at : List ℕ → ℕ → Chain
chain_at bytes n = record { count = at bytes (4 * n); nodes = at bytes (4 * n + 1) ∷ at bytes (4 * n + 2) ∷ at bytes (4 * n + 3) ∷ [] }

-- the chain that they say. A byte past the end reads as 0, so past the last node no chain has nodes
abbrev pub chain_in : List ℕ → Plan
chain_in bytes n = nodes_of (chain_at bytes n)

-- the target is the chain's next node
abbrev pub leads_on : List ℕ → Target → Bool
leads_on [] t = false
leads_on (c ∷ cs) t = leads_to c t
