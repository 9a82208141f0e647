-- The checks of a plan as tests, and the first fault that they find. `Refusals` says the same in words.
use Rattle.std.specs.List.{list_any}
use Rattle.std.specs.Option.{option_or}
use Rattle.std.specs.Prelude.{ℕ, ◌-◌, ◌*◌, Bool, true, false, ◌&&◌, ◌||◌, List, [], ◌∷◌, length, Option, ◌==◌, nat_le, nat_lt, slice_index}
use Rattle.refusals.specs.Searching.{first_told, unless}
use Rattle.graphs.specs.declared.graph.Length.{Length}
use Rattle.graphs.specs.declared.graph.Length.TheVariants.{Fixed, Counted}
use Rattle.graphs.specs.View.{RowsView, ternary_rows, range_rows, NodeView, node_at}
use Rattle.walks.specs.Rows.{Plan, key_width, leads_to}
use Rattle.plans.specs.declared.chains.Chain.{Chain}
use Rattle.plans.specs.declared.fault.PlanFault.{PlanFault}
use Rattle.plans.specs.declared.fault.PlanFault.TheVariants.{Shape, Rule}
use Rattle.plans.specs.Chains.{chain_at, chain_in}

-- a count of at most 3, and zeros behind the nodes that it names
abbrev pub chain_right : Chain → Bool
chain_right c =
    nat_le c.count 3
    && ((nat_lt 0 c.count || slice_index c.nodes 0 == 0)
    && ((nat_lt 1 c.count || slice_index c.nodes 1 == 0) && (nat_lt 2 c.count || slice_index c.nodes 2 == 0)))

abbrev pub is_fixed : Length → Bool
is_fixed (Fixed n) = true
is_fixed (Counted place mask shift unit base) = false

-- some row leads to node c
abbrev pub any_to : ℕ → RowsView → Bool
any_to c (ternary_rows rs) = list_any (λ r. leads_to c r.target) rs
any_to c (range_rows rs) = list_any (λ r. leads_to c r.target) rs

-- node n and those behind it have fixed lengths, each next one is a target of the one before, and `room` lookup bytes are enough
abbrev pub ruled : List NodeView → ℕ → ℕ → List ℕ → Bool
ruled g room n [] = is_fixed (node_at g n).len && nat_le (length (node_at g n).places) room
ruled g room n (c ∷ cs) =
    is_fixed (node_at g n).len
    && (nat_le (length (node_at g n).places) room
    && (any_to c (node_at g n).rows && ruled g (room - length (node_at g n).places) c cs))

-- a node without a chain breaks no rule
abbrev pub keeps : List NodeView → ℕ → List ℕ → Bool
keeps g n [] = true
keeps g n (c ∷ cs) = ruled g key_width n (c ∷ cs)

-- number 7 of a plan for so many nodes: its size, and the first node whose bytes are wrong
abbrev pub size_fault : ℕ → List ℕ → Option PlanFault
size_fault count bytes = unless (length bytes == 4 * count) (Shape count)

abbrev pub chains_fault : ℕ → List ℕ → Option PlanFault
chains_fault count bytes = first_told (λ n. unless (chain_right (chain_at bytes n)) (Shape n)) 0 count

-- number 8: the first node whose chain breaks a rule
abbrev pub rules_fault : List NodeView → Plan → ℕ → Option PlanFault
rules_fault g chain count = first_told (λ n. unless (keeps g n (chain n)) (Rule n)) 0 count

-- what is wrong with a plan for a graph
abbrev pub plan_fault : List NodeView → List ℕ → Option PlanFault
plan_fault g bytes = option_or (size_fault (length g) bytes) (option_or (chains_fault (length g) bytes) (rules_fault g (chain_in bytes) (length g)))
