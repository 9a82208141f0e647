-- What a plan is refused for, in words: the condition of each fault at its place.
use Rattle.std.specs.Prelude.{◌≡◌, ℕ, ◌*◌, ◌<◌, ◌≤◌, List, length, ◌≢◌, slice_index}
use Rattle.graphs.specs.View.{NodeView}
use Rattle.walks.specs.Plans.{Keeps, Lawful}
use Rattle.plans.specs.declared.chains.Chain.{Chain}
use Rattle.plans.specs.declared.chains.Chains.{Chains}
use Rattle.plans.specs.declared.fault.PlanFault.{PlanFault}
use Rattle.plans.specs.declared.fault.PlanFault.TheVariants.{Shape, Rule}
use Rattle.plans.specs.Chains.{chain_itself, chain_of, chain_at, chain_in}

-- the count is over 3, or a byte behind the nodes that it names is not zero
pub data WrongChain (c : Chain) : Type 0 where
  many : 3 < c.count → WrongChain c
  unused : (i : ℕ) → i < 3 → c.count ≤ i → (slice_index c.nodes i ≢ 0) → WrongChain c

-- 7: a plan that has not four bytes for each node of the graph is wrong at the number of nodes, and nowhere else;
-- any other at a node whose bytes are wrong
pub data WrongShape (g : List NodeView) (bytes : List ℕ) (n : ℕ) : Type 0 where
  size : (length bytes ≢ 4 * length g) → n ≡ length g → WrongShape g bytes n
  chain : length bytes ≡ 4 * length g → n < length g → WrongChain (chain_at bytes n) → WrongShape g bytes n

-- 8: the chain of a node breaks a rule. A row of an unsound graph may lead past its nodes. A chain may then name what is there:
-- a node of the fixed length 0 that looks up nothing and has no rows
abbrev pub BrokenRule : List NodeView → List ℕ → ℕ → Type 0
BrokenRule g bytes n = (n < length g) × (Keeps g n (chain_in bytes n) → ⊥)

-- numbers 7 and 8 of a plan for a graph
abbrev pub PlanApplies : List NodeView → List ℕ → PlanFault → Type 0
PlanApplies g bytes (Shape n) = WrongShape g bytes n
PlanApplies g bytes (Rule n) = BrokenRule g bytes n

-- what is promised of an accepted plan: its chains are those that the bytes say, in each place and all of them, and they keep the rules
pub record Says (g : List NodeView) (bytes : List ℕ) (chains : Chains) : Type 0 where
  pub whole : (n : ℕ) → chain_itself chains n ≡ chain_at bytes n
  pub same : chain_of chains ≡ chain_in bytes
  pub lawful : Lawful g (chain_of chains)
