use Rattle.std.proofs.Common.{◌≡◌, ℕ, ◌-◌, ◌<◌, ◌≤◌, length}
use Rattle.refusals.specs.Searching.{first_told, unless}
use Rattle.plans.specs.declared.fault.PlanFault.TheVariants.{Shape}
use Rattle.plans.specs.Chains.{no_chain, chain_itself, chain_at}
use Rattle.plans.specs.Checking.{chain_right, chains_fault}
use Rattle.plans.proofs.read.chains_in.Given as goal

-- what the nodes from n on tell is what all of them tell; the chains before n are those of the bytes, and the others are of no nodes
abbrev pub invariant-loop-node : goal.invariant-loop-node
invariant-loop-node l =
    (first_told (λ n. unless (chain_right (chain_at l.bytes n)) (Shape n)) l.node (l.count - l.node) ≡ chains_fault l.count l.bytes)
    × ((k : ℕ) → k < l.node → chain_itself l.plan k ≡ chain_at l.bytes k)
    × ((k : ℕ) → l.node ≤ k → chain_itself l.plan k ≡ no_chain)
    × (length l.plan.chains ≡ 32)
