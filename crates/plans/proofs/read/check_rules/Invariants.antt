use Rattle.std.proofs.Common.{◌≡◌, ◌-◌, length}
use Rattle.refusals.specs.Searching.{first_told, unless}
use Rattle.graphs.specs.View.{graph_view}
use Rattle.plans.specs.declared.fault.PlanFault.TheVariants.{Rule}
use Rattle.plans.specs.Chains.{chain_of}
use Rattle.plans.specs.Checking.{keeps, rules_fault}
use Rattle.plans.proofs.read.check_rules.Given as goal

-- what the nodes from here on tell is what all of them tell
abbrev pub invariant-loop-node : goal.invariant-loop-node
invariant-loop-node l =
    let g = graph_view l.graph in
    let chain = chain_of l.chains in
    first_told (λ n. unless (keeps g n (chain n)) (Rule n)) l.node (length g - l.node) ≡ rules_fault g chain (length g)
