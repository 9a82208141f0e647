use Rattle.std.proofs.Common.{◌≡◌, ℕ, ◌-◌, true, false, length, Option, ap, arith}
use Rattle.refusals.specs.Searching.{first_told, unless}
use Rattle.refusals.proofs.Searching.{found, passed, ended}
use Rattle.graphs.specs.View.{graph_view}
use Rattle.plans.specs.declared.fault.PlanFault.{PlanFault}
use Rattle.plans.specs.declared.fault.PlanFault.TheVariants.{Rule}
use Rattle.plans.specs.Chains.{chain_of}
use Rattle.plans.specs.Checking.{keeps}
use Rattle.plans.proofs.read.check_rules.Goals as goal

pub loop-node-init : goal.loop-node-init
loop-node-init c =
    let g = graph_view c.args.graph.now in
    let told : ℕ → Option PlanFault = λ n. unless (keeps g n (chain_of c.args.chains.now n)) (Rule n) in
    let all : length g - 0 ≡ length g = omega arith in
    ap (first_told told 0) all

pub returns-then-not-keeps_rules : goal.returns-then-not-keeps_rules
returns-then-not-keeps_rules c =
    let g = graph_view c.args.graph.now in
    let chain = chain_of c.args.chains.now in
    let n = c.loop-node.node in
    let wrong : keeps g n (chain n) ≡ false = cc (c.new.ensures.graph, c.new.ensures.node, c.new.ensures.behind, c.named_nodes.ensures.is, c.chain-chain.ensures.says, c.if-not-keeps_rules.ensures) in
    found (λ n. unless (keeps g n (chain n)) (Rule n)) n (length g) c.loop-node.invariant (Rule n) (omega arith) (ap (λ b. unless b (Rule n)) wrong)

pub loop-node-preserved : goal.loop-node-preserved
loop-node-preserved c =
    let g = graph_view c.args.graph.now in
    let chain = chain_of c.args.chains.now in
    let n = c.loop-node.node in
    let right : keeps g n (chain n) ≡ true = cc (c.new.ensures.graph, c.new.ensures.node, c.new.ensures.behind, c.named_nodes.ensures.is, c.chain-chain.ensures.says, c.if-not-keeps_rules.ensures) in
    passed (λ n. unless (keeps g n (chain n)) (Rule n)) n (length g) c.loop-node.invariant (omega arith) (ap (λ b. unless b (Rule n)) right)

pub returns : goal.returns
returns c =
    let g = graph_view c.args.graph.now in
    ended (λ n. unless (keeps g n (chain_of c.args.chains.now n)) (Rule n)) c.loop-node.node (length g) c.loop-node.invariant (omega arith)
