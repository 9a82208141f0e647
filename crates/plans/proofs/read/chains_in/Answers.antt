use Rattle.std.proofs.Common.{◌≡◌, ◌*◌, ◌/◌, ◌<◌, true, false, length, sym, ap, ◌∙◌, arith}
use Rattle.std.proofs.lemmas.List.{length-set}
use Rattle.refusals.specs.Searching.{unless}
use Rattle.refusals.proofs.Searching.{found, passed}
use Rattle.plans.specs.declared.fault.PlanFault.TheVariants.{Shape}
use Rattle.plans.specs.Chains.{chain_at}
use Rattle.plans.specs.Checking.{chain_right}
use Rattle.plans.proofs.Chaining.{chain_said, chain_more, chain_less, chains_whole, chains_same}
use Rattle.plans.proofs.read.chains_in.Goals as goal

pub returns-then-not-is_right-clause-fault : goal.returns-then-not-is_right-clause-fault
returns-then-not-is_right-clause-fault c =
    let bytes = c.args.bytes.now in
    let n = c.loop-node.node in
    let l : n < c.args.count = omega (arith, c.loop-node-test.true, c.as_chunks.ensures.front_len) in
    let said : c.from-chain.result ≡ chain_at bytes n =
    c.from-chain.ensures ∙ chain_said bytes (length bytes / 4) n c.as_chunks.result.0.now _ c.as_chunks.ensures.front (omega (arith, c.loop-node-test.true, c.as_chunks.ensures.front_len)) in
    let wrong : chain_right (chain_at bytes n) ≡ false = ap chain_right (sym said) ∙ sym c.if-not-is_right.ensures in
    found (λ n. unless (chain_right (chain_at bytes n)) (Shape n)) n c.args.count c.loop-node.invariant.0 (Shape n) l (ap (λ b. unless b (Shape n)) wrong)

pub loop-node-preserved : goal.loop-node-preserved
loop-node-preserved c =
    let bytes = c.args.bytes.now in
    let n = c.loop-node.node in
    let l : n < c.args.count = omega (arith, c.loop-node-test.true, c.as_chunks.ensures.front_len) in
    let said : c.from-chain.result ≡ chain_at bytes n =
    c.from-chain.ensures ∙ chain_said bytes (length bytes / 4) n c.as_chunks.result.0.now _ c.as_chunks.ensures.front (omega (arith, c.loop-node-test.true, c.as_chunks.ensures.front_len)) in
    let right : chain_right (chain_at bytes n) ≡ true = ap chain_right (sym said) ∙ sym c.if-not-is_right.ensures in
    let xs = c.loop-node.plan.chains in
    let k : n < length xs = omega (arith, c.loop-node.invariant.3, c.requires.few) in (
      passed (λ n. unless (chain_right (chain_at bytes n)) (Shape n)) n c.args.count c.loop-node.invariant.0 l (ap (λ b. unless b (Shape n)) right),
      chain_more bytes xs n c.from-chain.result k said c.loop-node.invariant.1,
      chain_less bytes xs n c.from-chain.result k c.loop-node.invariant.2,
      length-set _ _ _ ∙ c.loop-node.invariant.3,
    )

pub returns-clause-whole : goal.returns-clause-whole
returns-clause-whole c =
    let size : length c.args.bytes.now ≡ 4 * c.loop-node.node = omega (arith, c.requires.size, c.as_chunks.ensures.front_len, c.loop-node-test.false, c.loop-node.auto.node-end) in
    chains_whole c.args.bytes.now c.loop-node.plan c.loop-node.node size c.loop-node.invariant.1 c.loop-node.invariant.2

pub returns-clause-says : goal.returns-clause-says
returns-clause-says c = chains_same c.args.bytes.now c.loop-node.plan (returns-clause-whole c)
