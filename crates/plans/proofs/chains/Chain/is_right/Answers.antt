use Rattle.std.proofs.Common.{◌≡◌, length, subst, rules}
use Rattle.std.specs.Slice.{IsGetRangeResult}
use Rattle.plans.proofs.Chaining.{right_is}
use Rattle.plans.proofs.chains.Chain.is_right.Goals as goal

pub returns : goal.returns
returns c =
    let nodes = c.args.self.now.nodes in
    let whole : length nodes ≡ 3 = search rules in
    let found = subst (λ from. IsGetRangeResult nodes from (length nodes) c.get.result) c.from.ensures c.get.ensures.lookup in
    right_is c.args.self.now whole c.get.result _ _ found c.is_some_and.ensures (λ x k. search rules)
