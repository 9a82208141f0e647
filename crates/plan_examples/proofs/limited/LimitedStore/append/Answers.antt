use Rattle.std.proofs.Common.{◌<◌, length, ap, ◌∙◌, arith}
use Rattle.stores.specs.Listed.{of_listing}
use Rattle.plan_examples.specs.Limits.{limited}
use Rattle.plan_examples.specs.LimitsLemmas.{listing_free, limited_admits, limited_more}
use Rattle.plan_examples.proofs.limited.LimitedStore.append.Goals as goal

pub returns : goal.returns
returns c =
    let s = c.args.self.now.all in
    let limit = c.args.self.now.limit in
    let room : length (of_listing s).rows < limit = omega (arith, c.held.ensures) in
    let free = listing_free s limit room (omega arith) in
    record {
      answered = c.append.ensures.answered ∙ limited_admits (of_listing s) limit room free;
      after = ap (λ m. limited m limit) c.append.ensures.after ∙ limited_more (of_listing s) limit room free c.args.row.now;
    }
