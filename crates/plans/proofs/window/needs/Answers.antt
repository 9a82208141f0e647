use Rattle.std.proofs.Common.{[], ◌∷◌, arith}
use Rattle.graphs.specs.View.{node_view}
use Rattle.plans.proofs.Windows.{reach_append}
use Rattle.plans.proofs.window.needs.Goals as goal

pub returns-in-Counted : goal.returns-in-Counted
returns-in-Counted c =
    let places = (node_view c.args.node.now).places in
    let length = c.in-Counted.is in
    let both = reach_append places (c.in-Counted.place ∷ []) in
    grind (arith, length, both)
