use Rattle.std.proofs.Common.{rules}
use Rattle.std.proofs.lemmas.Iterator.{YieldsList-from_slice}
use Rattle.std.proofs.lemmas.Iterator.Consumers.{max_from_yields_List}
use Rattle.plans.proofs.Windows.{reach_is}
use Rattle.plans.proofs.window.reach.Goals as goal

pub returns-clause-is : goal.returns-clause-is
returns-clause-is c =
    reach_is c.args.places.now c.max.result _ (max_from_yields_List c.iter.result _ c.max.ensures.ran (YieldsList-from_slice c.args.places.now c.iter.ensures.rest)) (search rules)
