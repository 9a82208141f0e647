use Rattle.std.proofs.Common.{arith}
use Rattle.stores.specs.Pairs.{both_length}
use Rattle.stores.proofs.pair.PairStore.held.Goals as goal

pub returns : goal.returns
returns g c = omega (arith, both_length (g.A.Store.meaning c.args.self.now.first) (g.B.Store.meaning c.args.self.now.second))
