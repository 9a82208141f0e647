use Rattle.std.proofs.Common.{length}
use Rattle.plans.proofs.path.Path.+ruled.Given as goal

abbrev pub decreases-ruled : goal.decreases-ruled
decreases-ruled l = length l.self.now.behind.now
