use Rattle.std.proofs.Common.{length}
use Rattle.plans.proofs.path.Path.+rows.Given as goal

abbrev pub decreases-rows : goal.decreases-rows
decreases-rows l = length l.self.now.behind.now
