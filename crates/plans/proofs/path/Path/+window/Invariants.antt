use Rattle.std.proofs.Common.{length}
use Rattle.plans.proofs.path.Path.+window.Given as goal

abbrev pub decreases-window : goal.decreases-window
decreases-window l = length l.self.now.behind.now
