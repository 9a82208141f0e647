use Rattle.walks.proofs.Window.{fewest}
use Rattle.walks.proofs.theorems.window_is_fewest.Goals as goal

pub returns : goal.returns
returns c = fewest
