use Rattle.walks.proofs.Count.{rows_counted}
use Rattle.walks.proofs.theorems.rows_are_counted.Goals as goal

pub returns : goal.returns
returns c = rows_counted
