use Rattle.walks.proofs.Accepted.{accepted_sound}
use Rattle.walks.proofs.Whole.{walk_there}
use Rattle.walks.proofs.theorems.walk_is_one.Goals as goal

pub returns : goal.returns
returns c = λ minimum g a p. walk_there minimum g p (accepted_sound minimum g a)
