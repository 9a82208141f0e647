use Rattle.walks.proofs.Accepted.{accepted_sound}
use Rattle.walks.proofs.Whole.{reads_plainly}
use Rattle.walks.proofs.theorems.turns_walk_the_walk.Goals as goal

pub returns : goal.returns
returns c = λ minimum g a chain law p. reads_plainly minimum g p (accepted_sound minimum g a) chain law
