use Rattle.walks.proofs.Fields.{marks_have}
use Rattle.walks.proofs.theorems.marks_have_their_fields.Goals as goal

pub returns : goal.returns
returns c = λ t law g p ms o w. marks_have t law g p w
