use Rattle.std.proofs.lemmas.Nat.{one_shl}
use Rattle.slices.proofs.words.bit_of.Goals as goal

pub returns : goal.returns
returns c = one_shl c.args.row 64 c.requires
