use Rattle.taps.proofs.Sound.{loads_sound}
use Rattle.taps.proofs.laws.loads_are_sound.Goals as goal

pub returns : goal.returns
returns c = loads_sound
