use Rattle.std.proofs.lemmas.List.{append_assoc}
use Rattle.std.proofs.Output.{has_written_of_eq}
use Rattle.captures.proofs.text.CaptureFaultDisplay.fmt.Goals as goal

pub returns-in-PacketCut-clause-writes : goal.returns-in-PacketCut-clause-writes
returns-in-PacketCut-clause-writes g c plain ok =
    has_written_of_eq _ _ _ _ _ (rw c.in-PacketCut.is (simp append_assoc)) (c.write-in-PacketCut.ensures.writes plain ok)
