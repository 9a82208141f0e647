use Rattle.std.proofs.Common.{take}
use Rattle.readers.specs.Headers.{bytes_at}
use Rattle.readers.specs.Keys.{Spells}
use Rattle.readers.proofs.turn.Turn.key.Given as goal

-- the bytes at the places so far are spelled
abbrev pub invariant-loop-place : goal.invariant-loop-place
invariant-loop-place l = Spells l.key (bytes_at l.self.packet.now l.self.at (take l.place-index l.lookups))
