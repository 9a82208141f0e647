use Rattle.std.proofs.Common.{◌≡◌, take}
use Rattle.chost.proofs.Laying.{so_far}
use Rattle.chost.proofs.area.lay_out.Given as goal

abbrev pub invariant-loop-place : goal.invariant-loop-place
invariant-loop-place l = l.area ≡ so_far l.reading (take l.reading.marks l.marks) l.place l.fn.area
