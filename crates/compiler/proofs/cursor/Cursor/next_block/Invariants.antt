use Rattle.std.proofs.Common.{◌≡◌, ◌-◌, length}
use Rattle.compiler.specs.Pieces.{ranges_left}
use Rattle.compiler.proofs.cursor.Cursor.next_block.Given as goal

-- what is left gives what there was
abbrev pub invariant-loop-block : goal.invariant-loop-block
invariant-loop-block l = record { left : ranges_left l.rows l.self ≡ ranges_left l.rows l.initial.self; node : l.self.node ≡ l.initial.self.node }

abbrev pub decreases-loop-block : goal.decreases-loop-block
decreases-loop-block l = length l.rows - l.self.row
