use Rattle.std.proofs.Common.{◌∷◌, take}
use Rattle.readers.specs.Headers.{marks_by, marks_left}
use Rattle.readers.proofs.Passing.{Passing}
use Rattle.readers.proofs.turn.Turn.pass.Given as goal

abbrev pub invariant-loop-mark : goal.invariant-loop-mark
invariant-loop-mark l =
    Passing l.fn.marks l.fn.count l.marks l.count l.last (marks_left l.mark-iterator)
    (marks_by l.self.program.now l.self.packet.now (l.self.node ∷ take l.action.beyond l.fn.behind) l.self.at)
