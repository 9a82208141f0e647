use Rattle.readers.proofs.Going.{Going}
use Rattle.readers.proofs.read.Reader.read.Given as goal

abbrev pub invariant-loop-questions : goal.invariant-loop-questions
invariant-loop-questions g l =
    let meaning = g.S.Store.meaning in
    Going l.self.program.now (meaning l.initial.store) l.self.packet.now l.initial.marks l.marks (meaning l.store) l.count l.questions l.node l.at
