use Rattle.slices.proofs.Putting.{Putting}
use Rattle.slices.proofs.sliced.WordsTable64.put.Given as goal

abbrev pub invariant-loop-i : goal.invariant-loop-i
invariant-loop-i l = Putting l.fn.self.words l.word-items l.held l.row l.i
