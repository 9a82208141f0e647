use Rattle.std.proofs.Common.{◌≡◌}
use Rattle.slices.specs.Words.{named, half_of}
use Rattle.slices.proofs.sliced.Words.all_named.Given as goal

abbrev pub invariant-loop-place : goal.invariant-loop-place
invariant-loop-place l = l.all ≡ named l.self.words (half_of l.question.state.number l.question.key) l.place
