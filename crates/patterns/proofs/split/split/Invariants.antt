use Rattle.std.proofs.Common.{◌≡◌, ◌+◌, ◌-◌, ◌≤◌, ◌++◌, length, take, drop}
use Rattle.patterns.specs.Splitting.{split_of}
use Rattle.patterns.proofs.split.split.Given as goal

-- what is written and what is still to come are the blocks of the range, and behind them stands what stood there
abbrev pub invariant-loop-low : goal.invariant-loop-low
invariant-loop-low l =
    (take l.n l.out ++ split_of l.low l.span.high ≡ split_of l.span.low l.span.high)
    × (drop l.n l.out ≡ drop l.n l.initial.out)
    × (l.n ≤ 30)
    × (length l.out ≡ 30)

abbrev pub decreases-loop-low : goal.decreases-loop-low
decreases-loop-low l = l.high + 1 - l.low
