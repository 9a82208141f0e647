use Rattle.std.proofs.Common.{◌≡◌, ◌+◌, ◌++◌, map, length, take}
use Rattle.compiler.specs.Held.{held}
use Rattle.compiler.proofs.lookups.+put_lookups.Given as goal

-- each call is over a shorter path
abbrev pub decreases-put_lookups : goal.decreases-put_lookups
decreases-put_lookups l = length l.path.now.behind.now

-- the node's places so far stand behind the others
abbrev pub invariant-loop-place : goal.invariant-loop-place
invariant-loop-place l = held l.lookups ≡ held l.initial.lookups ++ map (λ i. l.from + i) (take l.place-index l.place-items)
