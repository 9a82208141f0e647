use Rattle.std.proofs.Common.{◌≡◌, take}
use Rattle.taps.specs.Counts.{Counts, report_of, with_marks}
use Rattle.taps.specs.Held.{report_in, SameButCounts}
use Rattle.taps.proofs.inner.Inner.count.Given as goal

-- the marks so far are counted, and nothing else is changed
abbrev pub invariant-loop-mark : goal.invariant-loop-mark
invariant-loop-mark g l = record {
  counts : (c : Counts) → report_in l.initial.self ≡ report_of c → report_in l.self ≡ report_of (with_marks (take l.mark-index l.marks) c);
  rest : SameButCounts l.initial.self l.self;
}
