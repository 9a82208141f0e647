use Rattle.captures.proofs.Once.{Counted}
use Rattle.captures.proofs.survey.count_records.Given as goal

abbrev pub invariant-loop-record : goal.invariant-loop-record
invariant-loop-record l = Counted l.fn.format l.file l.from l.records l.record-iterator
