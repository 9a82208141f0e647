use Rattle.std.proofs.Common.{refl, rules}
use Rattle.captures.proofs.Once.{counted_more, counted_all, counted_fault}
use Rattle.captures.proofs.survey.count_records.Goals as goal

pub loop-record-preserved : goal.loop-record-preserved
loop-record-preserved c = counted_more _ _ _ _ _ _ _ c.in_default.field-0 c.loop-record.invariant (search rules) refl

pub returns-in-Err : goal.returns-in-Err
returns-in-Err c = counted_fault _ _ _ _ _ c.next.new.self c.in-Err.fault c.loop-record.invariant (search rules)

pub returns : goal.returns
returns c = counted_all _ _ _ _ _ c.next.new.self c.loop-record.invariant (search rules)
