use Rattle.std.proofs.Common.{arith, rules}
use Rattle.captures.proofs.Magic.{begins_by_some}
use Rattle.captures.proofs.format.is_capture.Goals as goal

pub returns-clause-begins : goal.returns-clause-begins
returns-clause-begins c = begins_by_some c.args.file.now (λ i. omega (arith, c.type_inv.file i)) _ (search rules)
