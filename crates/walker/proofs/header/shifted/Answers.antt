use Rattle.std.proofs.Common.{◌/◌, ◌^◌, ap, ◌∙◌, arith}
use Rattle.walker.proofs.Heading.{shifted_or_out}
use Rattle.walker.proofs.header.shifted.Goals as goal

pub returns : goal.returns
returns c = c.unwrap_or.ensures ∙ shifted_or_out c.args.byte c.from.result c.checked_shr.result (omega arith) c.checked_shr.ensures ∙ ap (λ shift. c.args.byte / 2 ^ shift) c.from.ensures
