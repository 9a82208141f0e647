use Rattle.readers.proofs.Fronting.{written_more, written_full}
use Rattle.readers.proofs.front.put.Goals as goal

pub returns-then-count-items : goal.returns-then-count-items
returns-then-count-items g c = λ before ws was. written_more before c.args.items.now c.args.count c.args.item ws was c.if-count-items.true

pub returns-else-count-items : goal.returns-else-count-items
returns-else-count-items g c = λ before ws was. written_full before c.args.items.now c.args.count c.args.item ws was c.if-count-items.false
