use Rattle.std.proofs.Common.{sym, ◌∙◌}
use Rattle.slices.proofs.FirstLaws.{first_named}
use Rattle.slices.proofs.sliced.WordsTable64.first_fitting.Goals as goal

pub returns-clause-found : goal.returns-clause-found
returns-clause-found c = λ h. c.lowest_bit.ensures ∙ sym (first_named c.args.self.now.words c.args.held c.args.question.now c.all_named.result h c.all_named.ensures)
