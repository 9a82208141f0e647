use Rattle.std.proofs.Common.{length, ap, ◌∙◌, subst}
use Rattle.refusals.specs.Least.{Answers}
use Rattle.headers.specs.Table.{minimum_in, minimum, standard_table}
use Rattle.headers.proofs.FieldPlaces.{fields_lie_inside}
use Rattle.graphs.specs.View.{graph_view}
use Rattle.walker.specs.Faults.{of_walk}
use Rattle.walker.specs.Refusals.{WalkApplies, walk_fault}
use Rattle.walker.specs.Walked.{WalkedAs}
use Rattle.walker.proofs.Fields.{answered_with}
use Rattle.walker.proofs.walk.walk.Goals as goal

pub returns : goal.returns
returns c =
    let g = graph_view c.args.graph.now in
    let p = c.args.packet.now in
    let before = c.args.marks.now in
    let after = c.walk_by.new.marks in
    let answers : Answers of_walk (WalkApplies minimum g (length p) (length before)) (WalkedAs minimum g p before after) c.walk_by.result =
    subst (λ table. Answers of_walk (WalkApplies (minimum_in table) g (length p) (length before)) (WalkedAs (minimum_in table) g p before after) c.walk_by.result)
    c.standard.ensures.is c.walk_by.ensures.answers in
    record {
      is = c.walk_by.ensures.is ∙ ap (λ table. walk_fault (minimum_in table) g (length p) (length before)) c.standard.ensures.is;
      answers = answers;
      fields = answered_with standard_table fields_lie_inside g p before after (WalkApplies minimum g (length p) (length before)) c.walk_by.result answers;
      kept = c.walk_by.ensures.kept;
    }
