use Rattle.std.proofs.Common.{length, ap, ◌∙◌, subst}
use Rattle.refusals.specs.Searching.{unless_fault}
use Rattle.refusals.specs.Least.{Answers}
use Rattle.headers.specs.Table.{minimum_in}
use Rattle.graphs.specs.View.{graph_view}
use Rattle.graph_reader.specs.Encoding.{encode}
use Rattle.graph_writer.specs.Faults.{of_write}
use Rattle.graph_writer.specs.Writing.{write_fault, area_after}
use Rattle.graph_writer.specs.Refusals.{WriteApplies, ReadsBack, AnswersAsRead}
use Rattle.graph_writer.proofs.write.write_graph.Goals as goal

pub returns : goal.returns
returns c =
    let g = c.args.graph.now in
    let area = c.args.area.now in
    let file = encode (graph_view g) in
    let is = c.standard.ensures.is in
    record {
      is = c.write_graph_by.ensures.is ∙ ap (λ table. unless_fault (write_fault (minimum_in table) g (length area)) (length file)) is;
      area = c.write_graph_by.ensures.area ∙ ap (λ table. area_after (write_fault (minimum_in table) g (length area)) file area) is;
      answers =
          subst (λ table. Answers of_write (WriteApplies (minimum_in table) g (length area)) (λ _. ReadsBack (minimum_in table) (graph_view g)) c.write_graph_by.result) is
          c.write_graph_by.ensures.answers;
      as_read = subst (λ table. AnswersAsRead (minimum_in table) g (length area) c.write_graph_by.result) is c.write_graph_by.ensures.as_read;
    }
