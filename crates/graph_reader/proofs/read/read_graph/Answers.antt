use Rattle.std.proofs.Common.{◌≡◌, ap, ◌∙◌, subst}
use Rattle.refusals.specs.Least.{Answers}
use Rattle.headers.specs.Table.{minimum_in}
use Rattle.graph_reader.specs.Encoding.{encode}
use Rattle.graph_reader.specs.Faults.{of_read}
use Rattle.graph_reader.specs.Refusals.{Applies}
use Rattle.graph_reader.specs.Reading.{seen, reading}
use Rattle.graph_reader.proofs.read.read_graph.Goals as goal

pub returns : goal.returns
returns c =
    let file = c.args.file.now in
    let answer = seen c.read_graph_by.result in
    record {
      is = c.read_graph_by.ensures.is ∙ ap (λ table. reading (minimum_in table) file) c.standard.ensures.is;
      answers = subst (λ table. Answers of_read (Applies (minimum_in table) file) (λ nodes. encode nodes ≡ file) answer) c.standard.ensures.is c.read_graph_by.ensures.answers;
      counts = c.read_graph_by.ensures.counts;
    }
