use Rattle.headers.specs.Table.{minimum_in}
use Rattle.graphs.specs.View.{graph_view}
use Rattle.graphs.proofs.Refused.{answered}
use Rattle.graphs.proofs.check.check_graph.Goals as goal

pub returns : goal.returns
returns c =
    let is = c.first_fault.ensures in
    record { is = is; answers = answered (minimum_in c.args.table.now) (graph_view c.args.graph.now) c.first_fault.result is }
