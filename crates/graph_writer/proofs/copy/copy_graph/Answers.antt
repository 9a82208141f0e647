use Rattle.std.proofs.Common.{length, Err, ap, ◌∙◌, ap₂, arith}
use Rattle.std.proofs.lemmas.Result.{err_from_is_err_and}
use Rattle.refusals.specs.Searching.{unless_fault}
use Rattle.headers.specs.Table.{minimum_in, standard_table}
use Rattle.graphs.specs.View.{graph_view}
use Rattle.graph_writer.specs.Writing.{area_after}
use Rattle.graph_writer.proofs.Copied.{copy_refused, copy_accepted, only_room}
use Rattle.graph_writer.proofs.copy.copy_graph.Goals as goal

pub returns-in_err-graph : goal.returns-in_err-graph
returns-in_err-graph c =
    let file = c.args.file.now in
    let area = c.args.area.now in
    let p = err_from_is_err_and c.from_residual.result c.from_residual.ensures.1 in
    let told = copy_refused (minimum_in standard_table) file (length area) c.in_err-graph.field-0.0 c.in_err-graph.ensures.is in
    record {
      is = p.1 ∙ ap Err p.2 ∙ ap (λ o. unless_fault o (length file)) told;
      area = ap (λ o. area_after o file area) told;
    }

pub returns : goal.returns
returns c =
    let file = c.args.file.now in
    let area = c.args.area.now in
    let g = c.in_ok-graph.graph in
    let read = copy_accepted (minimum_in standard_table) file (graph_view g) c.in_ok-graph.ensures.is in
    let same = c.in_ok-graph.ensures.answers.1 in
    let told = only_room (minimum_in standard_table) file (λ i. omega (arith, c.type_inv.file i)) read.0 g c.in_ok-graph.ensures.counts read.1 (length area) in
    record {
      is = c.write_graph.ensures.is ∙ ap₂ (λ o f. unless_fault o (length f)) told same;
      area = c.write_graph.ensures.area ∙ ap₂ (λ o f. area_after o f area) told same;
    }
