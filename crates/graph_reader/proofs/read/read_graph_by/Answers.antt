use Rattle.std.proofs.Common.{◌≡◌, Some, None, Ok, Err, ap, ◌∙◌, arith, rules}
use Rattle.std.proofs.lemmas.Result.{err_from_is_err_and}
use Rattle.headers.specs.Table.{minimum_in}
use Rattle.graphs.specs.View.{graph_view}
use Rattle.graph_reader.specs.Reading.{seen, reading}
use Rattle.graph_reader.proofs.Refused.{reading_graph, answered}
use Rattle.graph_reader.proofs.read.read_graph_by.Goals as goal

pub returns-in_err-check_shape : goal.returns-in_err-check_shape
returns-in_err-check_shape c =
    let least = minimum_in c.args.table.now in
    let file = c.args.file.now in
    let p = err_from_is_err_and c.from_residual.result c.from_residual.ensures.1 in
    let is : seen c.from_residual.result ≡ reading least file = search rules in
    record { is = is; answers = answered least file (λ i. omega (arith, c.type_inv.file i)) (seen c.from_residual.result) is; counts = rw p.1 tt }

pub returns-in_err-check_pairs : goal.returns-in_err-check_pairs
returns-in_err-check_pairs c =
    let least = minimum_in c.args.table.now in
    let file = c.args.file.now in
    let p = err_from_is_err_and c.from_residual-in_err-check_pairs.result c.from_residual-in_err-check_pairs.ensures.1 in
    let is : seen c.from_residual-in_err-check_pairs.result ≡ reading least file = search rules in
    record { is = is; answers = answered least file (λ i. omega (arith, c.type_inv.file i)) (seen c.from_residual-in_err-check_pairs.result) is; counts = rw p.1 tt }

pub returns-in_err-check_bytes : goal.returns-in_err-check_bytes
returns-in_err-check_bytes c =
    let least = minimum_in c.args.table.now in
    let file = c.args.file.now in
    let p = err_from_is_err_and c.from_residual-in_err-check_bytes.result c.from_residual-in_err-check_bytes.ensures.1 in
    let is : seen c.from_residual-in_err-check_bytes.result ≡ reading least file = search rules in
    record { is = is; answers = answered least file (λ i. omega (arith, c.type_inv.file i)) (seen c.from_residual-in_err-check_bytes.result) is; counts = rw p.1 tt }

pub returns-in_err-check_graph : goal.returns-in_err-check_graph
returns-in_err-check_graph c =
    let least = minimum_in c.args.table.now in
    let file = c.args.file.now in
    let r = c.from_residual-in_err-check_graph.result in
    let p = err_from_is_err_and r c.from_residual-in_err-check_graph.ensures.1 in
    let is : seen r ≡ reading least file =
    ap seen (p.1 ∙ ap Err p.2)
    ∙ reading_graph least file c.in_ok-check_shape.ensures c.in_ok-check_pairs.ensures c.in_ok-check_bytes.ensures
    (graph_view c.graph_in-graph.result) c.graph_in-graph.ensures.is (Some _) c.in_err-check_graph.ensures.is in
    record { is = is; answers = answered least file (λ i. omega (arith, c.type_inv.file i)) (seen r) is; counts = rw p.1 tt }

pub returns : goal.returns
returns c =
    let least = minimum_in c.args.table.now in
    let file = c.args.file.now in
    let graph = c.graph_in-graph.result in
    let is : seen (Ok graph) ≡ reading least file =
    reading_graph least file c.in_ok-check_shape.ensures c.in_ok-check_pairs.ensures c.in_ok-check_bytes.ensures
    (graph_view graph) c.graph_in-graph.ensures.is None c.in_ok-check_graph.ensures.is in
    record { is = is; answers = answered least file (λ i. omega (arith, c.type_inv.file i)) (seen (Ok graph)) is; counts = c.graph_in-graph.ensures.counts }
