use Rattle.std.proofs.Common.{◌≡◌, ◌+◌, ◌*◌, ◌++◌, map, take, ap, ◌∙◌, sym, arith}
use Rattle.octets.specs.Writing.{written}
use Rattle.graphs.specs.View.{no_node, node_view}
use Rattle.graph_reader.specs.Encoding.{two, record_length, pairs_from}
use Rattle.graph_writer.specs.Writing.{node_of}
use Rattle.graph_writer.proofs.Written.{part_behind}
use Rattle.graph_writer.proofs.Putting.{pairs_so_far, pairs_more, sizes_more}
use Rattle.graph_writer.proofs.put.put_pairs.Goals as goal

pub loop-n-preserved : goal.loop-n-preserved
loop-n-preserved c =
    let nodes = c.args.nodes.now in
    let n = c.loop-n.n in
    let from = c.args.from in
    let next = c.loop-n.next in
    let rows = c.row_total.ensures in
    let size = record_length (node_view (node_of nodes n)) in
    let pair : c.pair_bytes.result ≡ two next ++ two size = c.pair_bytes.ensures ∙ ap (λ r. two next ++ two (16 + 10 * r)) rows.is in (
      part_behind c.args.area.now c.loop-n.area c.put.new.area (pairs_from from (map node_view (take n nodes))) c.pair_bytes.result (4 * n)
          c.loop-n.invariant.0 (sym (pairs_so_far nodes n no_node c.loop-n-test.true from)) (omega arith) c.put.ensures
          ∙ ap (λ x. written c.args.area.now 0 (pairs_from from (map node_view (take n nodes)) ++ x)) pair
          ∙ ap (written c.args.area.now 0) (pairs_more nodes n no_node c.loop-n-test.true from next c.loop-n.invariant.1),
      omega (arith, c.loop-n.invariant.1, rows.is, sizes_more nodes n no_node c.loop-n-test.true),
      omega (arith, c.loop-n.invariant.2, rows.few),
    )
