use Rattle.std.proofs.Common.{◌≡◌, ◌+◌, ◌++◌, length, take, ap, ◌∙◌, arith}
use Rattle.std.specs.List.{flat_map}
use Rattle.std.proofs.lemmas.List.{length-append}
use Rattle.octets.specs.Writing.{written}
use Rattle.graphs.specs.View.{no_node}
use Rattle.graph_writer.specs.Writing.{record_for, node_of}
use Rattle.graph_writer.proofs.Written.{part_behind}
use Rattle.graph_writer.proofs.Putting.{parts_more}
use Rattle.graph_writer.proofs.put.put_records.Goals as goal

pub loop-node-preserved : goal.loop-node-preserved
loop-node-preserved c =
    let nodes = c.args.nodes.now in
    let n = c.loop-node.node-index in
    let before = flat_map record_for (take n nodes) in
    let here = record_for (node_of nodes n) in
    let rec = c.put_record-size.ensures in
    let more : before ++ here ≡ flat_map record_for (take (n + 1) nodes) = parts_more record_for nodes n no_node c.loop-node-test.true in (
      part_behind c.args.area.now c.loop-node.area c.put_record-size.new.area before here c.loop-node.size
          c.loop-node.invariant.0 c.loop-node.invariant.1 (omega (arith, c.loop-node.invariant.2)) rec.area ∙ ap (written c.args.area.now 0) more,
      omega (arith, c.loop-node.invariant.1, rec.is, length-append before here, ap length more),
      omega (arith, c.loop-node.invariant.2, rec.rows.small),
    )
