use Rattle.std.proofs.Common.{◌+◌, ◌*◌, [], ◌∷◌, length, arith}
use Rattle.std.specs.List.{flat_map}
use Rattle.graph_writer.specs.Writing.{record_for}
use Rattle.graph_writer.proofs.Written.{part_behind}
use Rattle.graph_writer.proofs.Putting.{pairs, pairs_long, file_length}
use Rattle.graph_writer.proofs.put.put_file.Goals as goal

pub returns : goal.returns
returns c =
    let ns = c.args.nodes.now in
    let area = c.args.area.now in
    record {
      is = omega (arith, c.put_records.ensures.is, file_length ns);
      area =
          part_behind area _ c.put_records.new.area (length ns ∷ 0 ∷ pairs ns) (flat_map record_for ns) (2 + 4 * length ns)
          (part_behind area c.put.new.area c.put_pairs.new.area (length ns ∷ 0 ∷ []) (pairs ns) 2 c.put.ensures (omega arith) (omega arith) c.put_pairs.ensures)
          (omega (arith, pairs_long ns)) (omega arith) c.put_records.ensures.area;
    }
